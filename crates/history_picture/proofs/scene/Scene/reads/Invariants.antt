use Rattle.std.proofs.Common.{◌≡◌, take}
use Rattle.std.specs.Prelude.{string_bytes}
use Rattle.std.specs.List.{flat_map}
use Rattle.history_picture.specs.Sentences.{read_words}
use Rattle.history_picture.proofs.scene.Scene.reads.Given as goal

abbrev pub invariant-loop-writes : goal.invariant-loop-writes
invariant-loop-writes l =
    string_bytes l.text ≡ flat_map (read_words l.self.history.now l.self.lines.now) (take l.writes-index l.reads)
