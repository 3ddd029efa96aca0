use Rattle.std.proofs.Common.{◌≡◌, take}
use Rattle.std.specs.Prelude.{string_bytes}
use Rattle.std.specs.List.{flat_map}
use Rattle.history_picture.specs.Sentences.{also_words}
use Rattle.history_picture.proofs.scene.Scene.also.Given as goal

abbrev pub invariant-loop-put : goal.invariant-loop-put
invariant-loop-put l =
    string_bytes l.text ≡ flat_map (also_words l.self.history.now l.self.lines.now l.hit) (take l.put-index l.puts)
