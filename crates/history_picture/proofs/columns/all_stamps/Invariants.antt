use Rattle.std.proofs.Common.{◌≡◌, take}
use Rattle.std.specs.List.{flat_map}
use Rattle.history_picture.specs.Scale.{stamps_at}
use Rattle.history_picture.proofs.columns.all_stamps.Given as goal

abbrev pub invariant-loop-position : goal.invariant-loop-position
invariant-loop-position l = l.stamps.items ≡ flat_map (stamps_at l.history) (take l.position-index l.shown)
