use Rattle.std.proofs.Common.{◌≡◌, ◌++◌, take}
use Rattle.std.specs.List.{flat_map}
use Rattle.history_picture.specs.Arrows.{read_arrows}
use Rattle.history_picture.proofs.arrows.push_unread.Given as goal

abbrev pub invariant-loop-writes : goal.invariant-loop-writes
invariant-loop-writes l = l.arrows.items ≡ l.fn.arrows.items ++ flat_map read_arrows (take l.writes-index l.few)
