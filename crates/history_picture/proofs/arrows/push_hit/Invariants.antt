use Rattle.std.proofs.Common.{◌≡◌, ◌++◌, take}
use Rattle.std.specs.List.{flat_map}
use Rattle.history_picture.specs.Arrows.{excluded_arrows}
use Rattle.history_picture.proofs.arrows.push_hit.Given as goal

abbrev pub invariant-loop-put : goal.invariant-loop-put
invariant-loop-put l = l.arrows.items ≡ l.fn.arrows.items ++ flat_map (excluded_arrows l.hit) (take l.put-index l.few)
