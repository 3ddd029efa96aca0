use Rattle.std.proofs.Common.{◌≡◌, ◌≤◌, take, All}
use Rattle.rriparoo.specs.Ageing.{IsWithin, farthest}
use Rattle.rriparoo.proofs.ageing.farthest_of.Given as goal

-- the farthest of the items so far
abbrev pub invariant-loop-item : goal.invariant-loop-item
invariant-loop-item l = record {
  value : l.far ≡ farthest (take l.item-index l.items);
  range : l.far ≤ 7;
  bound : All (IsWithin l.far) (take l.item-index l.items);
}
