use Rattle.certificate_finder.specs.Unreading.{AreTops, IsTop}
use Rattle.std.proofs.Common.{◌-◌}
use Rattle.certificate_finder.proofs.by_ends.tops_of.Given as goal

-- the zones so far have their tops, and this is the last one
abbrev pub invariant-loop-index : goal.invariant-loop-index
invariant-loop-index l = record {
  tops : AreTops l.zones l.index l.tops.items;
  top : IsTop l.zones (l.index - 1) l.top;
}
