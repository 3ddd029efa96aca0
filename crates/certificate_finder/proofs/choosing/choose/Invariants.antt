use Rattle.std.proofs.Common.{take}
use Rattle.certificate_finder.specs.Choosing.{ChoosesBy}
use Rattle.certificate_finder.specs.Lining.{positions_in}
use Rattle.certificate_finder.specs.Offering.{AreGroups, ReadsIn, times_in}
use Rattle.certificate_finder.proofs.choosing.choose.Given as goal

-- the hits so far have their puts
abbrev pub invariant-loop-index : goal.invariant-loop-index
invariant-loop-index l = record {
  groups : AreGroups l.steps l.groups;
  chosen : ChoosesBy l.rule (ReadsIn l.steps) (times_in l.steps) l.initial.groups.owners.items (take l.index (positions_in l.hits)) l.groups.owners.items;
}
