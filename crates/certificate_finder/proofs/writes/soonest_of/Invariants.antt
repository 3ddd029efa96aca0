use Rattle.std.proofs.Common.{◌-◌, length}
use Rattle.certificate_finder.specs.Writing.{AreSoonest}
use Rattle.certificate_finder.proofs.writes.soonest_of.Given as goal

-- the last writes have the index of the one that ends first
abbrev pub invariant-loop-done : goal.invariant-loop-done
invariant-loop-done l = AreSoonest l.writes (length l.writes - l.done) l.soonest.items
