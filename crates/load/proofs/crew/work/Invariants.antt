-- The lane is one of the cache, and fewer lanes than all were idle.
use Rattle.std.proofs.Common.{◌≡◌, ◌<◌}
use Rattle.load.proofs.crew.work.Given as goal

abbrev pub invariant-loop : goal.invariant-loop
invariant-loop g l =
    ((goal.iterator-loop g).can_next l.iterator' × (goal.iterator-loop g).is_finite l.iterator') × (l.lanes ≡ g.C.Crew.lanes l.crew) × (l.lane < l.lanes) × (l.idle < l.lanes)

abbrev pub invariant-loop-lane : goal.invariant-loop-lane
invariant-loop-lane g l = l.lanes ≡ g.C.Crew.lanes l.crew
