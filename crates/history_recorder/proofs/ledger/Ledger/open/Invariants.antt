use Rattle.std.proofs.Common.{◌≡◌, replicate, []}
use Rattle.history_recorder.specs.declared.phase.Phase.TheVariants as phases
use Rattle.history_recorder.proofs.ledger.Ledger.open.Given as goal

-- this many callers are idle
abbrev pub invariant-loop : goal.invariant-loop
invariant-loop l = l.phases.items ≡ replicate l.counter phases.Idle

-- and this many lanes have no calls
abbrev pub invariant-loop-2 : goal.invariant-loop-2
invariant-loop-2 l = (l.phases.items ≡ replicate l.callers phases.Idle) × (l.lists.items ≡ replicate l.counter [])
