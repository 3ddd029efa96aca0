use Rattle.std.proofs.Common.{◌≡◌, map}
use Rattle.history_recorder.specs.Books.{closed}
use Rattle.history_recorder.proofs.ledger.Ledger.into_dones.Given as goal

-- the calls of the lanes so far are done
abbrev pub invariant-loop-calls : goal.invariant-loop-calls
invariant-loop-calls l = l.lanes.items ≡ map (λ calls. map (closed l.last) calls) l.yielded
