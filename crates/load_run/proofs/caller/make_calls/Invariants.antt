-- The pass has made the operations below the number.
use Rattle.std.proofs.Common.{◌≡◌}
use Rattle.load_run.specs.Calls.{IsAt}
use Rattle.load_run.proofs.caller.make_calls.Given as goal

abbrev pub invariant-loop-number : goal.invariant-loop-number
invariant-loop-number g l = (l.pass.sight.clock ≡ l.cache.clock) × IsAt l.cache.layout l.load l.fn.generator l.number l.fn.pass l.pass l.generator
