use Rattle.std.proofs.Common.{◌≡◌, ℕ, ◌<◌}
use Rattle.std.specs.Prelude.{slice_get, Some}
use Rattle.certificate_finder.specs.declared.numbered_call.NumberedCall.{NumberedCall}
use Rattle.certificate_finder.proofs.mixing.keys_in.Given as goal

-- the number is above the keys of the calls so far
abbrev pub invariant-loop-position : goal.invariant-loop-position
invariant-loop-position l = (position : ℕ) (step : NumberedCall) → position < l.position → slice_get l.steps position ≡ Some step → step.key < l.keys
