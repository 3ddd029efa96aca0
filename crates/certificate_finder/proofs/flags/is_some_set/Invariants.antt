use Rattle.std.proofs.Common.{◌≡◌, ℕ, ◌<◌, Bool, false, Some}
use Rattle.std.specs.Prelude.{slice_get}
use Rattle.certificate_finder.proofs.flags.is_some_set.Given as goal

-- no flag so far is set
abbrev pub invariant-loop-index : goal.invariant-loop-index
invariant-loop-index l = (k : ℕ) (flag : Bool) → k < l.index → slice_get l.flags k ≡ Some flag → flag ≡ false
