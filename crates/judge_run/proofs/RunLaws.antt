-- What was written, by the answer and the status.
use Rattle.std.proofs.Common.{◌≡◌, ◌≢◌, ℕ, arith, nat_lt, refl, false, Bool, List, Option, Result, Ok, Err, IfOk, ap, ◌∙◌, inl, inr}
use Rattle.std.proofs.lemmas.Bool.Decides.{nat_tests}
use Rattle.figures.specs.declared.form.Form.{Form}
use Rattle.judge_run.specs.declared.judge_end.JudgeEnd.{JudgeEnd}
use Rattle.judge_run.specs.declared.outcome.Outcome.{Outcome}
use Rattle.judge_run.specs.declared.tell_fault.TellFault.{TellFault}
use Rattle.judge_run.specs.declared.tell_fault.TellFault.TheVariants.{OutOfMemory, CountFull, ReadFault, WriteFault}
use Rattle.judge_run.specs.declared.outcome.Outcome.TheVariants.{Accepted, Rejected, Undecided, BadLine, BadTrace}
use Rattle.judge_run.specs.Ends.{IsEnded, end_at_least, end_of_outcome, status_of}
use Rattle.judge_run.specs.Runs.{CheckedOn}
use Rattle.judge_run.specs.TraceTold.{ToldTrace}

not_below : (n : ℕ) → nat_lt n 0 ≡ false
not_below n = grind (arith, nat_tests)

-- no history has too few calls if it may have none
none_is_few : (outcome : Outcome) → end_at_least 0 outcome ≡ end_of_outcome outcome
none_is_few (Accepted acceptance) = rw (not_below acceptance.recorded) refl
none_is_few (Rejected rejection) = refl
none_is_few (Undecided hits) = refl
none_is_few (BadLine bad) = refl
none_is_few (BadTrace fault) = refl

module _ (form : Form) (known left old new : Option (List ℕ)) (explain : Bool) (end : JudgeEnd) (status : ℕ) (ends : status ≡ status_of end) (other : status ≢ 3) where
  pub checked : (answer : Result Outcome TellFault) → IfOk answer (λ outcome. ToldTrace form known left explain outcome old new) → IsEnded 0 answer end → CheckedOn form known left explain old new status
  checked (Ok outcome) told (inl is) = record { outcome = outcome; status_is = ends ∙ ap status_of (is ∙ none_is_few outcome); told = told }
  checked (Ok outcome) told (inr (inl is)) = absurd (other (ends ∙ ap status_of is))
  checked (Ok outcome) told (inr (inr is)) = absurd (other (ends ∙ ap status_of is))
  checked (Err OutOfMemory) told is = absurd (other (ends ∙ ap status_of is))
  checked (Err CountFull) told is = absurd (other (ends ∙ ap status_of is))
  checked (Err ReadFault) told is = absurd (other (ends ∙ ap status_of is))
  checked (Err WriteFault) told is = absurd (other (ends ∙ ap status_of is))
