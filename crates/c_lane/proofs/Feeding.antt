-- A trace that is fed in one piece.
use Rattle.std.proofs.Common.{◌≡◌, ◌≢◌, ℕ, List, [], ◌++◌, Some, Result, Ok, Err, sym, ap, subst, ◌∙◌}
use Rattle.std.specs.Prelude.{IfOk}
use Rattle.std.proofs.lemmas.List.{append-nil}
use Rattle.trace_file.specs.declared.trace_fault.TraceFault.{TraceFault}
use Rattle.trace_file.specs.declared.trace_fault.TraceFault.TheVariants.{OutOfMemory}
use Rattle.trace_file.specs.Reading.{outcome_of, first_fault_of}
use Rattle.trace_file.proofs.public_laws.Readings.{fault_is}

-- the fault that was met in bytes that are fed first is what they give, whole
pub fault_of_fed : (fed : Result (List ℕ) TraceFault) (bytes : List ℕ) (f : TraceFault) → fed ≡ Ok [] →
    IfOk fed (λ stream. f ≢ OutOfMemory → (more : List ℕ) → first_fault_of (stream ++ bytes ++ more) ≡ Some f) →
    f ≢ OutOfMemory → outcome_of bytes ≡ Err f
fault_of_fed fed bytes f fresh first known =
    let met : (more : List ℕ) → first_fault_of (bytes ++ more) ≡ Some f =
    subst (λ (r : Result (List ℕ) TraceFault). IfOk r (λ stream. f ≢ OutOfMemory → (more : List ℕ) → first_fault_of (stream ++ bytes ++ more) ≡ Some f)) fresh first known in
    (fault_is bytes f (ap first_fault_of (sym (append-nil bytes)) ∙ met [])).0
