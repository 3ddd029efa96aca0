-- The lines that tell verdicts.
use Rattle.std.specs.Prelude.{◌≡◌, ℕ, List, ◌++◌, length, codes}
use Rattle.std.specs.Fmt.{decimal}
use Rattle.trace_file.specs.declared.call.Call.{Call}
use Rattle.trace_file.specs.declared.trace_fault.TraceFault.{TraceFault}
use Rattle.trace_file.specs.FaultText.{trace_fault_text}
use Rattle.certificate_checker.specs.declared.fault.Fault.{Fault}
use Rattle.certificate_checker.specs.declared.verdict.Verdict.{Verdict}
use Rattle.certificate_checker.specs.declared.verdict.Verdict.TheVariants.{Accepted, Rejected}
use Rattle.certificate_checker.specs.FaultText.{fault_text}
use Rattle.certificate_checker.specs.Acceptance.{IsAccepted}
use Rattle.certificate_checker.specs.Faults.{IsFirstFault}

-- the line of a verdict on this many calls, without its line feed
abbrev pub verdict_line : Verdict → ℕ → List ℕ
verdict_line Accepted calls = codes "accepted " ++ decimal calls ++ codes " calls"
verdict_line (Rejected fault) calls = codes "rejected " ++ fault_text fault

-- a line tells the verdict on a pair: that it is accepted, or its first fault
pub record TellsVerdict (history : List Call) (certificate line : List ℕ) : Type 0 where
  pub accepted : IsAccepted history certificate → line ≡ verdict_line Accepted (length history)
  pub rejected : (IsAccepted history certificate → ⊥) → (fault : Fault) × IsFirstFault history certificate fault × (line ≡ verdict_line (Rejected fault) (length history))

-- the line of what is no trace, without its line feed
abbrev pub bad_trace_line : TraceFault → List ℕ
bad_trace_line fault = codes "bad trace " ++ trace_fault_text fault
