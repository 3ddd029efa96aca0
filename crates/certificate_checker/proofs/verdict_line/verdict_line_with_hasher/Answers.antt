-- The two verdicts.
use Rattle.std.proofs.Common.{◌≡◌, ℕ, List, length, refl, ◌∙◌, ap}
use Rattle.std.specs.Prelude.{◌↔◌}
use Rattle.trace_file.specs.declared.call.Call.{Call}
use Rattle.certificate_checker.specs.declared.fault.Fault.{Fault}
use Rattle.certificate_checker.specs.declared.verdict.Verdict.{Verdict}
use Rattle.certificate_checker.specs.declared.verdict.Verdict.TheVariants.{Accepted, Rejected}
use Rattle.certificate_checker.specs.Acceptance.{IsAccepted}
use Rattle.certificate_checker.specs.Faults.{IsFirstFault}
use Rattle.certificate_checker.specs.VerdictLine.{verdict_line, TellsVerdict}
use Rattle.certificate_checker.proofs.verdict_line.verdict_line_with_hasher.Goals as goal

tells : (history : List Call) (certificate line : List ℕ) (verdict : Verdict) → ((verdict ≡ Accepted) ↔ IsAccepted history certificate) → ((fault : Fault) → verdict ≡ Rejected fault → IsFirstFault history certificate fault) → line ≡ verdict_line verdict (length history) → TellsVerdict history certificate line
tells history certificate line Accepted accepted rejected is = record {
  accepted = λ _. is;
  rejected = λ other. absurd (other (accepted.0 refl));
}
tells history certificate line (Rejected fault) accepted rejected is = record {
  accepted = λ holds. let same : Rejected fault ≡ Accepted = accepted.1 holds in cc;
  rejected = λ _. (fault, rejected fault refl, is);
}

pub returns-in-Ok : goal.returns-in-Ok
returns-in-Ok g c =
    tells c.args.history.now c.args.certificate.now _ c.in_ok-verdict.verdict c.in_ok-verdict.ensures.accepted c.in_ok-verdict.ensures.rejected (c.in-Ok.ensures ∙ ap (verdict_line c.in_ok-verdict.verdict) c.len.ensures.count)
