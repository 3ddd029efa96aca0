-- The first fault of a trace that is rejected, with what is reported after it.
use Rattle.std.proofs.Common.{◌≡◌, ◌∙◌, List, [], ℕ, ap, length, subst}
use Rattle.certificate_checker.specs.declared.verdict.Verdict.{Verdict}
use Rattle.certificate_checker.specs.declared.verdict.Verdict.TheVariants.{Rejected}
use Rattle.judge_run.specs.Told.{IsBehind}
use Rattle.judge_run.specs.TraceTold.{verdict_begun}
use Rattle.std.specs.Prelude.{string_bytes}
use Rattle.judge_run.proofs.checking.told_pair.Goals as goal

pub returns-in_ok-text-in-Rejected : goal.returns-in_ok-text-in-Rejected
returns-in_ok-text-in-Rejected g c =
    let form = c.args.form in
    let begun : string_bytes c.in_ok-text.text ≡ verdict_begun form (Rejected c.in-Rejected.fault) (length c.args.trace.history) =
    c.in_ok-text.ensures
    ∙ ap (λ (v : Verdict). verdict_begun form v c.len.result) c.in-Rejected.is
    ∙ ap (λ n. verdict_begun form (Rejected c.in-Rejected.fault) n) c.len.ensures.count in record {
      fault = c.in-Rejected.fault;
      first = c.in_ok-verdict.ensures.rejected c.in-Rejected.fault c.in-Rejected.is;
      is = c.rejection_of-rejection.ensures;
      behind = subst (λ (l : List ℕ). IsBehind form c.args.explain [] c.rejection_of-rejection.result l (string_bytes c.in_ok-text-in-Rejected.text)) begun c.in_ok-text-in-Rejected.ensures;
    }
