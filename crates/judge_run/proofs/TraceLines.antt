-- The report on a trace, by that on the pair that was read.
use Rattle.std.proofs.Common.{◌≡◌, ◌≢◌, ℕ, Bool, true, false, List, [], ◌∷◌, ◌++◌, ◌∙◌, length, codes, Option, refl, sym, ap, subst}
use Rattle.std.proofs.lemmas.List.{append-nil}
use Rattle.std.proofs.lemmas.List.Sums.{fold-append}
use Rattle.std.specs.Prelude.{IfSome}
use Rattle.std.specs.Io.KnownBytes.{IsAtEnd}
use Rattle.certificate_checker.specs.declared.judged.Judged.TheVariants as kinds
use Rattle.certificate_checker.specs.declared.verdict.Verdict.TheVariants as verdicts
use Rattle.certificate_checker.specs.VerdictLine.{bad_trace_line, verdict_line}
use Rattle.certificate_checker.proofs.public_laws.Judging.{line_on_fault, line_on_trace}
use Rattle.figures.specs.declared.form.Form.{Form}
use Rattle.figures.specs.declared.form.Form.TheVariants.{Lines, Json}
use Rattle.figures.specs.Figures.{Row, ended, text_of_rows, with_row}
use Rattle.trace_file.specs.declared.trace.Trace.{Trace}
use Rattle.trace_file.specs.declared.trace_fault.TraceFault.{TraceFault}
use Rattle.trace_file.specs.declared.trace_fault.TraceFault.TheVariants as faults
use Rattle.trace_file.specs.Outcome.{IsFaultOf, Leaves}
use Rattle.trace_file.specs.Text.{IsTrace}
use Rattle.judge_run.specs.declared.outcome.Outcome.{Outcome}
use Rattle.judge_run.specs.declared.outcome.Outcome.TheVariants.{Accepted, Rejected, Undecided, BadLine, BadTrace}
use Rattle.judge_run.specs.declared.rejection.Rejection.{Rejection}
use Rattle.judge_run.specs.Answers.{answered, begun, why_row}
use Rattle.judge_run.specs.Told.{IsBehind}
use Rattle.judge_run.specs.TraceRows.{bad_trace_rows, check_rows}
use Rattle.judge_run.specs.TraceTold.{IsBegunBy, IsPairTold, IsTraceTold, bad_trace_answer}
use Rattle.judge_run.proofs.RowLaws.{rows_on_fault, rows_on_trace}

-- an answer with nothing after it begins so
alone : (form : Form) (line : List ℕ) (rows : List Row) (told : List ℕ) → told ≡ answered form (line ++ codes "\n") rows → IsBegunBy form line rows told
alone Lines line rows told is = ([], is ∙ sym (append-nil (line ++ codes "\n")))
alone Json line rows told is = ([], is ∙ ap (text_of_rows Json) (sym (append-nil rows)))

-- the report on a rejection begins so
begins : (form : Form) (explain : Bool) (rejection : Rejection) (line : List ℕ) (rows : List Row) (told : List ℕ) → IsBehind form explain [] rejection (begun form (line ++ codes "\n") rows) told → IsBegunBy form line rows told
begins Lines true rejection line rows told is = (is.why ++ [], is.text_is)
begins Json true rejection line rows told is =
    (why_row (is.why ++ []) ∷ [], is.text_is ∙ ap (ended Json) (sym (fold-append (with_row Json) [] rows (why_row (is.why ++ []) ∷ []))))
begins Lines false rejection line rows told is = alone Lines line rows told is
begins Json false rejection line rows told is = alone Json line rows told is

pub of_pair : (form : Form) (known left : Option (List ℕ)) (explain : Bool) (trace : Trace) (outcome : Outcome) (told : List ℕ) → IfSome known (λ bytes. IsTrace bytes trace.history trace.certificate) → IsAtEnd left → IsPairTold form trace explain outcome told → IsTraceTold form known left explain outcome told
of_pair form known left explain trace (Accepted acceptance) told read end is =
    let calls = length trace.history in
    let line = verdict_line verdicts.Accepted calls in
    let rows = check_rows calls verdicts.Accepted in (
      record { trace = trace; read = read; end = end; is = is },
      record {
        line = line;
        rows = rows;
        line_on = line_on_trace known left trace kinds.Accepted line read end (record { verdict = verdicts.Accepted; is = is.2; kind = refl; line_is = refl });
        rows_on = rows_on_trace known left trace kinds.Accepted rows read end (record { verdict = verdicts.Accepted; is = is.2; kind = refl; rows_are = refl });
        begins = alone form line rows told is.3;
      },
    )
of_pair form known left explain trace (Rejected rejection) told read end is =
    let calls = length trace.history in
    let line = verdict_line (verdicts.Rejected is.fault) calls in
    let rows = check_rows calls (verdicts.Rejected is.fault) in (
      record { trace = trace; read = read; end = end; is = is },
      record {
        line = line;
        rows = rows;
        line_on = line_on_trace known left trace kinds.Rejected line read end (record { verdict = verdicts.Rejected is.fault; is = is.first; kind = refl; line_is = refl });
        rows_on = rows_on_trace known left trace kinds.Rejected rows read end (record { verdict = verdicts.Rejected is.fault; is = is.first; kind = refl; rows_are = refl });
        begins = begins form explain rejection line rows told is.behind;
      },
    )
of_pair form known left explain trace (Undecided hits) told read end is = absurd is
of_pair form known left explain trace (BadLine bad) told read end is = absurd is
of_pair form known left explain trace (BadTrace fault) told read end is = absurd is

pub of_fault : (form : Form) (known left : Option (List ℕ)) (explain : Bool) (fault : TraceFault) (outcome : Outcome) (told : List ℕ) → fault ≢ faults.OutOfMemory → IfSome known (λ bytes. IsFaultOf bytes fault) → Leaves known left fault → outcome ≡ BadTrace fault → told ≡ bad_trace_answer form fault → IsTraceTold form known left explain outcome told
of_fault form known left explain fault outcome told other read leaves bad is =
    subst (λ (o : Outcome). IsTraceTold form known left explain o told) (sym bad)
    (record {
      line_on = line_on_fault known left fault kinds.BadTrace (bad_trace_line fault) other read leaves (refl, refl);
      rows_on = rows_on_fault known left fault kinds.BadTrace (bad_trace_rows fault) other read leaves (refl, refl);
      told_is = is;
    })
