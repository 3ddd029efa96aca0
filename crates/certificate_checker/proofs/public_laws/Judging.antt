-- The line on a reader's bytes, by what was read of them; and that bytes have one verdict line.
use Rattle.std.proofs.Common.{◌≡◌, ◌≢◌, ℕ, List, length, Option, Some, None, Result, Ok, Err, refl, sym, ap, ◌∙◌, subst, inl, inr, ◌⊎◌}
use Rattle.std.specs.Prelude.{IfSome}
use Rattle.std.specs.Io.KnownBytes.{IsAtEnd}
use Rattle.trace_file.specs.declared.trace.Trace.{Trace}
use Rattle.trace_file.specs.declared.trace_fault.TraceFault.{TraceFault}
use Rattle.trace_file.specs.declared.trace_fault.TraceFault.TheVariants.{BadMagic, TooMany, BadKind, BadKey, BadValue, Truncated, TrailingBytes, ReadFault, OutOfMemory}
use Rattle.trace_file.specs.declared.version.Version.{Version}
use Rattle.trace_file.specs.declared.version.Version.TheVariants.{Timed, Timeless}
use Rattle.trace_file.specs.Reading.{outcome_of, at_end, trace_at, place}
use Rattle.trace_file.specs.Text.{IsTraceOf, IsTrace}
use Rattle.trace_file.proofs.public_laws.TraceLaws.{trace_again}
use Rattle.trace_file.specs.Outcome.{IsFaultOf, Leaves}
use Rattle.certificate_checker.specs.declared.judged.Judged.{Judged}
use Rattle.certificate_checker.specs.declared.judged.Judged.TheVariants as kinds
use Rattle.certificate_checker.specs.declared.verdict.Verdict.{Verdict}
use Rattle.certificate_checker.specs.declared.verdict.Verdict.TheVariants.{Accepted, Rejected}
use Rattle.certificate_checker.specs.VerdictLine.{verdict_line, bad_trace_line}
use Rattle.certificate_checker.specs.Judgements.{kind_of, IsVerdict, IsTold, IsJudged, IsVerdictLineOf, IsFailedReadOf, IsLineOn}
use Rattle.certificate_checker.proofs.public_laws.Accepting.{no_fault}
use Rattle.certificate_checker.proofs.Deciding.{accepted_or_first, one_first_fault}

-- the bytes of a trace of a form are read as its pair
outcome_in : (version : Version) (bytes : List ℕ) (t : Trace) → IsTraceOf version bytes t.history t.certificate → outcome_of bytes ≡ Ok t
unfolding outcome_of
outcome_in version bytes t is =
    ap (λ bs. at_end (length bytes) (trace_at (place 0 bs))) is.text ∙ ap (at_end (length bytes)) (trace_again version t.history t.certificate is.pair)

-- the bytes of a trace are read as its pair
trace_outcome : (bytes : List ℕ) (t : Trace) → IsTrace bytes t.history t.certificate → outcome_of bytes ≡ Ok t
trace_outcome bytes t (inl is) = outcome_in Timed bytes t is
trace_outcome bytes t (inr is) = outcome_in Timeless bytes t is

pub line_on_trace : (known left : Option (List ℕ)) (t : Trace) (judged : Judged) (line : List ℕ) → IfSome known (λ bytes. IsTrace bytes t.history t.certificate) → IsAtEnd left → IsTold t judged line → IsLineOn known left judged line
line_on_trace None left t judged line is end told = record { read = Ok t; is = told; left_is = end; of_reader = tt }
line_on_trace (Some bytes) left t judged line is end told = record {
  read = Ok t;
  is = told;
  left_is = end;
  of_reader = inl (subst (λ read. IsJudged read judged line) (sym (trace_outcome bytes t is)) told);
}

-- the fault of known bytes is their first, or a failed read's
of_fault : (bytes : List ℕ) (left : Option (List ℕ)) (fault : TraceFault) (judged : Judged) (line : List ℕ) → fault ≢ OutOfMemory → IsFaultOf bytes fault → Leaves (Some bytes) left fault → IsJudged (Err fault) judged line → IsVerdictLineOf bytes judged line ⊎ IsFailedReadOf bytes left judged line
of_fault bytes left (BadMagic at) judged line other is leaves told = inl (subst (λ read. IsJudged read judged line) (sym is) told)
of_fault bytes left (TooMany at) judged line other is leaves told = inl (subst (λ read. IsJudged read judged line) (sym is) told)
of_fault bytes left (BadKind at) judged line other is leaves told = inl (subst (λ read. IsJudged read judged line) (sym is) told)
of_fault bytes left (BadKey at) judged line other is leaves told = inl (subst (λ read. IsJudged read judged line) (sym is) told)
of_fault bytes left (BadValue at) judged line other is leaves told = inl (subst (λ read. IsJudged read judged line) (sym is) told)
of_fault bytes left (Truncated at) judged line other is leaves told = inl (subst (λ read. IsJudged read judged line) (sym is) told)
of_fault bytes left (TrailingBytes at) judged line other is leaves told = inl (subst (λ read. IsJudged read judged line) (sym is) told)
of_fault bytes left (ReadFault at) judged line other is leaves told = inr (record { at = at; within = is.0; no_fault = is.1; taken = leaves; is = told })
of_fault bytes left OutOfMemory judged line other is leaves told = absurd (other refl)

pub line_on_fault : (known left : Option (List ℕ)) (fault : TraceFault) (judged : Judged) (line : List ℕ) → fault ≢ OutOfMemory → IfSome known (λ bytes. IsFaultOf bytes fault) → Leaves known left fault → IsJudged (Err fault) judged line → IsLineOn known left judged line
line_on_fault None left fault judged line other is leaves told = record { read = Err fault; is = told; left_is = leaves; of_reader = tt }
line_on_fault (Some bytes) left fault judged line other is leaves told = record {
  read = Err fault;
  is = told;
  left_is = leaves;
  of_reader = of_fault bytes left fault judged line other is leaves told;
}

-- ---- one verdict line

some_line : (read : Result Trace TraceFault) → (judged : Judged) × (line : List ℕ) × IsJudged read judged line
some_line (Ok t) = elim (accepted_or_first t.history t.certificate) [
  | inl accepted ↦ (kinds.Accepted, verdict_line Accepted (length t.history), record { verdict = Accepted; is = accepted; kind = refl; line_is = refl })
  | inr first ↦ (kinds.Rejected, verdict_line (Rejected first.0) (length t.history), record { verdict = Rejected first.0; is = first.1; kind = refl; line_is = refl })
]
some_line (Err fault) = (kinds.BadTrace, bad_trace_line fault, (refl, refl))

pub some_verdict_line : (bytes : List ℕ) → (judged : Judged) × (line : List ℕ) × IsVerdictLineOf bytes judged line
some_verdict_line bytes = some_line (outcome_of bytes)

one_verdict : (t : Trace) (one other : Verdict) → IsVerdict t one → IsVerdict t other → one ≡ other
one_verdict t Accepted Accepted a b = refl
one_verdict t Accepted (Rejected fault) a b = absurd (no_fault t.history t.certificate a fault b.found)
one_verdict t (Rejected fault) Accepted a b = absurd (no_fault t.history t.certificate b fault a.found)
one_verdict t (Rejected fault) (Rejected another) a b = ap Rejected (one_first_fault t.history t.certificate fault another a b)

one_line : (read : Result Trace TraceFault) (judged other : Judged) (line another : List ℕ) → IsJudged read judged line → IsJudged read other another → (judged ≡ other) × (line ≡ another)
one_line (Ok t) judged other line another a b =
    let same = one_verdict t a.verdict b.verdict a.is b.is in (
      a.kind ∙ ap kind_of same ∙ sym b.kind,
      a.line_is ∙ ap (λ verdict. verdict_line verdict (length t.history)) same ∙ sym b.line_is,
    )
one_line (Err fault) judged other line another a b = (a.0 ∙ sym b.0, a.1 ∙ sym b.1)

pub one_verdict_line : (bytes : List ℕ) (judged other : Judged) (line another : List ℕ) → IsVerdictLineOf bytes judged line → IsVerdictLineOf bytes other another → (judged ≡ other) × (line ≡ another)
one_verdict_line bytes = one_line (outcome_of bytes)
