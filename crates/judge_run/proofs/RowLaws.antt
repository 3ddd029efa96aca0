-- The rows on a reader's bytes, by what was read of them.
use Rattle.std.proofs.Common.{◌≡◌, ◌≢◌, ℕ, List, length, Option, Some, None, Ok, Err, refl, sym, ap, ◌∙◌, subst, inl, inr, ◌⊎◌}
use Rattle.std.specs.Prelude.{IfSome}
use Rattle.std.specs.Io.KnownBytes.{IsAtEnd}
use Rattle.trace_file.specs.declared.trace.Trace.{Trace}
use Rattle.trace_file.specs.declared.trace_fault.TraceFault.{TraceFault}
use Rattle.trace_file.specs.declared.trace_fault.TraceFault.TheVariants.{BadMagic, TooMany, BadKind, BadKey, BadValue, Truncated, TrailingBytes, ReadFault, OutOfMemory}
use Rattle.trace_file.specs.declared.version.Version.{Version}
use Rattle.trace_file.specs.declared.version.Version.TheVariants.{Timed, Timeless}
use Rattle.trace_file.specs.Reading.{outcome_of, at_end, trace_at, place}
use Rattle.trace_file.specs.Text.{IsTraceOf, IsTrace}
use Rattle.trace_file.proofs.public_laws.TraceLaws.{trace_again}
use Rattle.trace_file.specs.Outcome.{IsFaultOf, Leaves}
use Rattle.certificate_checker.specs.declared.judged.Judged.{Judged}
use Rattle.figures.specs.Figures.{Row}
use Rattle.judge_run.specs.TraceRows.{AreFailedReadRows, AreJudged, AreRowsOn, AreVerdictRows}

-- the bytes of a trace of a form are read as its pair
outcome_in : (version : Version) (bytes : List ℕ) (t : Trace) → IsTraceOf version bytes t.history t.certificate → outcome_of bytes ≡ Ok t
unfolding outcome_of
outcome_in version bytes t is =
    ap (λ bs. at_end (length bytes) (trace_at (place 0 bs))) is.text ∙ ap (at_end (length bytes)) (trace_again version t.history t.certificate is.pair)

-- the bytes of a trace are read as its pair
trace_outcome : (bytes : List ℕ) (t : Trace) → IsTrace bytes t.history t.certificate → outcome_of bytes ≡ Ok t
trace_outcome bytes t (inl is) = outcome_in Timed bytes t is
trace_outcome bytes t (inr is) = outcome_in Timeless bytes t is

pub rows_on_trace : (known left : Option (List ℕ)) (t : Trace) (judged : Judged) (rows : List Row) → IfSome known (λ bytes. IsTrace bytes t.history t.certificate) → IsAtEnd left → AreVerdictRows t judged rows → AreRowsOn known left judged rows
rows_on_trace None left t judged rows is end told = record { read = Ok t; are = told; left_is = end; of_reader = tt }
rows_on_trace (Some bytes) left t judged rows is end told = record {
  read = Ok t;
  are = told;
  left_is = end;
  of_reader = inl (subst (λ read. AreJudged read judged rows) (sym (trace_outcome bytes t is)) told);
}

-- the fault of known bytes is their first, or a failed read's
of_fault : (bytes : List ℕ) (left : Option (List ℕ)) (fault : TraceFault) (judged : Judged) (rows : List Row) → fault ≢ OutOfMemory → IsFaultOf bytes fault → Leaves (Some bytes) left fault → AreJudged (Err fault) judged rows → AreJudged (outcome_of bytes) judged rows ⊎ AreFailedReadRows bytes left judged rows
of_fault bytes left (BadMagic at) judged rows other is leaves told = inl (subst (λ read. AreJudged read judged rows) (sym is) told)
of_fault bytes left (TooMany at) judged rows other is leaves told = inl (subst (λ read. AreJudged read judged rows) (sym is) told)
of_fault bytes left (BadKind at) judged rows other is leaves told = inl (subst (λ read. AreJudged read judged rows) (sym is) told)
of_fault bytes left (BadKey at) judged rows other is leaves told = inl (subst (λ read. AreJudged read judged rows) (sym is) told)
of_fault bytes left (BadValue at) judged rows other is leaves told = inl (subst (λ read. AreJudged read judged rows) (sym is) told)
of_fault bytes left (Truncated at) judged rows other is leaves told = inl (subst (λ read. AreJudged read judged rows) (sym is) told)
of_fault bytes left (TrailingBytes at) judged rows other is leaves told = inl (subst (λ read. AreJudged read judged rows) (sym is) told)
of_fault bytes left (ReadFault at) judged rows other is leaves told = inr (record { at = at; within = is.0; no_fault = is.1; taken = leaves; are = told })
of_fault bytes left OutOfMemory judged rows other is leaves told = absurd (other refl)

pub rows_on_fault : (known left : Option (List ℕ)) (fault : TraceFault) (judged : Judged) (rows : List Row) → fault ≢ OutOfMemory → IfSome known (λ bytes. IsFaultOf bytes fault) → Leaves known left fault → AreJudged (Err fault) judged rows → AreRowsOn known left judged rows
rows_on_fault None left fault judged rows other is leaves told = record { read = Err fault; are = told; left_is = leaves; of_reader = tt }
rows_on_fault (Some bytes) left fault judged rows other is leaves told = record {
  read = Err fault;
  are = told;
  left_is = leaves;
  of_reader = of_fault bytes left fault judged rows other is leaves told;
}
