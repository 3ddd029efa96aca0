-- What was written if a run was judged.
use Rattle.std.proofs.Common.{◌≡◌, ◌≢◌, ◌∙◌, ◌==◌, ℕ, Bool, true, false, List, Option, if◌then◌else◌, inl, inr, refl, subst, sym}
use Rattle.trace_file.specs.declared.call.Call.{Call}
use Rattle.certificate_checker.specs.declared.verdict.Verdict.{Verdict}
use Rattle.certificate_checker.specs.declared.verdict.Verdict.TheVariants.{Accepted, Rejected}
use Rattle.figures.specs.declared.form.Form.{Form}
use Rattle.figures.specs.Figures.{form_of}
use Rattle.load.specs.declared.load.Load.{Load}
use Rattle.load_run.specs.declared.run_end.RunEnd.{RunEnd}
use Rattle.load_run.specs.declared.run_end.RunEnd.TheVariants as ends
use Rattle.load_run.specs.declared.summary.Summary.{Summary}
use Rattle.load_run.specs.Ends.{end_of_verdict}
use Rattle.load_run.specs.Runs.{IsSaid, IsSummaryOf, IsTold, WroteSummary}
use Rattle.load_run.specs.Wholes.{IsWhole}

by_stop : (load : Load) (old new : Option (List ℕ)) (none : Bool) → IsTold load old new (if none then ends.Accepted else ends.Stopped) → WroteSummary load old new (if none then ends.Accepted else ends.Stopped)
by_stop load old new true told = told
by_stop load old new false told = told

-- the end of a run that was judged is one at which its summary is written
by_verdict : (load : Load) (old new : Option (List ℕ)) (verdict : Verdict) (stopped : ℕ) → IsTold load old new (end_of_verdict verdict stopped) → WroteSummary load old new (end_of_verdict verdict stopped)
by_verdict load old new (Rejected fault) stopped told = told
by_verdict load old new Accepted stopped told = by_stop load old new (stopped == 0) told

by_said : (load : Load) (summary : Summary) (history : List Call) (certificate : List ℕ) (old new : Option (List ℕ)) (end : RunEnd) → IsSummaryOf summary history certificate → IsWhole load summary.calls summary.stopped → IsSaid (form_of load.json) summary old new end → WroteSummary load old new end
by_said load summary history certificate old new end is whole (inl told) =
    subst (λ (e : RunEnd). WroteSummary load old new e) (sym told.1) (by_verdict load old new summary.verdict summary.stopped (record {
      summary = summary;
      history = history;
      certificate = certificate;
      is = is;
      whole = whole;
      wrote = told.0;
      ended = refl;
    }))
by_said load summary history certificate old new end is whole (inr (inl refused)) = subst (λ (e : RunEnd). WroteSummary load old new e) (sym refused.0) refused.1
by_said load summary history certificate old new end is whole (inr (inr failed)) = subst (λ (e : RunEnd). WroteSummary load old new e) (sym failed) tt

pub said_summary : (load : Load) (form : Form) (summary : Summary) (history : List Call) (certificate : List ℕ) (old new : Option (List ℕ)) (end : RunEnd) → form ≡ form_of load.json → IsSummaryOf summary history certificate → IsWhole load summary.calls summary.stopped → IsSaid form summary old new end → WroteSummary load old new end
said_summary load form summary history certificate old new end same is whole said =
    by_said load summary history certificate old new end is whole (subst (λ (f : Form). IsSaid f summary old new end) same said)

-- ---- what was accepted is not told as rejected

by_count : (none : Bool) → (if none then ends.Accepted else ends.Stopped) ≢ ends.Rejected
by_count true bad = absurd cc
by_count false bad = absurd cc

not_rejected : (verdict : Verdict) (stopped : ℕ) → verdict ≡ Accepted → end_of_verdict verdict stopped ≢ ends.Rejected
not_rejected (Rejected fault) stopped is = absurd cc
not_rejected Accepted stopped is = by_count (stopped == 0)

memory_apart : (end : RunEnd) → end ≡ ends.OutOfMemory → end ≢ ends.Rejected
memory_apart end is bad = absurd cc

fault_apart : (end : RunEnd) → end ≡ ends.FileFault → end ≢ ends.Rejected
fault_apart end is bad = absurd cc

pub said_accepted : (form : Form) (summary : Summary) (old new : Option (List ℕ)) (end : RunEnd) → summary.verdict ≡ Accepted → IsSaid form summary old new end → end ≢ ends.Rejected
said_accepted form summary old new end is (inl told) bad = not_rejected summary.verdict summary.stopped is (sym told.1 ∙ bad)
said_accepted form summary old new end is (inr (inl refused)) bad = memory_apart end refused.0 bad
said_accepted form summary old new end is (inr (inr failed)) bad = fault_apart end failed bad
