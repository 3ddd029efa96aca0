-- What was written if the callers of a load ended.
use Rattle.std.proofs.Common.{◌==◌, ℕ, Bool, true, false, List, Option, if◌then◌else◌, inl, inr, refl, subst, sym}
use Rattle.load.specs.declared.serve_load.ServeLoad.{ServeLoad}
use Rattle.serve_load.specs.declared.report.Report.{Report}
use Rattle.serve_load.specs.declared.serve_end.ServeEnd.{ServeEnd}
use Rattle.serve_load.specs.declared.serve_end.ServeEnd.TheVariants as ends
use Rattle.serve_load.specs.declared.told_hit.ToldHit.{ToldHit}
use Rattle.serve_load.specs.Reports.{IsMade}
use Rattle.serve_load.specs.Serving.{IsSaid, IsTold, WroteReport}

by_wrong : (load : ServeLoad) (old new : Option (List ℕ)) (none : Bool) → IsTold load old new (if none then ends.Right else ends.WrongHit) → WroteReport load old new (if none then ends.Right else ends.WrongHit)
by_wrong load old new true told = told
by_wrong load old new false told = told

-- the end of a load whose report was written is one at which it is
pub said_report : (load : ServeLoad) (report : Report) (hits : List ToldHit) (old new : Option (List ℕ)) (end : ServeEnd) → IsMade load report hits → IsSaid load report hits old new end → WroteReport load old new end
said_report load report hits old new end made (inl told) =
    subst (λ (e : ServeEnd). WroteReport load old new e) (sym told.1) (by_wrong load old new (report.wrong_hits == 0) (record {
      report = report;
      hits = hits;
      made = made;
      wrote = told.0;
      ended = refl;
    }))
said_report load report hits old new end made (inr (inl refused)) = subst (λ (e : ServeEnd). WroteReport load old new e) (sym refused.0) refused.1
said_report load report hits old new end made (inr (inr failed)) = subst (λ (e : ServeEnd). WroteReport load old new e) (sym failed) tt
