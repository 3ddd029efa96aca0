-- What was written is what is said of the history that was made.
use Rattle.std.proofs.Common.{subst₂, sym}
use Rattle.load_run.specs.Wholes.{IsWhole}
use Rattle.load_run.proofs.Saying.{said_accepted, said_summary}
use Rattle.load_run.proofs.run.run_over.Goals as goal

pub returns-clause-wrote : goal.returns-clause-wrote
returns-clause-wrote g c =
    let made = c.in-Ok-run_cache.made in
    let summary = c.in-Ok-summary_of.summary in
    let told = c.in-Ok-summary_of.ensures in
    let whole = subst₂ (λ calls stopped. IsWhole c.args.load.now calls stopped) (sym told.is.calls) (sym told.stopped) c.in-Ok-run_cache.ensures.whole in
    said_summary c.args.load.now c.of.result summary made.finished.history made.finished.certificate _ _ c.write_summary.result.end c.of.ensures told.is whole c.write_summary.ensures

pub returns-clause-accepted : goal.returns-clause-accepted
returns-clause-accepted g c = λ honest.
    let accepted = c.in-Ok-summary_of.ensures.is.verdict.1 (c.in-Ok-run_cache.ensures.accepted (λ k d less. honest _)) in
    said_accepted c.of.result c.in-Ok-summary_of.summary _ _ c.write_summary.result.end accepted c.write_summary.ensures
