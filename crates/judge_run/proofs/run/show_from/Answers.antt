-- What was written, and then flushed.
use Rattle.std.proofs.Common.{ap}
use Rattle.judge_run.specs.Ends.{status_of}
use Rattle.judge_run.proofs.ShowLaws.{shown_and_kept}
use Rattle.judge_run.proofs.run.show_from.Goals as goal

pub returns-in-Ok-shown : goal.returns-in-Ok-shown
returns-in-Ok-shown g c = λ other. record {
  shown = c.in-Ok-shown.shown;
  status_is = ap status_of c.told_of.ensures;
  wrote = rw (← c.lent.ensures) (shown_and_kept _ _ _ _ _ c.in-Ok-shown.shown c.in-Ok-shown.ensures.ok c.flush.ensures.bytes);
}
