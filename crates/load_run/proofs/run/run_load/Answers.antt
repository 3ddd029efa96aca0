-- The run that the status and the lines are of.
use Rattle.load_run.proofs.run.run_load.Goals as goal

pub returns : goal.returns
returns g c = record {
  end = c.run_to_end-ended.result.end;
  status_is = c.status.ensures;
  shares = c.run_to_end-ended.ensures.shares;
  wrote = c.run_to_end-ended.ensures.wrote;
  accepted = c.run_to_end-ended.ensures.accepted;
}
