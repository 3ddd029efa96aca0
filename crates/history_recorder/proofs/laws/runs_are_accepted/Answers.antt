use Rattle.history_recorder.proofs.RunsKept.{accepted_runs}
use Rattle.history_recorder.proofs.laws.runs_are_accepted.Goals as goal

pub returns : goal.returns
returns c = accepted_runs
