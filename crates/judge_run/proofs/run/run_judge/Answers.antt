-- The standard input is the system's.
use Rattle.judge_run.proofs.run.run_judge.Goals as goal

pub returns : goal.returns
returns g c = record { input = _; left = _; is = c.judge_with.ensures }
