use Rattle.history_recorder.proofs.RunsKept.{sound_runs}
use Rattle.history_recorder.proofs.laws.runs_are_sound.Goals as goal

pub returns : goal.returns
returns c = sound_runs
