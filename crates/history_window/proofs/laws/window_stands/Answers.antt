use Rattle.history_window.proofs.Growing.{window_stand}
use Rattle.history_window.proofs.laws.window_stands.Goals as goal

pub returns : goal.returns
returns c = window_stand c.lines_are_acceptable.ensures
