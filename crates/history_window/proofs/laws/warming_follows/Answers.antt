use Rattle.history_window.proofs.Warming.{follows}
use Rattle.history_window.proofs.laws.warming_follows.Goals as goal

pub returns : goal.returns
returns c = follows
