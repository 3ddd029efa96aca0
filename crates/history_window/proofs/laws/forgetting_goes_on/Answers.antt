use Rattle.history_window.proofs.Growing.{goes_on}
use Rattle.history_window.proofs.laws.forgetting_goes_on.Goals as goal

pub returns : goal.returns
returns c = goes_on c.window_stands.ensures c.unsettled_stand.ensures
