use Rattle.history_window.proofs.Judging.{pieces_exclude}
use Rattle.history_window.proofs.laws.pieces_exclude.Goals as goal

pub returns : goal.returns
returns c = pieces_exclude c.forgetting_goes_on.ensures c.warming_follows.ensures
