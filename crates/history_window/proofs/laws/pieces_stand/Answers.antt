use Rattle.history_window.proofs.Judging.{pieces_stand}
use Rattle.history_window.proofs.laws.pieces_stand.Goals as goal

pub returns : goal.returns
returns c = pieces_stand c.forgetting_goes_on.ensures c.warming_follows.ensures
