use Rattle.history_window.proofs.Having.{accepted_have_past}
use Rattle.history_window.proofs.laws.accepted_have_past.Goals as goal

pub returns : goal.returns
returns c = accepted_have_past c.forgetting_goes_on.ensures c.warming_follows.ensures c.keys_are_warmed_once.ensures
