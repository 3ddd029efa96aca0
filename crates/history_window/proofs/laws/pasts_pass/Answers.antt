use Rattle.history_window.proofs.Passing.{pasts_pass}
use Rattle.history_window.proofs.laws.pasts_pass.Goals as goal

pub returns : goal.returns
returns c = pasts_pass c.forgetting_goes_on.ensures c.warming_follows.ensures c.keys_are_warmed_once.ensures
