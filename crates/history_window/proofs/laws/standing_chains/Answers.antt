use Rattle.history_window.proofs.Growing.{standing_chain}
use Rattle.history_window.proofs.laws.standing_chains.Goals as goal

pub returns : goal.returns
returns c = standing_chain
