use Rattle.history_window.proofs.Growing.{standing_more}
use Rattle.history_window.proofs.laws.standing_grows.Goals as goal

pub returns : goal.returns
returns c = standing_more
