use Rattle.history_window.proofs.Growing.{unsettled_stands}
use Rattle.history_window.proofs.laws.unsettled_stand.Goals as goal

pub returns : goal.returns
returns c = unsettled_stands c.lines_are_acceptable.ensures
