use Rattle.history_window.proofs.Spotting.{line_acceptable}
use Rattle.history_window.proofs.laws.lines_are_acceptable.Goals as goal

pub returns : goal.returns
returns c = λ history line order intervals agree lawful. line_acceptable history line order intervals agree lawful c.sorted_spots_are_accepted.ensures
