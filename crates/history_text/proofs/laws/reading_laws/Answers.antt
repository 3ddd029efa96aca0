use Rattle.history_text.proofs.PieceLaws.{texts_spelled}
use Rattle.history_text.proofs.laws.reading_laws.Goals as goal

pub returns : goal.returns
returns c = record { spelled = texts_spelled }
