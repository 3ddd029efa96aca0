use Rattle.history_text.proofs.ReadBack.{histories_read}
use Rattle.history_text.proofs.laws.history_laws.Goals as goal

pub returns : goal.returns
returns c = record { back = histories_read }
