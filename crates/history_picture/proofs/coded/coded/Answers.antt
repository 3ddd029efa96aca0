use Rattle.std.proofs.Common.{sym, subst}
use Rattle.history_picture.specs.Plain.{IsPlain}
use Rattle.history_picture.proofs.PlainTexts.{plain_word}
use Rattle.history_picture.proofs.coded.coded.Goals as goal

pub cut-requires : goal.cut-requires
cut-requires c = subst IsPlain (sym c.in_ok-word.ensures) (plain_word c.args.bytes.now)
