-- Before the first read nothing is read ahead.
use Rattle.std.proofs.Common.{◌≡◌, ◌∙◌, [], ℕ, List, Option, false, true, ap, sym}
use Rattle.history_text.specs.Pieces.{Progress}
use Rattle.history_text.specs.Reading.{IsAhead}
use Rattle.history_text.specs.declared.reading.Reading.{Reading}
use Rattle.judging_tests.proofs.tests.texts.pieces.by_pieces.Goals as goal

nothing_ahead : (progress : Progress) (how : Reading) (unread : Option (List ℕ)) → progress ≡ record { reading = how; number = 1; skipped = 0; ahead = record { bytes = []; over = false } } → IsAhead progress.ahead unread
nothing_ahead progress how unread is = λ over.
    let bad : false ≡ true = sym (ap (λ (p : Progress). p.ahead.over) is) ∙ over in absurd cc

pub loop-pieces-init : goal.loop-pieces-init
loop-pieces-init g c = nothing_ahead c.new-lines.result _ (g.R.Read.remaining c.args.reader.now) c.new-lines.ensures
