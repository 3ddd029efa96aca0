use Rattle.history_text.specs.Reading.{IsAhead}
use Rattle.judging_tests.proofs.tests.texts.pieces.by_pieces.Given as goal

-- what was read ahead is the last of the input only at its end
abbrev pub invariant-loop-pieces : goal.invariant-loop-pieces
invariant-loop-pieces g l = IsAhead l.lines.ahead (g.R.Read.remaining l.reader)
