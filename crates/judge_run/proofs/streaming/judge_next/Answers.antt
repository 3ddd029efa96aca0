-- The next piece is read and judged.
use Rattle.std.proofs.Common.{ℕ, subst}
use Rattle.history_text.specs.Pieces.{left_of}
use Rattle.judge_run.specs.Scopes.{IsCounted}
use Rattle.judge_run.proofs.StreamLaws.{ended_so, some_map}
use Rattle.judge_run.proofs.streaming.judge_next.Goals as goal

pub judge_piece-requires-clause-kept : goal.judge_piece-requires-clause-kept
judge_piece-requires-clause-kept g c = (c.in-Ok.ensures.taken c.requires.held.0 c.requires.held.1).as_many

pub judge_piece-requires-clause-asked : goal.judge_piece-requires-clause-asked
judge_piece-requires-clause-asked g c = (c.in-Ok.ensures.taken c.requires.held.0 c.requires.held.1).asked_many

pub returns-in-Ok-judge_piece-clause-judged : goal.returns-in-Ok-judge_piece-clause-judged
returns-in-Ok-judge_piece-clause-judged g c = λ known held.
    c.in-Ok-judge_piece.ensures.judged known (left_of c.take_piece.new.lines (g.R.Read.remaining c.take_piece.new.reader)) c.take_piece.new.lines (c.in-Ok.ensures.taken known held)
    (λ over. ended_so known _ _ _ held.going.read.goes_on (c.in-Ok.ensures.over over))
    (subst (λ (n : ℕ). IsCounted c.args.rule.scope.reading.skip_bad n c.counted-skipped.result) c.skipped.ensures c.counted-skipped.ensures)

pub returns-in-Ok-judge_piece-clause-whole : goal.returns-in-Ok-judge_piece-clause-whole
returns-in-Ok-judge_piece-clause-whole g c = some_map c.in-Ok-judge_piece.end _ _ (λ told is accepted. c.in-Ok.ensures.end (is accepted)) c.in-Ok-judge_piece.ensures.whole

pub returns-in-Err-judge_piece-clause-fault : goal.returns-in-Err-judge_piece-clause-fault
returns-in-Err-judge_piece-clause-fault g c = λ known held.
    c.in-Err-judge_piece.ensures.fault known (left_of c.take_piece.new.lines (g.R.Read.remaining c.take_piece.new.reader)) c.take_piece.new.lines (c.in-Ok.ensures.taken known held)

pub returns-in-Ok-judge_piece-clause-more : goal.returns-in-Ok-judge_piece-clause-more
returns-in-Ok-judge_piece-clause-more g c = λ none. c.in-Ok.ensures.more (c.in-Ok-judge_piece.ensures.more none)
