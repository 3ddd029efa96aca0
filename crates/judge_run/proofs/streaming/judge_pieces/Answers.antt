-- Piece after piece, the stream goes on.
use Rattle.std.proofs.Common.{Option, subst}
use Rattle.history_text.specs.Pieces.{left_of}
use Rattle.judge_run.specs.declared.stream_end.StreamEnd.{StreamEnd}
use Rattle.judge_run.specs.Streams.{IsPieceEnd}
use Rattle.judge_run.proofs.streaming.judge_pieces.Goals as goal

pub loop-end-init : goal.loop-end-init
loop-end-init g c = record { ahead = c.requires.ahead; held = c.requires.held }

pub loop-end-preserved : goal.loop-end-preserved
loop-end-preserved g c =
    let rest = left_of c.judge_next.new.lines (g.R.Read.remaining c.judge_next.new.reader) in
    record {
      ahead = c.in-Ok-None.ensures.ahead;
      held = subst (λ (end : Option StreamEnd). IsPieceEnd c.args.rule (g.R.Read.remaining c.args.reader.now) rest c.judge_next.new.lines end c.judge_next.new.stream) c.in-Ok-None.field-0-is (c.in-Ok-None.ensures.judged (g.R.Read.remaining c.args.reader.now) c.loop-end.invariant.held);
    }

pub judge_next-requires-clause-ahead : goal.judge_next-requires-clause-ahead
judge_next-requires-clause-ahead g c = c.loop-end.invariant.ahead

pub judge_next-requires-clause-held : goal.judge_next-requires-clause-held
judge_next-requires-clause-held g c = (g.R.Read.remaining c.args.reader.now, c.loop-end.invariant.held)

pub returns-in-Ok-Some-clause-streamed : goal.returns-in-Ok-Some-clause-streamed
returns-in-Ok-Some-clause-streamed g c =
    let rest = left_of c.judge_next.new.lines (g.R.Read.remaining c.judge_next.new.reader) in
    subst (λ (end : Option StreamEnd). IsPieceEnd c.args.rule (g.R.Read.remaining c.args.reader.now) rest c.judge_next.new.lines end c.judge_next.new.stream) c.in-Ok-Some.field-0-is (c.in-Ok-Some.ensures.judged (g.R.Read.remaining c.args.reader.now) c.loop-end.invariant.held)

pub returns-in-Err-clause-fault : goal.returns-in-Err-clause-fault
returns-in-Err-clause-fault g c = c.in-Err.ensures.fault (g.R.Read.remaining c.args.reader.now) c.loop-end.invariant.held
