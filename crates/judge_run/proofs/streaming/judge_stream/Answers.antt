-- Nothing is held of a stream before it is read.
use Rattle.std.proofs.Common.{ap, refl}
use Rattle.history_text.specs.Text.{Text, text_by}
use Rattle.judge_run.proofs.StreamLaws.{going_first, nothing_ahead}
use Rattle.judge_run.proofs.streaming.judge_stream.Goals as goal

pub judge_pieces-requires-clause-ahead : goal.judge_pieces-requires-clause-ahead
judge_pieces-requires-clause-ahead g c = nothing_ahead c.new-lines.result c.args.scope.reading (g.R.Read.remaining c.args.reader.now) c.new-lines.ensures

pub judge_pieces-requires-clause-held : goal.judge_pieces-requires-clause-held
judge_pieces-requires-clause-held g c =
    let kept = c.new.result in
    let text = c.new-2.result in
    let waiting = c.new-3.result in
    record {
      going = going_first c.args.scope c.args.window c.args.least (g.R.Read.remaining c.args.reader.now) c.new-lines.result (text_by kept.history kept.lines.items text.callers) waiting.history waiting.lines.items 0 0 _ c.new-lines.ensures (λ i. text_by (c.new.ensures.calls i) (c.new.ensures.lines i) (ap (λ (t : Text). t.callers) c.new-2.ensures i)) c.new-3.ensures.calls c.new-3.ensures.lines refl refl refl;
      no_calls = ap (λ (t : Text). t.calls) c.new-2.ensures;
      no_lines = ap (λ (t : Text). t.lines) c.new-2.ensures;
    }
