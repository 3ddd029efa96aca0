-- What is judged with a piece.
use Rattle.history_text.specs.Text.{text_by}
use Rattle.judge_run.specs.Streams.{judged_of}
use Rattle.judge_run.proofs.StreamLaws.{joined_many, judged_last}
use Rattle.judge_run.proofs.streaming.warm_piece.Goals as goal

pub warm_if-requires : goal.warm_if-requires
warm_if-requires g c =
    let stream = c.args.stream.now in
    let parted = c.part_if.new.text in
    let text = c.put_before.new.text in
    joined_many stream.kept.history parted.history stream.kept.lines.items parted.lines.items (text_by text.history text.lines.items text.callers) parted.callers c.in-Ok-put_before.ensures c.requires.kept c.in-Ok.ensures.as_many

pub returns-in-Ok-warm_if-clause-judged : goal.returns-in-Ok-warm_if-clause-judged
returns-in-Ok-warm_if-clause-judged g c = λ known left progress was.
    let rule = c.args.rule in
    let stream = c.args.stream.now in
    let parted = c.part_if.new.text in
    let text = c.put_before.new.text in
    let warm = c.warm_if.new.text in
    let waiting = c.in-Ok.waiting in
    judged_last rule.scope rule.window rule.least known left progress stream.kept.history stream.kept.lines.items
    (judged_of stream)
    (text_by parted.history parted.lines.items parted.callers)
    (text_by text.history text.lines.items text.callers)
    (text_by warm.history warm.lines.items warm.callers)
    waiting.history waiting.lines.items stream.latest stream.forgotten c.args.over c.saturating_sub-bound.result c.in-Ok-warm_if.from_start
    c.saturating_sub-bound.ensures c.in-Ok.ensures.parted c.in-Ok.ensures.callers c.in-Ok-put_before.ensures
    c.in-Ok-warm_if.ensures.warmed
    c.in-Ok-warm_if.ensures.as_many c.in-Ok.ensures.waiting was
