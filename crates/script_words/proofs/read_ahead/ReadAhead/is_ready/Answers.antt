use Rattle.std.proofs.Common.{sym, ap, ◌∙◌}
use Rattle.script_words.specs.Lines.{Ahead, is_ready_within}
use Rattle.script_words.proofs.FirstLine.{ahead_of, ready_by_feed}
use Rattle.script_words.proofs.read_ahead.ReadAhead.is_ready.Goals as goal

pub returns-else-ahead-clause-ready : goal.returns-else-ahead-clause-ready
returns-else-ahead-clause-ready g c =
    let known = c.if-ahead.false in
    let bytes = c.ahead-ahead.ensures.value ∙ sym (ap (λ (a : Ahead). a.bytes) c.self.view_is) in
    ready_by_feed g.row.LINE c.ahead-ahead.result.now c.self.inside.over c.line_len.result c.line_len.ensures.value known.0 known.1
    ∙ ap (is_ready_within g.row.LINE) (ap (λ b. ahead_of b c.self.inside.over) bytes ∙ c.self.view_is)
