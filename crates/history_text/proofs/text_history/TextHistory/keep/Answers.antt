-- As many lines stay as calls.
use Rattle.std.proofs.Common.{List, ap, length, slice_get, sym, ◌∙◌}
use Rattle.std.specs.List.{filter_map}
use Rattle.history_text.proofs.KeepLaws.{kept_alike}
use Rattle.history_text.proofs.text_history.TextHistory.keep.Goals as goal

pub returns-clause-as_many : goal.returns-clause-as_many
returns-clause-as_many g c = λ same.
    ap length c.in_ok-lines.ensures
    ∙ ap (λ (lines : List _). length (filter_map (slice_get lines) c.args.positions.now)) c.as_slice.ensures.value
    ∙ kept_alike c.args.self.now.lines.items c.args.self.now.history same c.args.positions.now
    ∙ sym (ap length c.in_ok-history.ensures)
