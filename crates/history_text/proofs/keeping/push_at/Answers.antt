-- At a position after the last no call stands.
use Rattle.std.proofs.Common.{[], ap, arith, sym, ◌++◌, ◌∙◌}
use Rattle.std.specs.List.{cons_option}
use Rattle.std.proofs.lemmas.List.{append-nil}
use Rattle.history_text.proofs.KeepLaws.{none_after}
use Rattle.history_text.proofs.keeping.push_at.Goals as goal

pub returns-else-position-len : goal.returns-else-position-len
returns-else-position-len c =
    let count = c.len.ensures.count in
    let past = c.if-position-len.false in
    sym (ap (λ found. c.args.calls.now ++ cons_option found []) (none_after c.args.history.now c.args.position (omega (arith, count, past))) ∙ append-nil c.args.calls.now)
