use Rattle.std.proofs.Common.{◌++◌, ◌∙◌, ap, subst, arith, rules}
use Rattle.trace_file.specs.Lent.{call_shown}
use Rattle.history_picture.specs.Nearest.{AreNearest}
use Rattle.history_picture.proofs.Choosing.{added, added_none}
use Rattle.history_picture.proofs.shown.push_nearest.Goals as goal

pub returns : goal.returns
returns c =
    let old = c.args.shown.now.items in
    let near = c.in_ok-near.near.items in
    added c.args.history.now c.args.first c.args.most (call_shown c.in-Some.call) c.in-Some.ensures old c.extend_from_slice.new.self.items near c.saturating_sub-room.result c.requires
    (omega (arith, c.saturating_sub-room.ensures, c.len.ensures)) (c.in_ok-extend_from_slice.ensures.items ∙ ap (λ xs. old ++ xs) c.as_slice-2.ensures.value)
    (subst (λ without. AreNearest c.args.history.now (call_shown c.in-Some.call) without c.saturating_sub-room.result near) c.as_slice.ensures.value c.in_ok-near.ensures)

pub returns-in_default : goal.returns-in_default
returns-in_default c = added_none c.args.history.now c.args.first c.args.most c.args.shown.now.items c.requires (search rules)
