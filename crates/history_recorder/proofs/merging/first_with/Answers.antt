-- The first of the next calls with one lane more.
use Rattle.std.proofs.Common.{length, get_or, refl, subst, arith}
use Rattle.std.proofs.lemmas.Option.{slice_get_read, slice_get-get_or}
use Rattle.history_recorder.specs.Merging.{IsFirstBelow}
use Rattle.history_recorder.proofs.Firsts.{next_read, still_first, only_one, new_first, same_first}
use Rattle.history_recorder.proofs.merging.first_with.Goals as goal

pub returns-then-listed-len : goal.returns-then-listed-len
returns-then-listed-len c =
    let lanes = c.args.lanes.now in
    let heads = c.args.heads.now in
    let number = c.args.number in
    let lane = c.index-lanes-number.result in
    let len = c.len.ensures in
    let past = c.if-listed-len.true in
    still_first lanes heads number c.args.first lane (get_or heads number (record { first = 0; listed = 0 }))
    (slice_get_read lanes (length lanes) number lane refl c.requires.in_lanes c.index-lanes-number.is)
    (slice_get-get_or heads number (record { first = 0; listed = 0 }) c.requires.in_heads)
    (omega (arith, len, past))
    c.requires.first

pub returns-in-None : goal.returns-in-None
returns-in-None c =
    let lanes = c.args.lanes.now in
    let heads = c.args.heads.now in
    let number = c.args.number in
    let next = next_read lanes heads number c.index-lanes-number.result (record { first = 0; listed = 0 }) c.point.result c.requires.in_lanes c.requires.in_heads c.index-lanes-number.is c.point.ensures in
    only_one lanes heads number next.0 c.point.result next.1 next.2 (subst (IsFirstBelow lanes heads number) c.in-None.is c.requires.first)

pub returns-then-next-held : goal.returns-then-next-held
returns-then-next-held c =
    let lanes = c.args.lanes.now in
    let heads = c.args.heads.now in
    let number = c.args.number in
    let next = next_read lanes heads number c.index-lanes-number.result (record { first = 0; listed = 0 }) c.point.result c.requires.in_lanes c.requires.in_heads c.index-lanes-number.is c.point.ensures in
    let before = c.if-next-held.true in
    new_first lanes heads number next.0 c.point.result c.in-Some.held next.1 next.2 (omega (arith, before)) (subst (IsFirstBelow lanes heads number) c.in-Some.is c.requires.first)

pub returns-else-next-held : goal.returns-else-next-held
returns-else-next-held c =
    let lanes = c.args.lanes.now in
    let heads = c.args.heads.now in
    let number = c.args.number in
    let next = next_read lanes heads number c.index-lanes-number.result (record { first = 0; listed = 0 }) c.point.result c.requires.in_lanes c.requires.in_heads c.index-lanes-number.is c.point.ensures in
    let before = c.if-next-held.false in
    same_first lanes heads number next.0 c.point.result c.in-Some.held next.1 next.2 (omega (arith, before)) (subst (IsFirstBelow lanes heads number) c.in-Some.is c.requires.first)
