-- A head more for each lane.
use Rattle.std.proofs.Common.{◌≡◌, ◌+◌, length, ◌∷◌, [], ◌++◌, refl, sym, subst, arith}
use Rattle.std.specs.Prelude.{slice_get, Some}
use Rattle.std.proofs.lemmas.Option.{slice_get_read}
use Rattle.history_recorder.proofs.Starts.{StartsBelow, head_more, ends_within, all_start}
use Rattle.history_recorder.proofs.merging.heads_of.Goals as goal

pub overflow_cast-first : goal.overflow_cast-first
overflow_cast-first c =
    let lanes = c.args.lanes.now in
    let i = c.loop-lane.lane-index in
    let lane = c.lane-item.result in
    let found : slice_get lanes i ≡ Some lane = slice_get_read lanes (length lanes) i lane refl (omega arith) c.lane-item.is in
    let ends = ends_within lanes c.loop-lane.heads.items i c.loop-lane.first lane c.loop-lane.invariant found in
    let len = c.len.ensures in
    let few = c.requires in
    omega (arith, ends, len, few)

pub overflow_add-first : goal.overflow_add-first
overflow_add-first c =
    let lanes = c.args.lanes.now in
    let i = c.loop-lane.lane-index in
    let lane = c.lane-item.result in
    let found : slice_get lanes i ≡ Some lane = slice_get_read lanes (length lanes) i lane refl (omega arith) c.lane-item.is in
    let ends = ends_within lanes c.loop-lane.heads.items i c.loop-lane.first lane c.loop-lane.invariant found in
    let len = c.len.ensures in
    let few = c.requires in
    omega (arith, ends, len, few)

pub loop-lane-preserved : goal.loop-lane-preserved
loop-lane-preserved c =
    let lanes = c.args.lanes.now in
    let i = c.loop-lane.lane-index in
    let first = c.loop-lane.first in
    let lane = c.lane-item.result in
    let found : slice_get lanes i ≡ Some lane = slice_get_read lanes (length lanes) i lane refl (omega arith) c.lane-item.is in
    let more = head_more lanes c.loop-lane.heads.items i first lane c.loop-lane.invariant found in
    subst (λ heads. StartsBelow lanes heads (i + 1) (first + c.len.result)) (sym c.in_ok-push.ensures.items)
    (subst (λ n. StartsBelow lanes (c.loop-lane.heads.items ++ record { first = first; listed = 0 } ∷ []) (i + 1) (first + n)) (sym c.len.ensures) more)

pub returns : goal.returns
returns c =
    let lanes = c.args.lanes.now in
    let heads = c.loop-lane.heads.items in
    let all : c.loop-lane.lane-index ≡ length lanes = omega arith in
    all_start lanes heads c.loop-lane.first (subst (λ n. StartsBelow lanes heads n c.loop-lane.first) all c.loop-lane.invariant)
