-- Call by call, the certificate lists what the heads count.
use Rattle.std.proofs.Common.{◌+◌, ◌<◌, ◌^◌, ℕ, List, sym, subst}
use Rattle.std.specs.Prelude.{slice_get, Some, None, IsSomeAnd}
use Rattle.history_recorder.specs.declared.lane_head.LaneHead.{LaneHead}
use Rattle.history_recorder.specs.Merging.{ListsNext, ListsSoFar}
use Rattle.history_recorder.proofs.Firsts.{first_read}
use Rattle.history_recorder.proofs.Listings.{left, position_fits, lists_more, fewer_left, all_written, moved_len, lists_none, lists_all}
use Rattle.history_recorder.proofs.merging.certificate_of.Goals as goal

pub list_next-position-requires : goal.list_next-position-requires
list_next-position-requires c =
    let lanes = c.args.lanes.now in
    let heads = c.loop-next.heads.items in
    let next = c.in-Some.next in
    let first = first_read lanes c.deref.result.now heads c.first_next.result (Some next) c.deref.ensures.value c.in-Some.is c.first_next.ensures in
    subst (λ (hs : List LaneHead). IsSomeAnd (slice_get hs next.lane) (λ head. head.first + head.listed < 2 ^ 32)) (sym c.deref_mut.ensures.value) (position_fits lanes heads c.loop-next.certificate next c.loop-next.invariant first c.requires.few)

pub loop-next-init : goal.loop-next-init
loop-next-init c =
    let lanes = c.args.lanes.now in
    let heads = c.in_ok-heads.heads.items in
    subst (λ (ps : List ℕ). ListsSoFar lanes heads ps) (sym c.new-certificate.ensures) (lists_none lanes heads c.in_ok-heads.ensures)

pub loop-next-smaller : goal.loop-next-smaller
loop-next-smaller c =
    let lanes = c.args.lanes.now in
    let heads = c.loop-next.heads.items in
    let new = c.list_next-position.new.heads in
    let next = c.in-Some.next in
    let position = c.list_next-position.result in
    let first = first_read lanes c.deref.result.now heads c.first_next.result (Some next) c.deref.ensures.value c.in-Some.is c.first_next.ensures in
    let moved : ListsNext heads new next.lane position = subst (λ (hs : List LaneHead). ListsNext hs new next.lane position) c.deref_mut.ensures.value c.list_next-position.ensures in
    let whole = all_written heads new c.loop-next.heads.len c.loop-next.heads.ok.0 (moved_len heads new next.lane position moved) in
    subst (λ (hs : List LaneHead). left lanes hs < left lanes heads) (sym whole) (fewer_left lanes heads new c.loop-next.certificate next position c.requires.rise c.loop-next.invariant first moved)

pub loop-next-preserved : goal.loop-next-preserved
loop-next-preserved c =
    let lanes = c.args.lanes.now in
    let heads = c.loop-next.heads.items in
    let new = c.list_next-position.new.heads in
    let next = c.in-Some.next in
    let position = c.list_next-position.result in
    let first = first_read lanes c.deref.result.now heads c.first_next.result (Some next) c.deref.ensures.value c.in-Some.is c.first_next.ensures in
    let moved : ListsNext heads new next.lane position = subst (λ (hs : List LaneHead). ListsNext hs new next.lane position) c.deref_mut.ensures.value c.list_next-position.ensures in
    let whole = all_written heads new c.loop-next.heads.len c.loop-next.heads.ok.0 (moved_len heads new next.lane position moved) in
    let more = lists_more lanes heads new c.loop-next.certificate next position c.requires.rise c.loop-next.invariant first moved in
    subst (λ (hs : List LaneHead). ListsSoFar lanes hs c.push.new.self) (sym whole) (subst (λ (ps : List ℕ). ListsSoFar lanes new ps) (sym c.in_ok-push.ensures.ok) more)

pub returns : goal.returns
returns c =
    let lanes = c.args.lanes.now in
    let heads = c.loop-next.heads.items in
    let none = first_read lanes c.deref.result.now heads c.first_next.result None c.deref.ensures.value c.in_default.is c.first_next.ensures in
    lists_all lanes heads c.loop-next.certificate c.loop-next.invariant none
