use Rattle.std.proofs.Common.{rules, refl, ◌≡◌, Some, slice_get}
use Rattle.std.proofs.lemmas.Option.{slice_get_read}
use Rattle.shared_cache.specs.declared.list_place.ListPlace.{ListPlace}
use Rattle.shared_cache.proofs.LaneSettling.{all_within, next_within, outside_place}
use Rattle.shared_cache.proofs.claims.place_outside.Goals as goal

pub returns-in-Some-clause-some : goal.returns-in-Some-clause-some
returns-in-Some-clause-some c =
    let at : slice_get c.args.lists.now c.loop-pass.pass ≡ Some c.index-lists-pass.result = slice_get_read c.args.lists.now _ c.loop-pass.pass c.index-lists-pass.result refl c.loop-pass-test.true c.index-lists-pass.is in
    let place : ListPlace = record { pass = c.loop-pass.pass; call = c.in-Some.call } in
    outside_place c.args.lanes c.args.lists.now c.index-lists-pass.result place at c.loop-pass.invariant c.in-Some.ensures.some

pub loop-pass-preserved : goal.loop-pass-preserved
loop-pass-preserved c =
    let at : slice_get c.args.lists.now c.loop-pass.pass ≡ Some c.index-lists-pass.result = slice_get_read c.args.lists.now _ c.loop-pass.pass c.index-lists-pass.result refl c.loop-pass-test.true c.index-lists-pass.is in
    next_within c.args.lanes c.args.lists.now c.loop-pass.pass c.index-lists-pass.result at c.loop-pass.invariant c.in_default.ensures.none

pub returns-clause-none : goal.returns-clause-none
returns-clause-none c = all_within c.args.lanes c.args.lists.now c.loop-pass.pass (search rules) c.loop-pass.invariant
