use Rattle.std.proofs.Common.{refl, sym, ◌∙◌, ◌≡◌, Some, slice_get, subst}
use Rattle.std.proofs.lemmas.Option.{slice_get_read}
use Rattle.shared_cache.specs.declared.list_place.ListPlace.{ListPlace}
use Rattle.shared_cache.specs.Settled.{IsMade, IsStrangeAt}
use Rattle.shared_cache.proofs.LaneSettling.{next_list, strange_place}
use Rattle.shared_cache.proofs.settling.claim_listed.Goals as goal

pub returns-in-Some-clause-strange : goal.returns-in-Some-clause-strange
returns-in-Some-clause-strange c =
    let v = c.loop-pass.invariant in
    let at : slice_get c.args.lists.now c.loop-pass.pass ≡ Some c.index-lists-pass.result = slice_get_read c.args.lists.now _ c.loop-pass.pass c.index-lists-pass.result refl c.loop-pass-test.true c.index-lists-pass.is in
    let place : ListPlace = record { pass = c.loop-pass.pass; call = c.in-Some.call } in
    subst (λ r. IsStrangeAt c.args.lane r c.args.lists.now place) v.calls
    (strange_place c.args.lane c.loop-pass.claims.calls c.args.lists.now c.index-lists-pass.result place at c.in-Some.ensures.within (c.in-Some.ensures.strange _ v.made))

pub loop-pass-preserved : goal.loop-pass-preserved
loop-pass-preserved c =
    let v = c.loop-pass.invariant in
    let at : slice_get c.args.lists.now c.loop-pass.pass ≡ Some c.index-lists-pass.result = slice_get_read c.args.lists.now _ c.loop-pass.pass c.index-lists-pass.result refl c.loop-pass-test.true c.index-lists-pass.is in
    record {
      calls = c.in_default.ensures.calls ∙ v.calls;
      made = subst (IsMade c.args.lane c.claim_calls.new.claims) (sym (next_list c.args.lists.now c.loop-pass.pass c.index-lists-pass.result at)) (c.in_default.ensures.made _ v.made);
    }
