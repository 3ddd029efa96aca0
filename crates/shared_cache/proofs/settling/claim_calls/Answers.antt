use Rattle.std.proofs.Common.{rules, refl, ap, ◌∙◌, ◌≡◌, ◌++◌, take, length, ◌+◌, subst}
use Rattle.std.proofs.lemmas.List.{take_all}
use Rattle.shared_cache.specs.Listed.{listed_shown}
use Rattle.shared_cache.specs.Claimed.{Claims}
use Rattle.shared_cache.specs.Settled.{IsMade, IsStrangeIn}
use Rattle.shared_cache.proofs.LaneSettling.{next_claimed, next_passed, strange_at, unfit}
use Rattle.shared_cache.proofs.settling.claim_calls.Goals as goal
use Rattle.shared_cache.proofs.settling.claim_calls.Goals.{else-lane_at-lane-via-then-lane_at-lane+else-not-claim, else-lane_at-lane-via-else-lane_at-lane}

pub returns-then-not-claim-clause-strange : goal.returns-then-not-claim-clause-strange
returns-then-not-claim-clause-strange c = λ before made.
    let v = c.loop-place.invariant in
    let l = listed_shown c.at.result in
    let of : l.lane ≡ c.args.lane = search rules in
    let m = v.made before made in
    subst (λ r. IsStrangeIn c.args.lane r (before ++ c.args.calls.now) (length before + c.loop-place.place)) v.calls
    (strange_at c.args.lane c.loop-place.claims.calls c.args.calls.now before l c.loop-place.place c.at.ensures of m.own
    (unfit c.args.lane c.loop-place.claims (before ++ take c.loop-place.place c.args.calls.now) l m of (λ fits. let never = c.if-not-claim.ensures.fits.1 fits in absurd cc)))

pub loop-place-preserved : goal.loop-place-preserved
loop-place-preserved c =
    let v = c.loop-place.invariant in
    elim c.else-lane_at-lane.branch [
      | else-lane_at-lane-via-then-lane_at-lane+else-not-claim w ↦
          let l = listed_shown w.at.result in
          let of : l.lane ≡ c.args.lane = search rules in
          let is = w.if-not-claim.ensures.claimed refl in
          record {
            calls = ap (λ (x : Claims). x.calls) (w.claims-is ∙ is) ∙ v.calls;
            made = λ before made. rw w.claims-is (next_claimed c.args.lane c.loop-place.claims w.claim.new.self before c.args.calls.now c.loop-place.place l (v.made before made) w.at.ensures of (w.if-not-claim.ensures.fits.0 refl) is);
          }
      | else-lane_at-lane-via-else-lane_at-lane w ↦ record {
        calls = ap (λ (x : Claims). x.calls) w.claims-is ∙ v.calls;
        made = λ before made. rw w.claims-is (next_passed c.args.lane c.loop-place.claims before c.args.calls.now c.loop-place.place c.lane_at.result (v.made before made) c.lane_at.ensures w.if-lane_at-lane.false);
      }
    ]

pub returns-clause-made : goal.returns-clause-made
returns-clause-made c = λ before made.
    subst (λ ls. IsMade c.args.lane c.loop-place.claims (before ++ ls)) (take_all c.loop-place.place c.args.calls.now (search rules)) (c.loop-place.invariant.made before made)
