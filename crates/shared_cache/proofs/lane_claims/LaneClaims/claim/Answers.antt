use Rattle.std.proofs.Common.{rules, List, Option, ◌≡◌, ◌∙◌, ap, Some, refl, sym, subst, map, set, slice_get, slice_set, length, length-set}
use Rattle.std.proofs.lemmas.Option.{slice_get_read}
use Rattle.certificate_checker.specs.declared.done.Done.{Done}
use Rattle.recorded_lane.specs.Points.{noted_in}
use Rattle.trace_file.specs.Lent.{call_shown}
use Rattle.shared_cache.specs.Claimed.{AreClaimed, Claims, Fits, slots_in}
use Rattle.shared_cache.specs.Finished.{done_of}
use Rattle.shared_cache.specs.Listed.{listed_shown}
use Rattle.shared_cache.proofs.Claiming.{claimed_set}
use Rattle.shared_cache.proofs.Ends.{done_so, fits_so, noted_at, slots_set, unfit_else, unfit_ended}
use Rattle.shared_cache.proofs.lane_claims.LaneClaims.claim.Goals as goal

pub returns-then-not-is_recorded_as-clause-fits : goal.returns-then-not-is_recorded_as-clause-fits
returns-then-not-is_recorded_as-clause-fits c =
    let p = c.self.inside in
    let l = listed_shown c.args.listed.now in
    (λ t. absurd cc, λ fits. absurd (unfit_else p.recorded p.ends.items l (call_shown c.at-call.result) c.at-call.ensures.call (λ same. let never = c.if-not-is_recorded_as.ensures.1 same in absurd cc) (subst (λ (x : Claims). Fits x l) (sym c.self.view_is) fits)))

pub returns-in_default-clause-fits : goal.returns-in_default-clause-fits
returns-in_default-clause-fits c =
    let p = c.self.inside in
    let l = listed_shown c.args.listed.now in
    let there : slice_get p.ends.items l.position ≡ Some c.index.result.now = slice_get_read p.ends.items (length p.ends.items) l.position c.index.result.now refl (search rules) c.index.ensures in
    (λ t. absurd cc, λ fits. absurd (unfit_ended p.recorded p.ends.items l c.index.result.now there c.in_default.not-None (subst (λ (x : Claims). Fits x l) (sym c.self.view_is) fits)))

pub returns-clause-fits : goal.returns-clause-fits
returns-clause-fits c =
    let p = c.self.inside in
    let l = listed_shown c.args.listed.now in
    let same = c.if-not-is_recorded_as.ensures.0 refl in
    let there : slice_get p.ends.items l.position ≡ Some c.index.result.now = slice_get_read p.ends.items (length p.ends.items) l.position c.index.result.now refl (search rules) c.index.ensures in
    (λ t. subst (λ (x : Claims). Fits x l) c.self.view_is (fits_so p.recorded p.ends.items l (call_shown c.at-call.result) c.at-call.ensures.call (there ∙ ap Some (search rules)) same), λ fits. refl)

pub invariant_of-self : goal.invariant_of-self
invariant_of-self c =
    let p = c.self.inside in
    let l = listed_shown c.args.listed.now in
    let call = call_shown c.at-call.result in
    let same = c.if-not-is_recorded_as.ensures.0 refl in
    let slots = slots_set p.recorded p.ends.items l.position call l.end c.at-call.ensures.call ∙ ap (λ (d : Done). set (slots_in p.recorded p.ends.items) l.position (Some d)) (done_so call l same) in
    record {
      many = length-set p.ends.items l.position (Some l.end) ∙ c.self.invariant.many;
      claimed = subst (AreClaimed (map noted_in p.recorded)) (sym slots) (claimed_set _ _ l.position (done_of l) c.self.invariant.claimed (noted_at p.recorded l.position call c.at-call.ensures.call ∙ ap Some (sym same)) c.requires);
    }

pub returns-clause-claimed : goal.returns-clause-claimed
returns-clause-claimed c =
    let p = c.self.inside in
    let l = listed_shown c.args.listed.now in
    let call = call_shown c.at-call.result in
    let same = c.if-not-is_recorded_as.ensures.0 refl in
    let slots = slots_set p.recorded p.ends.items l.position call l.end c.at-call.ensures.call ∙ ap (λ (d : Done). set (slots_in p.recorded p.ends.items) l.position (Some d)) (done_so call l same) in
    λ t. subst (λ (x : Claims). ◌≡◌ {A = Claims} (record { calls = map noted_in p.recorded; slots = slots_in p.recorded (set p.ends.items l.position (Some l.end)) }) (record { calls = x.calls; slots = slice_set x.slots l.position (Some (done_of l)) })) c.self.view_is
    (ap (λ (s : List (Option Done)). record { calls = map noted_in p.recorded; slots = s }) slots)
