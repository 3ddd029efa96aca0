-- A look-up of a lane, and the lease after a miss.
use Rattle.std.proofs.Common.{refl, ◌≡◌, ◌∙◌, ap, subst}
use Rattle.mover.specs.declared.answer_kind.AnswerKind.{AnswerKind}
use Rattle.mover.specs.Get.{answer_of}
use Rattle.service_lane.specs.Asked.{IsMiss}
use Rattle.service_lane.specs.Serving.{Gets}
use Rattle.service_cache.specs.Calls.{HasExpiry, IsHit}
use Rattle.service_cache.specs.Seated.{Seated}
use Rattle.service_cache.proofs.lane.SeatedLane.get_or_lease.Goals as goal

-- ---- a hit

pub returns-in-Ok-Hit-clause-live : goal.returns-in-Ok-Hit-clause-live
returns-in-Ok-Hit-clause-live g c =
    let o = c.in-Ok-Hit in
    subst (λ (s : AnswerKind). IsHit g.L.KeyLanes.is_honest g.L.KeyLanes.lane_of c.get.new.seat c.args.key.now c.args.moment (answer_of s c.get.new.found)) o.field-0-is o.ensures.answers.hit

pub returns-in-Ok-Hit-clause-expires : goal.returns-in-Ok-Hit-clause-expires
returns-in-Ok-Hit-clause-expires g c =
    let o = c.in-Ok-Hit in
    subst (λ (s : AnswerKind). HasExpiry g.L.KeyLanes.is_honest g.L.KeyLanes.lane_of c.get.new.seat c.args.key.now c.get.new.found s) o.field-0-is o.ensures.answers.told

pub returns-in-Ok-Hit-clause-looks : goal.returns-in-Ok-Hit-clause-looks
returns-in-Ok-Hit-clause-looks g c =
    let d = g.D.PageDevice in
    let a = c.args in
    let o = c.in-Ok-Hit in
    record {
      between = c.get.new.self.serving;
      gets = subst (λ (s : AnswerKind). Gets g.row.PAGE d.honest d.failures d.held a.key.now a.moment (answer_of s c.get.new.found) a.self.now.serving c.get.new.self.serving) o.field-0-is o.ensures.gets;
      leased = refl;
    }

pub returns-in-Ok-Hit-clause-untouched : goal.returns-in-Ok-Hit-clause-untouched
returns-in-Ok-Hit-clause-untouched g c = λ missed. absurd missed

-- ---- a miss

pub returns-in-Ok-Miss-clause-live : goal.returns-in-Ok-Miss-clause-live
returns-in-Ok-Miss-clause-live g c = tt

pub returns-in-Ok-Miss-clause-expires : goal.returns-in-Ok-Miss-clause-expires
returns-in-Ok-Miss-clause-expires g c = tt

pub returns-in-Ok-Miss-clause-looks : goal.returns-in-Ok-Miss-clause-looks
returns-in-Ok-Miss-clause-looks g c =
    let d = g.D.PageDevice in
    let a = c.args in
    let o = c.in-Ok-Miss in
    record {
      between = c.get.new.self.serving;
      gets = subst (λ (s : AnswerKind). Gets g.row.PAGE d.honest d.failures d.held a.key.now a.moment (answer_of s c.get.new.found) a.self.now.serving c.get.new.self.serving) o.field-0-is o.ensures.gets;
      leased = (ap (λ (s : Seated g.row.D.Denot). s.serving) c.lease.ensures.leaves, c.lease.ensures.lease);
    }

pub returns-in-Ok-Miss-clause-words : goal.returns-in-Ok-Miss-clause-words
returns-in-Ok-Miss-clause-words g c = ap (λ (s : Seated g.row.D.Denot). s.words) c.lease.ensures.leaves ∙ c.in-Ok-Miss.ensures.rest.1

pub returns-in-Ok-Miss-clause-untouched : goal.returns-in-Ok-Miss-clause-untouched
returns-in-Ok-Miss-clause-untouched g c =
    let o = c.in-Ok-Miss in
    subst (λ (s : AnswerKind). IsMiss s → c.get.new.found ≡ c.args.found.now) o.field-0-is o.ensures.untouched

pub returns-in-Ok-Hit-clause-words : goal.returns-in-Ok-Hit-clause-words
returns-in-Ok-Hit-clause-words g c = c.in-Ok-Hit.ensures.rest.1

pub returns-in-Err-clause-words : goal.returns-in-Err-clause-words
returns-in-Err-clause-words g c = c.in-Err.ensures.rest.1
