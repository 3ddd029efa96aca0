-- What was done in help.
use Rattle.std.proofs.Common.{◌≡◌, ◌+◌, suc, ap, subst, sym, ◌∙◌, inl, inr, arith, true, false, true≢false}
use Rattle.klog.specs.Usage.{usage_of}
use Rattle.service_lane.specs.Dueness.{is_near_end}
use Rattle.service_lane.specs.Counting.{CountsHelps}
use Rattle.service_lane.specs.Serving.{Serving}
use Rattle.service_lane.specs.Upkeep.{is_lane_near_end, HelpsSteps}
use Rattle.service_lane.proofs.StepCounts.{helps_more}
use Rattle.service_lane.proofs.Tending.{near_is_due}
use Rattle.service_lane.proofs.lane.ServiceLane.help.Goals as goal

pub loop-steps-preserved : goal.loop-steps-preserved
loop-steps-preserved g c =
    let s = c.loop-steps in
    let was = s.invariant in
    let once = c.help_once-asked_device in
    let new = once.new.self in
    let more : suc s.steps ≡ s.steps + 1 = omega arith in
    let near : is_lane_near_end s.self ≡ true = ap is_near_end (sym c.log_usage.ensures) ∙ sym c.is_near_end.ensures ∙ c.if-is_near_end.true in
    let d = g.D.PageDevice in
    let plan_of = g.P.EvictionPolicy.plan_of c.args.policy.now in
    let so_far : HelpsSteps g.row.PAGE d.honest d.failures d.held plan_of s.steps c.args.self.now false s.self = subst (λ b. HelpsSteps g.row.PAGE d.honest d.failures d.held plan_of s.steps c.args.self.now b s.self) c.if-not-asked_device.true was.steps in
    let next : HelpsSteps g.row.PAGE d.honest d.failures d.held plan_of (suc s.steps) c.args.self.now once.result new = record { old = s.self; so_far = so_far; near = near; once = once.ensures.once } in
    record {
      steps = subst (λ n. HelpsSteps g.row.PAGE d.honest d.failures d.held plan_of n c.args.self.now once.result new) more next;
      rest = once.ensures.rest ∙ ap (λ (x : Serving g.row.D.Denot). record x { store = new.store; counts = new.counts }) was.rest;
      few = let t = c.loop-steps-test.true in omega (arith, t);
      counted = subst (λ n. CountsHelps n c.args.self.now.counts new.counts) more (helps_more s.steps c.args.self.now.counts s.self.counts new.counts was.counted (once.ensures.counted (near_is_due (usage_of s.self.store.log) near)));
      unasked = λ asks. once.ensures.unasked asks ∙ was.unasked c.if-not-asked_device.true;
    }

pub returns-else-is_near_end : goal.returns-else-is_near_end
returns-else-is_near_end g c =
    let was = c.loop-steps.invariant in
    let far : is_lane_near_end c.loop-steps.self ≡ false = ap is_near_end (sym c.log_usage.ensures) ∙ sym c.is_near_end.ensures ∙ c.if-is_near_end.false in
    record { rest = was.rest; few = was.few; steps = was.steps; counted = was.counted; unasked = was.unasked; enough = λ near. absurd (true≢false (sym near ∙ far)) }

pub returns-else-not-asked_device : goal.returns-else-not-asked_device
returns-else-not-asked_device g c =
    let was = c.loop-steps.invariant in
    record { rest = was.rest; few = was.few; steps = was.steps; counted = was.counted; unasked = was.unasked; enough = λ near. inl c.if-not-asked_device.false }

pub returns-after-loop-steps : goal.returns-after-loop-steps
returns-after-loop-steps g c =
    let was = c.loop-steps.invariant in
    let few = was.few in
    let last = c.loop-steps-test.false in
    record { rest = was.rest; few = was.few; steps = was.steps; counted = was.counted; unasked = was.unasked; enough = λ near. inr (omega (arith, few, last)) }

pub help_once-asked_device-requires : goal.help_once-asked_device-requires
help_once-asked_device-requires g c = assumption
