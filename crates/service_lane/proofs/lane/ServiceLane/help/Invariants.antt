-- What was done in help so far.
use Rattle.std.proofs.Common.{◌-◌, ◌≡◌, ◌≤◌, false}
use Rattle.service_lane.specs.Counting.{CountsHelps}
use Rattle.service_lane.specs.Upkeep.{HelpsSteps}
use Rattle.service_lane.proofs.lane.ServiceLane.help.Given as goal

abbrev pub invariant-loop-steps : goal.invariant-loop-steps
invariant-loop-steps g l =
    let d = g.D.PageDevice in
    record {
      steps : HelpsSteps g.row.PAGE d.honest d.failures d.held (g.P.EvictionPolicy.plan_of l.fn.policy) l.steps l.fn.self l.asked_device l.self;
      few : l.steps ≤ 4;
      rest : l.self ≡ record l.fn.self { store = l.self.store; counts = l.self.counts };
      counted : CountsHelps l.steps l.fn.self.counts l.self.counts;
      unasked : l.asked_device ≡ false → l.self.store.device ≡ l.fn.self.store.device;
    }

abbrev pub decreases-loop-steps : goal.decreases-loop-steps
decreases-loop-steps g l = 4 - l.steps
