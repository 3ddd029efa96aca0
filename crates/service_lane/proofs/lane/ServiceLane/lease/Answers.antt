-- The lane after a lease was given.
use Rattle.std.proofs.Common.{ap, ◌∙◌}
use Rattle.service_lane.specs.declared.counts.Counts.{Counts}
use Rattle.service_lane.specs.Counting.{counts_lease}
use Rattle.service_lane.specs.Leases.{lease_for}
use Rattle.service_lane.specs.Serving.{Serving}
use Rattle.service_lane.proofs.lane.ServiceLane.lease.Goals as goal

pub invariant_of-self : goal.invariant_of-self
invariant_of-self g c = c.self.invariant

pub returns-clause-lease : goal.returns-clause-lease
returns-clause-lease g c = c.lease.ensures ∙ ap (λ (s : Serving g.row.D.Denot). lease_for s.slots c.args.key.now) c.self.view_is

pub returns-clause-leaves : goal.returns-clause-leaves
returns-clause-leaves g c =
    let i = c.self.inside in
    let old : Serving g.row.D.Denot = record { store = i.asked.store; deeds = i.asked.deeds; copies = i.asked.copies; slots = i.slots; counts = i.counts } in
    ap (λ (n : Counts). record old { counts = n }) c.count.ensures ∙ ap (λ (s : Serving g.row.D.Denot). record s { counts = counts_lease s.counts }) c.self.view_is
