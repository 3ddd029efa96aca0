-- The fill of the lane of the key's number asked the lease.
use Rattle.std.proofs.Common.{rules, ◌≡◌, sym}
use Rattle.service_cache.specs.AtLanes.{DoneAtLane, FillsByLease}
use Rattle.service_cache.proofs.AtLanes.{by_lease}
use Rattle.service_cache.proofs.cache.ServiceCache.fill.Goals as goal

pub returns-clause-leased : goal.returns-clause-leased
returns-clause-leased g c =
    let d = g.D.PageDevice in
    let a = c.args in
    let lane_of = g.L.KeyLanes.lane_of in
    let held = c.deref_mut-held.result.now in
    let e = c.fill_and_help.ensures in
    let ours : lane_of a.key ≡ held.register.number = search rules in
    by_lease c.fill_and_help.result _ _ (λ filled. DoneAtLane g.row.D.Denot (lane_of a.key) (FillsByLease g.row.PAGE d.honest d.failures d.held g.P.EvictionPolicy.plan_of a.lease a.key a.value a.expires filled)) e.stale e.filled
    (λ filled stale fills. record { old = held; new = c.fill_and_help.new.self; number_is = sym ours; did = record { policy = c.self.inside.policy; stale = stale; fills = fills } })
