-- The slot of the key shows a write more than the lease.
use Rattle.std.proofs.Common.{◌∙◌, List, ℕ, ap, subst, refl}
use Rattle.service_lane.specs.Leases.{HoldsLease, with_write, lease_for}
use Rattle.service_lane.specs.Serving.{Serving}
use Rattle.service_tests.proofs.LaneRows.{lease_ended}
use Rattle.service_tests.proofs.tests.lane.rows.a_fill_behind_a_put_is_stale.Goals as goal

pub returns : goal.returns
returns g c =
    let a = c.args in
    let put = c.put.new.self in
    let lease = c.lease-lease.result in
    let stays = ap (λ (s : Serving g.row.D.Denot). with_write s.slots a.key) c.lease-lease.ensures.leaves in
    let leased = c.lease-lease.ensures.lease ∙ ap (λ (k : List ℕ). lease_for a.lane.now.slots k) c.bytes.ensures.value in
    let ended : HoldsLease put.slots a.again lease → ⊥ = λ holds.
    lease_ended a.lane.now.slots put.slots a.key lease c.layout-layout.ensures.slots leased (c.in_ok-_pushed.ensures.stored.slots ∙ stays) (subst (λ (k : List ℕ). HoldsLease put.slots k lease) c.requires holds) in
    rw (c.fill.ensures.stale.1 ended) refl

pub layout-layout-requires : goal.layout-layout-requires
layout-layout-requires g c = assumption

pub lease-lease-requires : goal.lease-lease-requires
lease-lease-requires g c = assumption

pub put-requires : goal.put-requires
put-requires g c = assumption

pub fill-requires : goal.fill-requires
fill-requires g c = assumption
