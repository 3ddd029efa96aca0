-- The slot of the key shows a write more than the lease.
use Rattle.std.proofs.Common.{◌∙◌, List, ℕ, ap, subst, sym, refl}
use Rattle.service_lane.specs.Leases.{HoldsLease, with_write}
use Rattle.service_lane.specs.Serving.{Serving}
use Rattle.service_tests.proofs.LaneRows.{lease_ended}
use Rattle.service_tests.proofs.tests.lane.rows.a_fill_behind_a_removal_is_stale.Goals as goal

pub returns-in-Ok : goal.returns-in-Ok
returns-in-Ok g c =
    let a = c.args in
    let removed = c.remove.new.self in
    let lease = c.lease-lease.result in
    let stays = ap (λ (s : Serving g.row.D.Denot). with_write s.slots a.name.now) c.lease-lease.ensures.leaves in
    let ended : HoldsLease removed.slots a.key lease → ⊥ = λ holds.
    lease_ended a.lane.now.slots removed.slots a.name.now lease c.layout-layout.ensures.slots c.lease-lease.ensures.lease (c.in-Ok.ensures.removed.slots ∙ stays) (subst (λ (k : List ℕ). HoldsLease removed.slots k lease) (sym c.requires) holds) in
    rw (c.fill.ensures.stale.1 ended) refl

pub layout-layout-requires : goal.layout-layout-requires
layout-layout-requires g c = assumption

pub lease-lease-requires : goal.lease-lease-requires
lease-lease-requires g c = assumption

pub remove-requires : goal.remove-requires
remove-requires g c = assumption

pub fill-requires : goal.fill-requires
fill-requires g c = assumption
