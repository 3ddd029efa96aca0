-- What a new lane is: its slots show no write, and nothing was counted.
use Rattle.std.proofs.Common.{[], ap, ◌∙◌}
use Rattle.service_lane.specs.declared.counts.Counts.{Counts}
use Rattle.service_lane.specs.Copies.{CopyAsked, copies_for, copies_of}
use Rattle.service_lane.specs.Leases.{LeaseSlots, no_writes}
use Rattle.service_lane.specs.Serving.{Serving, opening_to_serve}
use Rattle.service_lane.proofs.Writing.{counted_opening}
use Rattle.service_lane.proofs.lane.ServiceLane.with_layout.Goals as goal

pub invariant_of-result : goal.invariant_of-result
invariant_of-result g c = counted_opening c.args.number c.args.seed c.args.lease_slots c.in_ok-asked.asked.deeds c.in_ok-slots.slots (ap (λ (s : CopyAsked g.row.D.Denot). s.deeds) c.in_ok-asked.ensures.opened) c.in_ok-slots.ensures

pub returns : goal.returns
returns g c =
    let a = c.args in
    let asked = c.in_ok-asked.asked in
    let opened : CopyAsked g.row.D.Denot = record { store = opening_to_serve asked.store.layout a.device; deeds = []; copies = copies_for a.bring_back (copies_of a.bring_back a.layout.now.memory) } in
    let lane : CopyAsked g.row.D.Denot → LeaseSlots → Counts → Serving g.row.D.Denot = λ s slots counts. record { store = s.store; deeds = s.deeds; copies = s.copies; slots = slots; counts = counts } in
    record {
      numbers = c.in_ok-asked.ensures.numbers;
      opened = ap (λ (s : CopyAsked g.row.D.Denot). lane s c.in_ok-slots.slots c.none.result) c.in_ok-asked.ensures.opened ∙ ap (λ (s : LeaseSlots). lane opened s c.none.result) c.in_ok-slots.ensures ∙ ap (λ (n : Counts). lane opened (no_writes a.number a.seed a.lease_slots) n) c.none.ensures;
    }
