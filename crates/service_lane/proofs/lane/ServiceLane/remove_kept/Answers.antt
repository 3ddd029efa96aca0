-- The lane after a removal.
use Rattle.std.proofs.Common.{◌∙◌, refl, ap}
use Rattle.trace_file.specs.declared.act.Act.TheVariants.{Remove}
use Rattle.service_lane.specs.Leases.{with_write_in}
use Rattle.service_lane.proofs.Writing.{counted_write}
use denote.Param.{param, number}
use Rattle.service_lane.proofs.Fitting.{asked_fits}
use Rattle.service_lane.proofs.lane.ServiceLane.remove_kept.Goals as goal

pub invariant_of-self : goal.invariant_of-self
invariant_of-self g c =
    let slots = c.self.inside.slots in
    counted_write c.self.inside.asked.deeds c.remove.new.self.deeds (record { key = c.args.key.now; act = Remove }) slots c.wrote_in.new.self c.remove.ensures.deeds refl
    (c.wrote_in.ensures ∙ ap (with_write_in slots) c.slot-slot.ensures.slot) c.self.invariant

pub remove-requires : goal.remove-requires
remove-requires g c = asked_fits (param 0 g.row.D) (param 1 (number g.row.PAGE)) g.D.PageDevice assumption
