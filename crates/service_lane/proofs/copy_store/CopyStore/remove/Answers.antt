-- The copies after a removal.
use Rattle.std.proofs.Common.{ap, ◌∙◌, subst}
use Rattle.std.specs.Prelude.{IsTrue}
use Rattle.trace_file.specs.declared.act.Act.TheVariants.{Remove}
use Rattle.certificate_checker.specs.Current.{current}
use Rattle.deeds.proofs.public_laws.Copying.{write_keeps}
use Rattle.service_lane.proofs.Copying.{gone_right}
use denote.Param.{param, number}
use Rattle.service_lane.proofs.Fitting.{store_fits}
use Rattle.service_lane.proofs.copy_store.CopyStore.remove.Goals as goal

pub invariant_of-self : goal.invariant_of-self
invariant_of-self g c is =
    let d = g.D.PageDevice in
    let before = c.self.inside.asked.deeds in
    let key = c.args.key.now in
    gone_right before c.remove.new.self.deeds key c.self.inside.copies c.forget_copy.new.copies
    (λ k other. ap (λ ds. current ds k) c.remove.ensures.deeds ∙ write_keeps before (record { key = key; act = Remove }) k other)
    c.forget_copy.ensures (c.self.invariant (subst (λ b. IsTrue b) (ap d.honest c.remove.ensures.removes.device) is))

pub remove-requires : goal.remove-requires
remove-requires g c = store_fits (param 0 g.row.D) (param 1 (number g.row.PAGE)) g.D.PageDevice assumption
