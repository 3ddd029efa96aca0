-- The copies after a put that was stored.
use Rattle.std.proofs.Common.{ℕ, List, Ok, ap, ◌∙◌, subst}
use Rattle.std.specs.Prelude.{IsTrue}
use Rattle.record_pages.specs.Expiry.{timed}
use Rattle.mover.specs.Calls.{StorePuts}
use Rattle.trace_file.specs.declared.act.Act.TheVariants.{Put}
use Rattle.certificate_checker.specs.Current.{current}
use Rattle.deeds.proofs.public_laws.Copying.{write_keeps}
use Rattle.service_lane.specs.Copies.{CopyAsked, copy_gone}
use Rattle.service_lane.proofs.Copying.{gone_right}
use denote.Param.{param, number}
use Rattle.service_lane.proofs.Fitting.{store_fits}
use Rattle.service_lane.proofs.copy_store.CopyStore.put.Goals as goal

pub invariant_of-self-2 : goal.invariant_of-self-2
invariant_of-self-2 g c is =
    let d = g.D.PageDevice in
    let before = c.self.inside.asked.deeds in
    let a = c.args in
    let done = c.in_ok-pushed.ensures in
    gone_right before c.put.new.self.deeds a.key c.self.inside.copies c.forget_copy.new.copies
    (λ k other. ap (λ ds. current ds k) done.deeds ∙ write_keeps before (record { key = a.key; act = Put a.value a.expires }) k other)
    (c.forget_copy.ensures ∙ ap (λ (k : List ℕ). copy_gone k c.self.inside.copies) (c.bytes.ensures.bytes ∙ c.of-kept.ensures))
    (c.self.invariant (subst (λ b. IsTrue b) (ap d.honest done.puts.device) is))

pub returns-clause-puts : goal.returns-clause-puts
returns-clause-puts g c =
    let a = c.args in
    subst (λ (s : CopyAsked g.row.D.Denot). StorePuts g.row.PAGE g.D.PageDevice.held (record { key = a.key; value = timed a.value a.expires }) a.word s.store (Ok c.in_ok-pushed.pushed) c.put.new.self.store) c.self.view_is c.in_ok-pushed.ensures.puts

pub put-requires : goal.put-requires
put-requires g c = store_fits (param 0 g.row.D) (param 1 (number g.row.PAGE)) g.D.PageDevice assumption
