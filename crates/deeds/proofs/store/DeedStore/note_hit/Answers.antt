-- The store whose hit is noted.
use Rattle.std.proofs.Common.{subst, sym}
use Rattle.std.specs.Prelude.{IsTrue}
use Rattle.record_pages.specs.declared.answer.Answer.TheVariants as answers
use Rattle.record_pages.specs.declared.tier.Tier.TheVariants.{Set}
use Rattle.certificate_checker.specs.Latest.{IsLive}
use Rattle.deeds.specs.Asked.{Asked}
use Rattle.deeds.proofs.Serves.{served_noted}
use Rattle.deeds.proofs.store.DeedStore.note_hit.Goals as goal

pub invariant_of-self : goal.invariant_of-self
invariant_of-self g c =
    let d = g.D.PageDevice in
    let old : Asked g.row.D.Denot = record { store = c.self.inside.store; deeds = c.self.inside.trail.deeds } in
    let a = c.args in
    let live = subst (λ (s : Asked g.row.D.Denot). IsTrue (d.honest s.store.device) → IsLive s.deeds a.key.now a.value.now a.moment) (sym c.self.view_is) c.requires.live in
    served_noted d.honest d.held old c.self.invariant a.key.now a.moment (answers.Hit a.value.now Set) live _ c.then.ensures
