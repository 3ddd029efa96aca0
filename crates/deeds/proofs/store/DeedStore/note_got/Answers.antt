-- The store whose answer is noted.
use Rattle.std.proofs.Common.{◌++◌, ◌∷◌, [], ◌∙◌, subst, sym}
use Rattle.std.specs.Prelude.{IsTrue}
use Rattle.deeds.specs.Asked.{Asked, IsLiveHit}
use Rattle.deeds.proofs.Serves.{served_noted}
use Rattle.deeds.proofs.store.DeedStore.note_got.Goals as goal

pub invariant_of-self : goal.invariant_of-self
invariant_of-self g c =
    let d = g.D.PageDevice in
    let old : Asked g.row.D.Denot = record { store = c.self.inside.store; deeds = c.self.inside.trail.deeds } in
    let a = c.args in
    let live = subst (λ (s : Asked g.row.D.Denot). IsLiveHit (IsTrue (d.honest s.store.device)) s.deeds a.key.now a.moment a.answer.now) (sym c.self.view_is) c.requires.live in
    served_noted d.honest d.held old c.self.invariant a.key.now a.moment a.answer.now live _
    (c.then.ensures ∙ (λ i. old.deeds ++ record { key = c.bytes.ensures.value i; act = c.act_lent.ensures.act i } ∷ []))
