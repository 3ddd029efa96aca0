-- The store after a copy answered, or none.
use Rattle.std.proofs.Common.{◌≡◌, ℕ, List, Some, ap, sym, ◌∙◌, refl, subst}
use Rattle.std.specs.Prelude.{IsTrue}
use Rattle.record_pages.specs.Expiry.{timed}
use Rattle.record_pages.specs.declared.answer.Answer.TheVariants.{Hit}
use Rattle.record_pages.specs.declared.tier.Tier.TheVariants.{Set}
use Rattle.certificate_checker.specs.Current.{current}
use Rattle.certificate_checker.specs.Latest.{IsLive}
use Rattle.deeds.proofs.public_laws.Copying.{current_kept, read_keeps}
use Rattle.service_lane.specs.Copies.{CopyAsked, CopyAnswers, CopyList, copied_pairs, copy_in, copy_raised}
use Rattle.service_lane.proofs.Copying.{AreRight, raised_right, copy_current, copy_live}
use denote.Param.{param, number}
use Rattle.service_lane.proofs.Fitting.{store_fits}
use Rattle.service_lane.proofs.copy_store.CopyStore.recall.Goals as goal

pub invariant_of-self-in_err-expires : goal.invariant_of-self-in_err-expires
invariant_of-self-in_err-expires g c is =
    let deeds = c.self.inside.asked.deeds in
    let right : AreRight deeds (Some c.in-Some.copies) = subst (AreRight deeds) c.in-Some.is (c.self.invariant is) in
    subst (λ (l : CopyList). AreRight deeds (Some l)) (sym (c.recall.ensures.stays c.in_err-expires.was)) right

pub note_hit-requires : goal.note_hit-requires
note_hit-requires g c = (
  store_fits (param 0 g.row.D) (param 1 (number g.row.PAGE)) g.D.PageDevice assumption,
  λ is.
      let deeds = c.self.inside.asked.deeds in
      let right : AreRight deeds (Some c.in-Some.copies) = subst (AreRight deeds) c.in-Some.is (c.self.invariant is) in
      subst (λ (v : List ℕ). IsLive deeds c.args.key.now v c.args.moment) (sym c.bytes.ensures.value) (copy_live c.found_is_held.ensures deeds c.args.key.now c.args.moment c.in-Some.copies c.recall.new.found c.in_ok-expires.expires c.in_ok-expires.ensures.copy right),
)

pub invariant_of-self-2 : goal.invariant_of-self-2
invariant_of-self-2 g c is =
    let d = g.D.PageDevice in
    let deeds = c.self.inside.asked.deeds in
    let a = c.args in
    let was = subst (λ b. IsTrue b) (ap (λ s. d.honest s.store.device) c.note_hit.ensures) is in
    let right : AreRight deeds (Some c.in-Some.copies) = subst (AreRight deeds) c.in-Some.is (c.self.invariant was) in
    let raised : Some c.recall.new.self ≡ copy_raised a.key.now (Some c.in-Some.copies) = ap (λ (l : CopyList). Some l) (c.in_ok-expires.ensures.raised refl) in
    current_kept deeds c.note_hit.new.self.deeds (copied_pairs (Some c.recall.new.self)) (λ k. ap (λ s. current s.deeds k) c.note_hit.ensures ∙ read_keeps deeds a.key.now a.moment (Hit c.bytes.result.now Set) k)
    (raised_right deeds a.key.now (Some c.in-Some.copies) (Some c.recall.new.self) raised right)

pub returns-clause-answers : goal.returns-clause-answers
returns-clause-answers g c =
    let a = c.args in
    let found = c.recall.new.found in
    let inside = c.self.inside in
    let old : CopyAsked g.row.D.Denot = record { store = inside.asked.store; deeds = inside.asked.deeds; copies = inside.copies } in
    let new : CopyAsked g.row.D.Denot = record { store = c.note_hit.new.self.store; deeds = c.note_hit.new.self.deeds; copies = Some c.recall.new.self } in
    let answers : CopyAnswers a.key.now a.moment (Hit found Set) old new =
    record {
      value = timed found c.in_ok-expires.expires;
      copy = ap (copy_in a.key.now a.moment) c.in-Some.is ∙ c.in_ok-expires.ensures.copy;
      answer_is = refl;
      store = ap (λ s. s.store) c.note_hit.ensures;
      copies = ap (λ (l : CopyList). Some l) (c.in_ok-expires.ensures.raised refl) ∙ ap (copy_raised a.key.now) (sym c.in-Some.is);
    } in
    subst (λ (s : CopyAsked g.row.D.Denot). CopyAnswers a.key.now a.moment (Hit found Set) s new) c.self.view_is answers

pub returns-clause-live : goal.returns-clause-live
returns-clause-live g c =
    let a = c.args in
    let deeds = c.self.inside.asked.deeds in
    let right : IsTrue (g.D.PageDevice.honest c.self.inside.asked.store.device) → AreRight deeds (Some c.in-Some.copies) = λ is. subst (AreRight deeds) c.in-Some.is (c.self.invariant is) in
    subst (λ (s : CopyAsked g.row.D.Denot). IsTrue (g.D.PageDevice.honest s.store.device) → IsLive s.deeds a.key.now c.recall.new.found a.moment) c.self.view_is
    (λ is. copy_live c.found_is_held.ensures deeds a.key.now a.moment c.in-Some.copies c.recall.new.found c.in_ok-expires.expires c.in_ok-expires.ensures.copy (right is))

pub returns-clause-current : goal.returns-clause-current
returns-clause-current g c =
    let a = c.args in
    let deeds = c.self.inside.asked.deeds in
    let right : IsTrue (g.D.PageDevice.honest c.self.inside.asked.store.device) → AreRight deeds (Some c.in-Some.copies) = λ is. subst (AreRight deeds) c.in-Some.is (c.self.invariant is) in
    subst (λ (s : CopyAsked g.row.D.Denot). IsTrue (g.D.PageDevice.honest s.store.device) → current s.deeds a.key.now ≡ Some (timed c.recall.new.found c.in_ok-expires.expires)) c.self.view_is
    (λ is. copy_current c.found_is_held.ensures deeds a.key.now a.moment c.in-Some.copies c.recall.new.found c.in_ok-expires.expires c.in_ok-expires.ensures.copy (right is))
