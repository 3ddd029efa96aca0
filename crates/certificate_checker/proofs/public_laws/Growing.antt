-- One more deed.
use Rattle.std.proofs.Common.{◌≡◌, ℕ, List, [], ◌∷◌, ◌++◌, Some, sym, ap, ◌∙◌, refl, subst, inl, inr, ◌⊎◌, append_assoc}
use Rattle.std.proofs.lemmas.List.{same_from_push}
use Rattle.trace_file.specs.declared.act.Act.TheVariants.{Hit}
use Rattle.certificate_checker.specs.Deeds.{Deed}
use Rattle.certificate_checker.specs.Latest.{IsLive, IsLawful}
use Rattle.certificate_checker.specs.Current.{current, given_at}
use Rattle.certificate_checker.proofs.public_laws.LatestLemmas.{live_is}

-- a list is empty or has a last element
last_of : {X : Type 0} (xs : List X) → (xs ≡ []) ⊎ ((front : List X) × (last : X) × (xs ≡ front ++ last ∷ []))
last_of [] = inl refl
last_of (x ∷ xs) = inr (elim (last_of xs) [
  | inl none ↦ ([], x, ap (λ ys. x ∷ ys) none)
  | inr some ↦ (x ∷ some.0, some.1, ap (λ ys. x ∷ ys) some.2)
])

-- lawful deeds stay lawful with one more that is no hit, or a hit of its key's current value, live at its moment
pub lawful-push : (deeds : List Deed) (d : Deed) → IsLawful deeds → ((value : List ℕ) (moment : ℕ) → d.act ≡ Hit value moment → given_at moment (current deeds d.key) ≡ Some value) → IsLawful (deeds ++ d ∷ [])
lawful-push deeds d lawful here = λ before after deed value moment split hit. elim (last_of after) [
  | inl none ↦
      let same = same_from_push deeds before d deed (split ∙ ap (λ ds. before ++ deed ∷ ds) none) in
      let that : d.act ≡ Hit value moment = ap (λ (x : Deed). x.act) same.1 ∙ hit in
      subst (λ ds. IsLive ds deed.key value moment) same.0 (subst (λ key. IsLive deeds key value moment) (ap (λ (x : Deed). x.key) same.1) (live_is d.key value moment deeds (here value moment that)))
  | inr some ↦
      let same = same_from_push deeds (before ++ deed ∷ some.0) d some.1 (split ∙ ap (λ ds. before ++ deed ∷ ds) some.2 ∙ sym (append_assoc before (deed ∷ some.0) (some.1 ∷ []))) in
      lawful before some.0 deed value moment same.0 hit
]
