-- What acts do, and lists of positions.
use Rattle.std.proofs.Common.{◌≡◌, ℕ, ◌+◌, ◌<◌, Bool, true, not, List, [], ◌∷◌, ◌++◌, refl, sym, subst, arith, inl, inr}
use Rattle.std.specs.Prelude.{Contains, IsTrue}
use Rattle.std.proofs.lemmas.Bool.{cases_eq}
use Rattle.std.proofs.lemmas.List.Elements.{All-nil, All-push, All-weaker, Contains-append_left, Contains-push}
use Rattle.std.proofs.lemmas.List.Quantifiers.{all_pairs_push}
use Rattle.trace_file.specs.declared.act.Act.{Act}
use Rattle.trace_file.specs.declared.act.Act.TheVariants.{Put, Remove, Hit, Miss}
use Rattle.certificate_checker.specs.Latest.{IsWrite}
use Rattle.certificate_finder.specs.Lists.{AreAllBelow, GrowsIf}
use Rattle.history_window.specs.Acts.{is_reading, is_writing}

-- ---- what acts do

pub writing_is : (act : Act) → is_writing act ≡ true → IsWrite act
writing_is (Put value expires) h = tt
writing_is Remove h = tt
writing_is (Hit value moment) h = cc
writing_is Miss h = cc

pub is_writing_of : (act : Act) → IsWrite act → is_writing act ≡ true
is_writing_of (Put value expires) h = refl
is_writing_of Remove h = refl
is_writing_of (Hit value moment) h = absurd h
is_writing_of Miss h = absurd h

pub reading_is : (act : Act) → is_reading act ≡ true → (value : List ℕ) × (moment : ℕ) × (act ≡ Hit value moment)
reading_is (Put value expires) h = cc
reading_is Remove h = cc
reading_is (Hit value moment) h = (value, moment, refl)
reading_is Miss h = cc

-- ---- all positions of which a fact holds

module _ (P : ℕ → Type 0) where
  pub all_below_none : AreAllBelow P 0 []
  all_below_none = record {
    each = All-nil P;
    all = λ p less holds. absurd (omega arith);
    rise = λ i j d less within. absurd (omega arith);
    below = All-nil (λ p. p < 0);
  }

  all_below_pass : (upto : ℕ) (positions : List ℕ) → AreAllBelow P upto positions → ¬ P upto → AreAllBelow P (upto + 1) positions
  all_below_pass upto positions had not = record {
    each = had.each;
    all = λ p less holds. elim (cases_eq p upto) [
      | inl same ↦ absurd (not (subst P same holds))
      | inr other ↦ had.all p (omega arith) holds
    ];
    rise = had.rise;
    below = All-weaker (λ p. p < upto) (λ p. p < upto + 1) (λ p h. omega arith) positions had.below;
  }

  all_below_push : (upto : ℕ) (positions : List ℕ) → AreAllBelow P upto positions → P upto → AreAllBelow P (upto + 1) (positions ++ upto ∷ [])
  all_below_push upto positions had is = record {
    each = All-push P positions upto had.each is;
    all = λ p less holds. elim (cases_eq p upto) [
      | inl same ↦ subst (λ q. Contains (positions ++ upto ∷ []) q) (sym same) (Contains-push positions upto)
      | inr other ↦ Contains-append_left positions (upto ∷ []) p (had.all p (omega arith) holds)
    ];
    rise = all_pairs_push (λ a b. a < b) positions upto had.rise (λ k d less. had.below k d less);
    below = All-push (λ p. p < upto + 1) positions upto (All-weaker (λ p. p < upto) (λ p. p < upto + 1) (λ p h. omega arith) positions had.below) (omega arith);
  }

  -- one position more, if a test says that the fact holds of it
  pub all_below_if : (test : Bool) (upto : ℕ) (old new : List ℕ) → AreAllBelow P upto old → GrowsIf test upto old new → (IsTrue test → P upto) → (P upto → IsTrue test) → AreAllBelow P (upto + 1) new
  all_below_if test upto old new had grows sound complete = elim grows [
    | inl more ↦ subst (λ ps. AreAllBelow P (upto + 1) ps) (sym more.1) (all_below_push upto old had (sound more.0))
    | inr same ↦ subst (λ ps. AreAllBelow P (upto + 1) ps) (sym same.1) (all_below_pass upto old had (λ holds. same.0 (complete holds)))
  ]
