-- Of some puts the two that expire last.
use Rattle.std.proofs.Common.{◌≡◌, ◌≢◌, ℕ, ◌^◌, ◌<◌, ◌≤◌, ◌⊎◌, List, refl, sym, subst, arith, inl, inr}
use Rattle.std.specs.Prelude.{IsTrue, length}
use Rattle.std.proofs.lemmas.Bool.{cases_eq}
use Rattle.std.proofs.lemmas.Bool.Decides.{nat_tests}
use Rattle.record_pages.specs.Expiry.{is_live}
use Rattle.certificate_finder.specs.declared.best.Best.{Best}
use Rattle.certificate_finder.specs.declared.best.Best.TheVariants.{Empty, One, Two}
use Rattle.certificate_finder.specs.declared.put.Put.{Put}
use Rattle.certificate_finder.specs.declared.readable.Readable.{Readable}
use Rattle.certificate_finder.specs.Bests.{AreAmong, AreBoth, IsBestOf, IsLiveAt, IsWith, SaysLive}
use Rattle.certificate_finder.specs.Putting.{expiry_at}
use Rattle.certificate_finder.specs.Readings.{Says}

-- the best of puts is the best of the same ones
pub best_same : (puts : List Put) (P Q : ℕ → Type 0) (best : Best) → ((k : ℕ) → P k → Q k) → ((k : ℕ) → Q k → P k) → IsBestOf puts P best → IsBestOf puts Q best
best_same puts P Q Empty to from is = λ k q. is k (from k q)
best_same puts P Q (One first) to from is = (to first is.0, λ k q. is.1 k (from k q))
best_same puts P Q (Two first second) to from is = record {
  first_is = to first is.first_is;
  second_is = to second is.second_is;
  apart = is.apart;
  most = is.most;
  next = λ k q other. is.next k (from k q) other;
}

-- ---- one put more

module _ (puts : List Put) (P : ℕ → Type 0) (index : ℕ) (fresh : ¬ P index) where
  abbrev More : ℕ → Type 0
  More k = P k ⊎ (k ≡ index)

  apart_from : (k : ℕ) → P k → k ≢ index
  apart_from k p same = fresh (subst P same p)

  -- it expires after the first one
  pub leads : (first : ℕ) → P first → ((k : ℕ) → P k → expiry_at puts k ≤ expiry_at puts first) → expiry_at puts first < expiry_at puts index → AreBoth puts (λ k. P k ⊎ (k ≡ index)) index first
  leads first is most less = record {
    first_is = inr refl;
    second_is = inl is;
    apart = λ same. apart_from first is (sym same);
    most = omega arith;
    next = λ k more other. elim more [ inl p ↦ most k p | inr same ↦ absurd (other same) ];
  }

  -- it expires after all but the first one
  pub follows : (first : ℕ) → P first → ((k : ℕ) → P k → k ≢ first → expiry_at puts k ≤ expiry_at puts index) → expiry_at puts index ≤ expiry_at puts first → AreBoth puts (λ k. P k ⊎ (k ≡ index)) first index
  follows first is next most = record {
    first_is = inl is;
    second_is = inr refl;
    apart = apart_from first is;
    most = most;
    next = λ k more other. elim more [ inl p ↦ next k p other | inr same ↦ subst (λ j. expiry_at puts j ≤ expiry_at puts index) (sym same) (omega arith) ];
  }

  -- it expires after neither
  stays : (first second : ℕ) → AreBoth puts P first second → expiry_at puts index ≤ expiry_at puts second → AreBoth puts More first second
  stays first second is le = record {
    first_is = inl is.first_is;
    second_is = inl is.second_is;
    apart = is.apart;
    most = is.most;
    next = λ k more other. elim more [ inl p ↦ is.next k p other | inr same ↦ subst (λ j. expiry_at puts j ≤ expiry_at puts second) (sym same) le ];
  }

  all_below : (first second : ℕ) → AreBoth puts P first second → (k : ℕ) → P k → expiry_at puts k ≤ expiry_at puts first
  all_below first second is k p = elim (cases_eq k first) [
    | inl same ↦ subst (λ j. expiry_at puts j ≤ expiry_at puts first) (sym same) (omega arith)
    | inr other ↦ let le = is.next k p other in let most = is.most in omega arith
  ]

  with_one : (first : ℕ) (new : Best) → IsBestOf puts P (One first) → IsWith puts (One first) index new → IsBestOf puts More new
  with_one first new is with = elim with [
    | inl later ↦ subst (λ b. IsBestOf puts More b) (sym later.1) (leads first is.0 (λ k p. subst (λ j. expiry_at puts j ≤ expiry_at puts first) (sym (is.1 k p)) (omega arith)) later.0)
    | inr not ↦ subst (λ b. IsBestOf puts More b) (sym not.1) (follows first is.0 (λ k p other. absurd (other (is.1 k p))) not.0)
  ]

  with_two : (first second : ℕ) (new : Best) → AreBoth puts P first second → IsWith puts (Two first second) index new → IsBestOf puts More new
  with_two first second new is with = elim with [
    | inl later ↦ subst (λ b. IsBestOf puts More b) (sym later.1) (leads first is.first_is (all_below first second is) later.0)
    | inr rest ↦ elim rest [
      | inl middle ↦ subst (λ b. IsBestOf puts More b) (sym middle.2) (follows first is.first_is (λ k p other. let le = is.next k p other in let less = middle.1 in omega arith) middle.0)
      | inr not ↦ subst (λ b. IsBestOf puts More b) (sym not.1) (stays first second is not.0)
    ]
  ]

  pub best_with : (old new : Best) → IsBestOf puts P old → IsWith puts old index new → IsBestOf puts (λ k. P k ⊎ (k ≡ index)) new
  best_with Empty new is with = subst (λ b. IsBestOf puts More b) (sym with) (inr refl, λ k more. elim more [ inl p ↦ absurd (is k p) | inr same ↦ same ])
  best_with (One first) new is with = with_one first new is with
  best_with (Two first second) new is with = with_two first second new is with

-- what it names are puts still
pub among_with : (puts : List Put) (old : Best) (index : ℕ) (new : Best) → AreAmong puts old → index < length puts → IsWith puts old index new → AreAmong puts new
among_with puts Empty index new among within with = subst (λ b. AreAmong puts b) (sym with) within
among_with puts (One first) index new among within with = elim with [
  | inl later ↦ subst (λ b. AreAmong puts b) (sym later.1) (within, among)
  | inr not ↦ subst (λ b. AreAmong puts b) (sym not.1) (among, within)
]
among_with puts (Two first second) index new among within with = elim with [
  | inl later ↦ subst (λ b. AreAmong puts b) (sym later.1) (within, among.0)
  | inr rest ↦ elim rest [
    | inl middle ↦ subst (λ b. AreAmong puts b) (sym middle.2) (among.0, within)
    | inr not ↦ subst (λ b. AreAmong puts b) (sym not.1) among
  ]
]

-- ---- which of them are live

-- what expires later is live when what expires sooner is
pub live_later : (sooner later moment : ℕ) → sooner ≤ later → later < 2 ^ 64 → IsTrue (is_live sooner moment) → IsTrue (is_live later moment)
live_later sooner later moment le small live = grind (arith, nat_tests)

module _ (puts : List Put) (P : ℕ → Type 0) (moment : ℕ) (small : (k : ℕ) → expiry_at puts k < 2 ^ 64) where
  abbrev Live : ℕ → Type 0
  Live k = P k × IsLiveAt puts moment k

  live_alone : (first : ℕ) → IsBestOf puts P (One first) → (reading : Readable) → SaysLive puts moment (One first) reading → Says Live reading
  live_alone first is reading says = elim says [
    | inl live ↦ subst (λ r. Says Live r) (sym live.1) ((is.0, live.0), λ k p. is.1 k p.0)
    | inr dead ↦ subst (λ r. Says Live r) (sym dead.1) (λ k p. dead.0 (subst (λ j. IsLiveAt puts moment j) (is.1 k p.0) p.1))
  ]

  -- if the second one is not live, no other than the first one is
  only_first : (first second : ℕ) → AreBoth puts P first second → ¬ IsLiveAt puts moment second → (k : ℕ) → P k → IsLiveAt puts moment k → k ≡ first
  only_first first second is dead k p live = elim (cases_eq k first) [
    | inl same ↦ same
    | inr other ↦ absurd (dead (live_later (expiry_at puts k) (expiry_at puts second) moment (is.next k p other) (small second) live))
  ]

  live_both : (first second : ℕ) → AreBoth puts P first second → (reading : Readable) → SaysLive puts moment (Two first second) reading → Says Live reading
  live_both first second is reading says = elim says [
    | inl live ↦ subst (λ r. Says Live r) (sym live.1) (record {
      one = first;
      other = second;
      apart = is.apart;
      first = (is.first_is, live_later (expiry_at puts second) (expiry_at puts first) moment is.most (small first) live.0);
      second = (is.second_is, live.0);
    })
    | inr rest ↦ elim rest [
      | inl one ↦ subst (λ r. Says Live r) (sym one.2) ((is.first_is, one.1), λ k p. only_first first second is one.0 k p.0 p.1)
      | inr dead ↦ subst (λ r. Says Live r) (sym dead.2) (λ k p. dead.1 (subst (λ j. IsLiveAt puts moment j) (only_first first second is dead.0 k p.0 p.1) p.1))
    ]
  ]

  pub live_best : (best : Best) (reading : Readable) → IsBestOf puts P best → SaysLive puts moment best reading → Says (λ k. P k × IsLiveAt puts moment k) reading
  live_best Empty reading is says = subst (λ r. Says Live r) (sym says) (λ k p. is k p.0)
  live_best (One first) reading is says = live_alone first is reading says
  live_best (Two first second) reading is says = live_both first second is reading says
