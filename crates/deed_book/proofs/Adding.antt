-- The exchange that enters a write keeps the rule.
use Rattle.std.proofs.Common.{◌≡◌, ◌≢◌, ℕ, ◌+◌, ◌<◌, ◌==◌, Bool, true, false, List, [], ◌∷◌, ◌++◌, length, refl, ap, sym, ◌∙◌, subst, cond, inl, inr, length-append, None}
use Rattle.std.specs.Prelude.{slice_set}
use Rattle.std.proofs.lemmas.Bool.{eq-eqb}
use Rattle.std.proofs.lemmas.Bool.Decides.{eqb_tells}
use Rattle.std.proofs.lemmas.List.{append-nil, get_or-set_same, get_or-set_other, length-set}
use Rattle.std.proofs.lemmas.List.Elements.{filter-append}
use mathlib.Core.List.{IsPrefix}
use prog.Atomic.{either}
use Rattle.logbook.specs.Pages.{Cell, cell, keeps, no_nib, step, Moves, Goes}
use Rattle.certificate_checker.specs.Deeds.{Deed}
use Rattle.deed_book.specs.Parts.{is_in_lane, part_of}
use Rattle.deed_book.specs.Rules.{IsKept, Enters}

abbrev pub shown : List Deed → List Deed
shown log = []

abbrev pub moved : List Deed → List Deed → ℕ → Type 0
moved xs ys n = Unit {0}

eqb_is : (m n : ℕ) → (m == n) ≡ true → m ≡ n
eqb_is m n is = elim (eqb_tells m n) [ inl same ↦ same.1 | inr other ↦ absurd (let no : true ≡ false = sym is ∙ other.0 in cc) ]

-- a write of a lane is one more there
pub part_more : (lane_of : List ℕ → ℕ) (n : ℕ) (log : List Deed) (e : Deed) → (lane_of e.key == n) ≡ true → length (part_of lane_of n (log ++ e ∷ [])) ≡ length (part_of lane_of n log) + 1
part_more lane_of n log e is =
    ap length (filter-append (is_in_lane lane_of n) log (e ∷ [])) ∙ length-append (part_of lane_of n log) (part_of lane_of n (e ∷ [])) ∙ ap (λ b. length (part_of lane_of n log) + length (cond b (e ∷ []) [])) is

-- and none in another
pub part_same : (lane_of : List ℕ → ℕ) (n : ℕ) (log : List Deed) (e : Deed) → (lane_of e.key == n) ≡ false → part_of lane_of n (log ++ e ∷ []) ≡ part_of lane_of n log
part_same lane_of n log e is =
    filter-append (is_in_lane lane_of n) log (e ∷ []) ∙ (ap (λ b. part_of lane_of n log ++ cond b (e ∷ []) []) is ∙ append-nil (part_of lane_of n log))

module _ (lanes : ℕ) (lane_of : List ℕ → ℕ) where
  -- the word of a lane is written, and the other lanes have the writes that they had
  kept_set : (cs : List Cell) (log after : List Deed) (n value : ℕ) → IsKept lanes lane_of cs log → n < lanes → value ≡ length (part_of lane_of n after) → ((m : ℕ) → m ≢ n → part_of lane_of m after ≡ part_of lane_of m log) → IsKept lanes lane_of (slice_set cs n (value, true)) after
  kept_set cs log after n value kept within is others = record {
    words = length-set cs n (value, true) ∙ kept.words;
    counts = λ m few. elim (eqb_tells m n) [
      | inl same ↦
          let at : m ≡ n = same.1 in
          let here : n < length cs = subst (λ (k : ℕ). n < k) (sym kept.words) within in
          subst (λ (k : ℕ). cell (slice_set cs n (value, true)) k ≡ (length (part_of lane_of k after), true)) (sym at) (get_or-set_same cs n (value, true) (0, false) here ∙ ap (λ (k : ℕ). (k, true)) is)
      | inr other ↦
          let away : m ≢ n = other.1 in
          get_or-set_other cs n m (value, true) (0, false) away ∙ (kept.counts m few ∙ ap (λ (ds : List Deed). (length ds, true)) (sym (others m away)))
    ];
  }

  module _ (v log : List Deed) (cs : List Cell) (e : Deed) (n old : ℕ) (within : n < lanes) (ours : lane_of e.key ≡ n) (kept : IsKept lanes lane_of cs log) (pre : IsPrefix v log) where
    enters_goes : (b : Bool) → ((cell cs n).0 == old) ≡ b → Goes (IsKept lanes lane_of) shown moved n (v, (no_nib, None)) (λ k. either (k == old) (old + 1) k) (Enters lane_of (step n old (old + 1) e) (v, (no_nib, None))) cs log
    enters_goes true is =
        let found : (cell cs n).0 ≡ old = eqb_is (cell cs n).0 old is in
        let counts : length (part_of lane_of n log) ≡ old = sym (ap (λ (c : Cell). c.0) (kept.counts n within)) ∙ found in
        let mine : (lane_of e.key == n) ≡ true = eq-eqb (lane_of e.key) n ours in
        let more : length (part_of lane_of n (log ++ e ∷ [])) ≡ old + 1 = part_more lane_of n log e mine ∙ ap (λ (k : ℕ). k + 1) counts in
        let value : either ((cell cs n).0 == old) (old + 1) (cell cs n).0 ≡ length (part_of lane_of n (log ++ e ∷ [])) = rw is (sym more) in
        let others : (m : ℕ) → m ≢ n → part_of lane_of m (log ++ e ∷ []) ≡ part_of lane_of m log = λ m away. elim (eqb_tells (lane_of e.key) m) [
          | inl same ↦ absurd (away (sym same.1 ∙ ours))
          | inr other ↦ part_same lane_of m log e other.0
        ] in (
          keeps,
          e ∷ [],
          None,
          tt,
          kept_set cs log (log ++ e ∷ []) n (either ((cell cs n).0 == old) (old + 1) (cell cs n).0) kept within value others,
          inl (refl, refl),
          rw is (record { before = log; known = pre; counts = counts; behind = refl }),
        )
    enters_goes false is =
        let all : log ++ [] ≡ log = append-nil log in
        let value : either ((cell cs n).0 == old) (old + 1) (cell cs n).0 ≡ length (part_of lane_of n (log ++ [])) = rw is (ap (λ (c : Cell). c.0) (kept.counts n within) ∙ ap (λ (ds : List Deed). length (part_of lane_of n ds)) (sym all)) in (
          keeps,
          [],
          None,
          tt,
          kept_set cs log (log ++ []) n (either ((cell cs n).0 == old) (old + 1) (cell cs n).0) kept within value (λ m away. ap (part_of lane_of m) all),
          inl (refl, refl),
          rw is tt,
        )

  -- whatever the book is, the exchange enters the write after all that had been seen; or the lane has another number of writes
  pub enters_moves : (v : List Deed) (e : Deed) (n old : ℕ) → n < lanes → lane_of e.key ≡ n → Moves (IsKept lanes lane_of) shown moved n (v, (no_nib, None)) (λ k. either (k == old) (old + 1) k) (Enters lane_of (step n old (old + 1) e) (v, (no_nib, None)))
  enters_moves v e n old within ours cs log kept pre away = (
    subst (λ (k : ℕ). n < k) (sym kept.words) within,
    ap (λ (c : Cell). c.1) (kept.counts n within),
    enters_goes v log cs e n old within ours kept pre ((cell cs n).0 == old) refl,
  )
