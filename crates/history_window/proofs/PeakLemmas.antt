-- Peaks in order, and the greatest height before a number.
use Rattle.std.proofs.Common.{◌≡◌, ℕ, ◌+◌, ◌-◌, ◌<◌, ◌≤◌, max, Some, List, [], ◌∷◌, ◌++◌, length, refl, sym, ap, ◌∙◌, subst, arith, inl, inr}
use Rattle.std.specs.Prelude.{slice_get}
use Rattle.std.proofs.lemmas.Bool.{cases_eq, cases_lt}
use Rattle.std.proofs.lemmas.List.{length_push}
use Rattle.std.proofs.lemmas.Option.{slice_get_within}
use Rattle.certificate_finder.specs.Writing.{IsSplitBelow}
use Rattle.history_window.specs.declared.peak.Peak.{Peak}
use Rattle.history_window.specs.declared.peaks.Peaks.{Peaks}
use Rattle.history_window.specs.Peaks.{ArePeaks, AreRaised, AreTops, IsCovered, IsHeightBefore, IsTopBelow, foot_of}
use Rattle.history_window.proofs.ListLemmas.{at_front, at_push, contains_at, index_of, same_at}

pub peaks_made : (want made : List Peak) (peaks : Peaks) → made ≡ want → ArePeaks made peaks → ArePeaks want peaks
peaks_made want made peaks is are = subst (λ xs. ArePeaks xs peaks) is are

-- ---- the greatest heights, peak by peak

pub top_begins : (peaks : List Peak) → IsTopBelow peaks 0 0
top_begins peaks = record { most = λ k peak less at. absurd (omega (arith, less)); is = inl (refl, refl) }

pub tops_begin : (peaks : List Peak) → AreTops peaks 0 []
tops_begin peaks = record { count = refl; each = λ k top at. absurd (let within = slice_get_within {A = ℕ} [] k top at in omega (arith, within)) }

pub top_more : (peaks : List Peak) (upto top next : ℕ) (peak : Peak) → IsTopBelow peaks upto top → slice_get peaks upto ≡ Some peak → next ≡ max peak.height top → IsTopBelow peaks (upto + 1) next
top_more peaks upto top next peak had at is = record {
  most = λ k other less at_k. elim (cases_eq k upto) [
    | inl same ↦
        let e = ap (λ (p : Peak). p.height) (same_at peaks k upto other peak same at_k at) in
        omega (arith, e, is)
    | inr apart ↦ let le = had.most k other (omega (arith, less, apart)) at_k in omega (arith, le, is)
  ];
  is = elim (cases_lt peak.height top) [
    | inr enough ↦ inr (record { index = upto; peak = peak; within = omega arith; at = at; is = omega (arith, enough, is) })
    | inl less ↦ elim had.is [
      | inl none ↦ let zero' = none.1 in absurd (omega (arith, less, zero'))
      | inr found ↦
          let within = found.within in
          let height = found.is in
          inr (record { index = found.index; peak = found.peak; within = omega (arith, within); at = found.at; is = omega (arith, height, less, is) })
    ]
  ];
}

pub tops_more : (peaks : List Peak) (upto : ℕ) (tops : List ℕ) (next : ℕ) → AreTops peaks upto tops → IsTopBelow peaks (upto + 1) next → AreTops peaks (upto + 1) (tops ++ next ∷ [])
tops_more peaks upto tops next had top = record {
  count = let l = length_push tops next in let c = had.count in omega (arith, l, c);
  each = λ k other at. elim (cases_eq k upto) [
    | inl same ↦
        let e : next ≡ other = at_push tops next other k at (same ∙ sym had.count) in
        subst (λ t. IsTopBelow peaks (k + 1) t) e (subst (λ q. IsTopBelow peaks (q + 1) next) (sym same) top)
    | inr apart ↦ had.each k other (at_front tops next other k at (λ last. apart (last ∙ had.count)))
  ];
}

-- ---- the greatest height before a limit

module _ (peaks : Peaks) (raised : AreRaised peaks) (limit count : ℕ) (split : IsSplitBelow foot_of peaks.items.items limit count) where
  pub none_before : count ≡ 0 → (n : ℕ) → ¬ IsHeightBefore peaks.items.items limit n
  none_before none n is =
      let k = index_of peaks.items.items is.peak is.listed in
      let high : limit ≤ is.peak.foot = split.high k.0 is.peak (omega (arith, none)) k.1 in
      let low = is.low in
      omega (arith, high, low)

  pub count_within : count ≤ length peaks.tops.items
  count_within = let bound = split.bound in let all = raised.tops.count in omega (arith, bound, all)

  pub some_before : (top : ℕ) → 0 < count → slice_get peaks.tops.items (count - 1) ≡ Some top → IsHeightBefore peaks.items.items limit top × ((n : ℕ) → IsHeightBefore peaks.items.items limit n → n ≤ top)
  some_before top some at =
      let is : IsTopBelow peaks.items.items (count - 1 + 1) top = raised.tops.each (count - 1) top at in (
        elim is.is [
          | inl none ↦ let zero' = none.0 in absurd (omega (arith, zero'))
          | inr found ↦
              let within = found.within in
              let less : found.index < count = omega (arith, within, some) in
              record { peak = found.peak; listed = contains_at peaks.items.items found.index found.peak found.at; low = split.low found.index found.peak less found.at; is = found.is }
        ],
        λ n one.
            let k = index_of peaks.items.items one.peak one.listed in
            let low = one.low in
            let less : k.0 < count = elim (cases_lt k.0 count) [
              | inl before ↦ before
              | inr past ↦ let high : limit ≤ one.peak.foot = split.high k.0 one.peak past k.1 in absurd (omega (arith, low, high))
            ] in
            let most = is.most k.0 one.peak (omega (arith, less)) k.1 in
            let height = one.is in
            omega (arith, most, height),
      )

-- ---- whether a number is covered

pub covered_to : (peaks : List Peak) (number top : ℕ) → IsHeightBefore peaks number top → number ≤ top → IsCovered peaks number
covered_to peaks number top is enough = let height = is.is in record { peak = is.peak; listed = is.listed; low = is.low; high = omega (arith, height, enough) }

pub covered_from : (peaks : List Peak) (number top : ℕ) → ((n : ℕ) → IsHeightBefore peaks number n → n ≤ top) → IsCovered peaks number → number ≤ top
covered_from peaks number top most is =
    let le = most is.peak.height (record { peak = is.peak; listed = is.listed; low = is.low; is = refl }) in
    let high = is.high in
    omega (arith, le, high)

pub never_covered : (peaks : List Peak) (number : ℕ) → ((n : ℕ) → ¬ IsHeightBefore peaks number n) → ¬ IsCovered peaks number
never_covered peaks number none is = none is.peak.height (record { peak = is.peak; listed = is.listed; low = is.low; is = refl })
