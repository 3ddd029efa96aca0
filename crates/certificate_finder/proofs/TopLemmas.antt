-- The zones of a key that end before a stamp, and which of them start last.
use Rattle.std.proofs.Common.{◌≡◌, ◌≢◌, ℕ, ◌+◌, ◌-◌, ◌^◌, ◌<◌, ◌≤◌, ◌⊎◌, Some, List, [], ◌∷◌, ◌++◌, length, refl, sym, ap, ◌∙◌, subst, arith, inl, inr}
use Rattle.std.specs.Prelude.{All, slice_get}
use Rattle.std.specs.List.Sorted.{IsNonDecreasingBy, IsPermutation}
use Rattle.std.proofs.lemmas.Bool.{cases_eq, cases_lt}
use Rattle.std.proofs.lemmas.List.{length_push}
use Rattle.std.proofs.lemmas.List.Sorted.{All-permutation}
use Rattle.std.proofs.lemmas.Option.{same_Some, slice_get_within}
use Rattle.certificate_finder.specs.declared.by_ends.Top.{Top}
use Rattle.certificate_finder.specs.declared.numbered_call.NumberedCall.{NumberedCall}
use Rattle.certificate_finder.specs.declared.zone.Zone.{Zone}
use Rattle.certificate_finder.specs.Unreading.{AreEndZones, AreTops, IsOther, IsTop, StartsLast, end_rank}
use Rattle.certificate_finder.specs.Writing.{IsSplitBelow, Writing, key_rank}
use Rattle.certificate_finder.specs.Zones.{AreDistinct, AreZones, IsFitZone, TellsZone}
use Rattle.certificate_finder.proofs.Listing.{all_at, all_from_at, contains_at, distinct_permuted, lists_permuted, pair_at, same_at}
use Rattle.certificate_finder.proofs.Ranking.{key_le, rank_at}
use Rattle.certificate_finder.proofs.StepLemmas.{at_front, at_push}

-- the first index alone
pub first_tops : (zones : List Zone) (top : Top) → IsTop zones 0 top → AreTops zones 1 ([] ++ top ∷ [])
first_tops zones top is = record {
  count = refl;
  each = λ k other at.
      let within = slice_get_within {A = Top} (top ∷ []) k other at in
      let first : k ≡ 0 = omega arith in
      let e : top ≡ other = same_at {X = Top} (top ∷ []) 0 k top other (sym first) refl at in
      subst (λ t. IsTop zones k t) e (subst (λ q. IsTop zones q top) (sym first) is);
}

pub are_end_zones : (steps : List NumberedCall) (owners : List ℕ) (made zones : List Zone) → AreZones steps owners made → IsPermutation made zones → IsNonDecreasingBy end_rank zones → AreEndZones steps owners zones
are_end_zones steps owners made zones are moved sorted = record {
  lists = lists_permuted steps Writing (TellsZone steps owners) (length steps) made zones moved are.lists;
  sorted = sorted;
  distinct = distinct_permuted (λ (z : Zone). z.write) made zones moved are.distinct;
  fit = All-permutation IsFitZone made zones moved are.fit;
}

lower_end : (k s t : ℕ) → key_rank k s < key_rank k t → s < t
lower_end k s t less = omega arith

not_lower_end : (k s t : ℕ) → key_rank k t ≤ key_rank k s → t ≤ s
not_lower_end k s t le = omega arith

module _ (zones : List Zone) (sorted : IsNonDecreasingBy end_rank zones) (fit : All IsFitZone zones) where
  keys_rise : (i j : ℕ) (x y : Zone) → i ≤ j → slice_get zones i ≡ Some x → slice_get zones j ≡ Some y → x.key ≤ y.key
  keys_rise i j x y le at_x at_y = key_le x.key x.end y.key y.end (all_at IsFitZone zones j y fit at_y).end (rank_at end_rank zones i j x y sorted le at_x at_y)

  -- ---- one zone more

  module _ (index : ℕ) (top : Top) (zone first : Zone) (old : IsTop zones (index - 1) top) (later : 0 < index) (at : slice_get zones index ≡ Some zone) (first_at : slice_get zones top.first ≡ Some first) where
    same_first : old.first ≡ first
    same_first = same_Some old.first first (sym old.first_at ∙ first_at)

    -- an earlier zone of its key is of the key before it
    key_before : (k : ℕ) (other : Zone) → k < index → slice_get zones k ≡ Some other → other.key ≡ zone.key → zone.key ≡ first.key
    key_before k other less at_k key =
        let low = keys_rise k (index - 1) other old.zone (omega arith) at_k old.at in
        let high = keys_rise (index - 1) index old.zone zone (omega arith) old.at at in
        let e : old.zone.key ≡ zone.key = omega (arith, low, high, key) in
        sym (ap (λ (z : Zone). z.key) (sym same_first) ∙ old.first_key ∙ e)

    it : (k : ℕ) (other : Zone) → k ≡ index → slice_get zones k ≡ Some other → other ≡ zone
    it k other same at_k = same_at zones k index other zone same at_k at

    pub top_new : (zone.key ≡ first.key → ⊥) → IsTop zones index (record { first = index; second = index })
    top_new not = record {
      zone = zone;
      first = zone;
      second = zone;
      at = at;
      first_at = at;
      second_at = at;
      first_in = omega arith;
      second_in = omega arith;
      first_key = refl;
      second_key = refl;
      greatest = λ k other le at_k key. elim (cases_eq k index) [
        | inl same ↦ let e = ap (λ (z : Zone). z.start) (it k other same at_k) in omega (arith, e)
        | inr apart ↦ absurd (not (key_before k other (omega arith) at_k key))
      ];
      next = λ k other le at_k key apart. absurd (not (key_before k other (omega arith) at_k key));
    }

    module _ (key : zone.key ≡ first.key) where
      zone_key : old.zone.key ≡ zone.key
      zone_key = sym old.first_key ∙ ap (λ (z : Zone). z.key) same_first ∙ sym key

      pub top_second : zone.start ≤ first.start → ((top.second ≡ top.first) ⊎ (old.second.start < zone.start)) → IsTop zones index (record { first = top.first; second = index })
      top_second low either = record {
        zone = zone;
        first = old.first;
        second = zone;
        at = at;
        first_at = old.first_at;
        second_at = at;
        first_in = let l = old.first_in in omega arith;
        second_in = omega arith;
        first_key = old.first_key ∙ zone_key;
        second_key = refl;
        greatest = λ k other le at_k of_key. elim (cases_eq k index) [
          | inl same ↦
              let e = ap (λ (z : Zone). z.start) (it k other same at_k) in
              let f = ap (λ (z : Zone). z.start) same_first in
              omega (arith, e, f, low)
          | inr apart ↦ old.greatest k other (omega arith) at_k (of_key ∙ sym zone_key)
        ];
        next = λ k other le at_k of_key apart. (
          λ same. let l = old.first_in in omega (arith, l, same),
          elim (cases_eq k index) [
            | inl same ↦ let e = ap (λ (z : Zone). z.start) (it k other same at_k) in omega (arith, e)
            | inr before ↦
                let n = old.next k other (omega arith) at_k (of_key ∙ sym zone_key) apart in
                elim either [
                  | inl one ↦ absurd (n.0 one)
                  | inr less ↦ let m = n.1 in omega (arith, m, less)
                ]
          ],
        );
      }

      pub top_kept : zone.start ≤ first.start → (top.second ≡ top.first → ⊥) → zone.start ≤ old.second.start → IsTop zones index top
      top_kept low two high = record {
        zone = zone;
        first = old.first;
        second = old.second;
        at = at;
        first_at = old.first_at;
        second_at = old.second_at;
        first_in = let l = old.first_in in omega arith;
        second_in = let l = old.second_in in omega arith;
        first_key = old.first_key ∙ zone_key;
        second_key = old.second_key ∙ zone_key;
        greatest = λ k other le at_k of_key. elim (cases_eq k index) [
          | inl same ↦
              let e = ap (λ (z : Zone). z.start) (it k other same at_k) in
              let f = ap (λ (z : Zone). z.start) same_first in
              omega (arith, e, f, low)
          | inr apart ↦ old.greatest k other (omega arith) at_k (of_key ∙ sym zone_key)
        ];
        next = λ k other le at_k of_key apart. elim (cases_eq k index) [
          | inl same ↦ (two, let e = ap (λ (z : Zone). z.start) (it k other same at_k) in omega (arith, e, high))
          | inr before ↦ old.next k other (omega arith) at_k (of_key ∙ sym zone_key) apart
        ];
      }

  pub top_begins : (zone : Zone) → slice_get zones 0 ≡ Some zone → IsTop zones 0 (record { first = 0; second = 0 })
  top_begins zone at = record {
    zone = zone;
    first = zone;
    second = zone;
    at = at;
    first_at = at;
    second_at = at;
    first_in = omega arith;
    second_in = omega arith;
    first_key = refl;
    second_key = refl;
    greatest = λ k other le at_k key. let e = ap (λ (z : Zone). z.start) (same_at zones k 0 other zone (omega arith) at_k at) in omega (arith, e);
    next = λ k other le at_k key apart. absurd (apart (omega arith));
  }

  pub tops_more : (upto : ℕ) (tops : List Top) (top : Top) → AreTops zones upto tops → IsTop zones upto top → AreTops zones (upto + 1) (tops ++ top ∷ [])
  tops_more upto tops top had is = record {
    count = let l = length_push tops top in let c = had.count in omega arith;
    each = λ k other at. elim (cases_eq k upto) [
      | inl same ↦
          let e = at_push tops top other k at (same ∙ sym had.count) in
          subst (λ t. IsTop zones k t) e (subst (λ q. IsTop zones q top) (sym same) is)
      | inr apart ↦ had.each k other (at_front tops top other k at (λ last. apart (last ∙ had.count)))
    ];
  }

  -- ---- the one that starts last of those that end before a stamp

  module _ (key before write upto : ℕ) (low : before < 2 ^ 64) (split : IsSplitBelow end_rank zones (key_rank key before) upto) where
    below : (k : ℕ) (z : Zone) → slice_get zones k ≡ Some z → IsOther key before write z → k < upto
    below k z at is = elim (cases_lt k upto) [
      | inl less ↦ less
      | inr not ↦
          let high = split.high k z not at in
          let le = not_lower_end key z.end before (subst (λ q. key_rank key before ≤ key_rank q z.end) is.of_key high) in
          let ends = is.ends in
          absurd (omega (arith, le, ends))
    ]

    ends : (k : ℕ) (z : Zone) → k < upto → slice_get zones k ≡ Some z → z.key ≡ key → z.end < before
    ends k z less at of_key = lower_end key z.end before (subst (λ q. key_rank q z.end < key_rank key before) of_key (split.low k z less at))

    pub none_below : upto ≡ 0 → All (λ zone. ¬ IsOther key before write zone) zones
    none_below none = all_from_at (λ zone. ¬ IsOther key before write zone) zones (λ k z at is. let l = below k z at is in omega (arith, l, none))

    module _ (top : Top) (first : Zone) (t : IsTop zones (upto - 1) top) (some : 0 < upto) (first_at : slice_get zones top.first ≡ Some first) where
      same : t.first ≡ first
      same = same_Some t.first first (sym t.first_at ∙ first_at)

      first_of_key : t.zone.key ≡ first.key
      first_of_key = sym t.first_key ∙ ap (λ (z : Zone). z.key) same

      pub none_of_key : (first.key ≡ key → ⊥) → All (λ zone. ¬ IsOther key before write zone) zones
      none_of_key not = all_from_at (λ zone. ¬ IsOther key before write zone) zones (λ k z at is.
          let l = below k z at is in
          let rise = keys_rise k (upto - 1) z t.zone (omega (arith, l)) at t.at in
          let under = split.low (upto - 1) t.zone (omega arith) t.at in
          let fall = key_le t.zone.key t.zone.end key before low (omega (arith, under)) in
          let e : z.key ≡ key = is.of_key in
          let f : t.zone.key ≡ key = omega (arith, rise, fall, e) in
          not (sym first_of_key ∙ f))

      module _ (of_key : first.key ≡ key) where
        top_key : t.zone.key ≡ key
        top_key = first_of_key ∙ of_key

        pub first_starts_last : (first.write ≡ write → ⊥) → StartsLast zones key before write first
        first_starts_last apart = record {
          listed = contains_at zones top.first first first_at;
          is = record { of_key = of_key; ends = ends top.first first (let l = t.first_in in omega arith) first_at of_key; apart = apart };
          greatest = all_from_at (λ other. IsOther key before write other → other.start ≤ first.start) zones (λ k z at is.
              let l = below k z at is in
              let g = t.greatest k z (omega (arith, l)) at (is.of_key ∙ sym top_key) in
              let e = ap (λ (x : Zone). x.start) same in
              omega (arith, g, e));
        }

        module _ (is_write : first.write ≡ write) where
          not_first : (k : ℕ) (z : Zone) → slice_get zones k ≡ Some z → IsOther key before write z → k ≢ top.first
          not_first k z at is one = is.apart (ap (λ (x : Zone). x.write) (same_at zones k top.first z first one at first_at) ∙ is_write)

          pub none_other : top.second ≡ top.first → All (λ zone. ¬ IsOther key before write zone) zones
          none_other alone = all_from_at (λ zone. ¬ IsOther key before write zone) zones (λ k z at is.
              let l = below k z at is in
              (t.next k z (omega (arith, l)) at (is.of_key ∙ sym top_key) (not_first k z at is)).0 alone)

          pub second_starts_last : AreDistinct zones → (second : Zone) → slice_get zones top.second ≡ Some second → (top.second ≡ top.first → ⊥) → StartsLast zones key before write second
          second_starts_last distinct second second_at two =
              let one = same_Some t.second second (sym t.second_at ∙ second_at) in
              let second_key : second.key ≡ key = ap (λ (z : Zone). z.key) (sym one) ∙ t.second_key ∙ top_key in
              record {
                listed = contains_at zones top.second second second_at;
                is = record {
                  of_key = second_key;
                  ends = ends top.second second (let l = t.second_in in omega arith) second_at second_key;
                  apart = λ w. elim (cases_lt top.first top.second) [
                    | inl less ↦ pair_at (λ (a b : Zone). a.write ≢ b.write) zones top.first top.second first second distinct less first_at second_at (is_write ∙ sym w)
                    | inr not ↦ pair_at (λ (a b : Zone). a.write ≢ b.write) zones top.second top.first second first distinct (omega (arith, not, two)) second_at first_at (w ∙ sym is_write)
                  ];
                };
                greatest = all_from_at (λ other. IsOther key before write other → other.start ≤ second.start) zones (λ k z at is.
                    let l = below k z at is in
                    let n = (t.next k z (omega (arith, l)) at (is.of_key ∙ sym top_key) (not_first k z at is)).1 in
                    let e = ap (λ (x : Zone). x.start) one in
                    omega (arith, n, e));
              }
