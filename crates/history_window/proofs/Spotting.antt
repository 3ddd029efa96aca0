-- The points of a line's calls, and that a line which agrees with time key by key makes a history acceptable.
use Rattle.std.proofs.Common.{◌≡◌, ℕ, ◌<◌, ◌≤◌, max, true, false, cond, List, [], ◌∷◌, length, refl, sym, ap, ◌∙◌, subst, arith, inl, inr}
use Rattle.std.specs.Prelude.{All, map, slice_get}
use Rattle.std.proofs.lemmas.Bool.{cond_both}
use Rattle.trace_file.specs.declared.call.Call.{Call}
use Rattle.certificate_checker.specs.Deeds.{deed_of}
use Rattle.certificate_checker.specs.Latest.{IsLawful}
use Rattle.certificate_checker.specs.Orders.{IsOrder, in_order}
use Rattle.certificate_checker.proofs.public_laws.Accepting.{found_at}
use Rattle.certificate_checker.proofs.public_laws.Listing.{Member, Pairs, all_member, member_all, map_member, member_at, pairs_from, pairs_to, pairs_weaker}
use Rattle.certificate_checker.proofs.public_laws.Lookups.{and_some}
use Rattle.certificate_finder.specs.Laws.{SortedSpotsAreAccepted}
use Rattle.certificate_finder.specs.Spots.{AreOfOne, IsWithin, Spotted, is_at, positions_of}
use Rattle.certificate_finder.specs.Turns.{end_at, start_at}
use Rattle.history_window.specs.Laws.{KeysAgree}
use Rattle.history_window.specs.Standing.{Acceptable}
use Rattle.history_window.proofs.CallLemmas.{end_is, joins, joins_from, joins_to, one_joined, start_is}
use Rattle.history_window.proofs.Sorting.{by_points, points_in_order, points_keep, points_permuted}

module _ (history : List Call) where
  -- the greatest start of a call and of those before it that are of its key
  abbrev highest : ℕ → List ℕ → ℕ
  highest p [] = start_at history p
  highest p (q ∷ before) = cond (joins history q p) (max (start_at history q) (highest p before)) (highest p before)

  -- the calls of a line at these points
  abbrev spots : List ℕ → List ℕ → List Spotted
  spots before [] = []
  spots before (p ∷ line) = (record { position = p; point = highest p before }) ∷ spots (p ∷ before) line

  own : (p : ℕ) (before : List ℕ) → start_at history p ≤ highest p before
  own p [] = omega arith
  own p (q ∷ before) =
      let le = own p before in
      cond_both (joins history q p) (max (start_at history q) (highest p before)) (highest p before) (λ n. start_at history p ≤ n) (λ e. omega (arith, le)) (λ e. le)

  above : (p : ℕ) (before : List ℕ) (q : ℕ) → Member q before → AreOfOne history q p → start_at history q ≤ highest p before
  above p [] q m one = absurd m
  above p (r ∷ before) q m one = cond_both (joins history r p) (max (start_at history r) (highest p before)) (highest p before) (λ n. start_at history q ≤ n)
      (λ e. elim m [
        | inl same ↦ let s = ap (start_at history) same in omega (arith, s)
        | inr later ↦ let le = above p before q later one in omega (arith, le)
      ])
      (λ e. elim m [
        | inl same ↦ absurd (let on : joins history r p ≡ true = joins_from history r p (subst (λ x. AreOfOne history x p) same one) in let both : true ≡ false = sym on ∙ e in cc)
        | inr later ↦ above p before q later one
      ])

  until : (p : ℕ) (before : List ℕ) (most : ℕ) → start_at history p ≤ most → ((q : ℕ) → Member q before → AreOfOne history q p → start_at history q ≤ most) → highest p before ≤ most
  until p [] most le others = le
  until p (q ∷ before) most le others =
      let rest = until p before most le (λ r m. others r (inr m)) in
      cond_both (joins history q p) (max (start_at history q) (highest p before)) (highest p before) (λ n. n ≤ most)
      (λ e. let first = others q (inl refl) (joins_to history q p e) in omega (arith, first, rest))
      (λ e. rest)

  positions_are : (before line : List ℕ) → positions_of (spots before line) ≡ line
  positions_are before [] = refl
  positions_are before (p ∷ line) = ap (λ ps. p ∷ ps) (positions_are (p ∷ before) line)

  above_all : (before line : List ℕ) (s : Spotted) → Member s (spots before line) → (q : ℕ) → Member q before → AreOfOne history q s.position → start_at history q ≤ s.point
  above_all before [] s m q there one = absurd m
  above_all before (p ∷ line) s m q there one = elim m [
    | inl same ↦ subst (λ (x : Spotted). AreOfOne history q x.position → start_at history q ≤ x.point) (sym same) (above p before q there) one
    | inr later ↦ above_all (p ∷ before) line s later q (inr there) one
  ]

  points_rise : (before line : List ℕ) → Pairs (λ a b. AreOfOne history a.position b.position → a.point ≤ b.point) (spots before line)
  points_rise before [] = tt
  points_rise before (p ∷ line) = (
    λ s m one. until p before s.point (above_all (p ∷ before) line s m p (inl refl) one) (λ q there of. above_all (p ∷ before) line s m q (inr there) (one_joined history q p s.position of one)),
    points_rise (p ∷ before) line,
  )

  starts : (before line : List ℕ) (s : Spotted) → Member s (spots before line) → start_at history s.position ≤ s.point
  starts before [] s m = absurd m
  starts before (p ∷ line) s m = elim m [
    | inl same ↦ subst (λ (x : Spotted). start_at history x.position ≤ x.point) (sym same) (own p before)
    | inr later ↦ starts (p ∷ before) line s later
  ]

  abbrev Fits : ℕ → ℕ → Type 0
  Fits p q = AreOfOne history p q → start_at history p ≤ end_at history q

  ends : (before line : List ℕ) → ((q p : ℕ) → Member q before → Member p line → Fits q p) → Pairs Fits line → ((p : ℕ) → Member p line → start_at history p ≤ end_at history p) → (s : Spotted) → Member s (spots before line) → s.point ≤ end_at history s.position
  ends before [] across fits inside s m = absurd m
  ends before (p ∷ line) across fits inside s m = elim m [
    | inl same ↦ subst (λ (x : Spotted). x.point ≤ end_at history x.position) (sym same) (until p before (end_at history p) (inside p (inl refl)) (λ q there. across q p there (inl refl)))
    | inr later ↦
        ends (p ∷ before) line
        (λ q r there here. elim there [ inl same ↦ subst (λ x. Fits x r) (sym same) (fits.0 r here) | inr old ↦ across q r old (inr here) ])
        fits.1 (λ q here. inside q (inr here)) s later
  ]

  module _ (line : List ℕ) (order : IsOrder history line) (intervals : All (λ call. call.start ≤ call.end) history) (agree : KeysAgree history line) (lawful : IsLawful (map deed_of (in_order history line))) where
    inside : (p : ℕ) → Member p line → start_at history p ≤ end_at history p
    inside p m =
        let call = found_at history p (all_member (λ q. q < length history) line p order.positions m) in
        let le : call.0.start ≤ call.0.end = all_member (λ (c : Call). c.start ≤ c.end) history call.0 intervals (member_at history p call.0 call.1) in
        let from = start_is history p call.0 call.1 in
        let till = end_is history p call.0 call.1 in
        omega (arith, le, from, till)

    listed : (s : Spotted) → Member s (spots [] line) → Member s.position line
    listed s m = subst (Member s.position) (positions_are [] line) (map_member (λ (x : Spotted). x.position) (spots [] line) s m)

    within : (s : Spotted) → Member s (spots [] line) → IsWithin history s
    within s m =
        let call = found_at history s.position (all_member (λ q. q < length history) line s.position order.positions (listed s m)) in
        let low = starts [] line s m in
        let high = ends [] line (λ q p there here. absurd there) (pairs_from Fits line agree) inside s m in
        let from = start_is history s.position call.0 call.1 in
        let till = end_is history s.position call.0 call.1 in
        and_some (slice_get history s.position) (λ (c : Call). (c.start ≤ s.point) × (s.point ≤ c.end)) call.0 call.1 (omega (arith, low, from), omega (arith, high, till))

    pub line_acceptable : SortedSpotsAreAccepted → Acceptable history
    line_acceptable sorted_are =
        let xs = spots [] line in
        let same = positions_are [] line in (
          positions_of (by_points xs),
          sorted_are history xs (by_points xs)
              (record {
                order = subst (IsOrder history) (sym same) order;
                within = member_all (IsWithin history) xs within;
                lawful = subst (λ ps. IsLawful (map deed_of (in_order history ps))) (sym same) lawful;
              })
              (points_permuted xs)
              (λ key. points_keep (λ (s : Spotted). is_at history key s.position) xs (pairs_weaker (λ a b. AreOfOne history a.position b.position → a.point ≤ b.point) (λ a b. is_at history key a.position ≡ true → is_at history key b.position ≡ true → a.point ≤ b.point) xs
              (λ a b l m up one other. up (record { key = key; first = one; second = other })) (points_rise [] line)))
              (pairs_to (λ a b. a.point ≤ b.point) (by_points xs) (points_in_order xs)),
        )
