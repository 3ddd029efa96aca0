-- Hits in turn, each of which gets a put.
use Rattle.std.proofs.Common.{◌≡◌, ◌≢◌, ℕ, ◌+◌, ◌*◌, ◌^◌, ◌<◌, ◌≤◌, ◌⊎◌, Some, List, [], ◌∷◌, ◌++◌, length, set, take, get_or, refl, sym, ap, ◌∙◌, subst, arith, inl, inr}
use Rattle.std.specs.Prelude.{AllPairs, Contains, slice_get}
use Rattle.std.specs.List.Sorted.{IsNonDecreasingBy, IsPermutation}
use Rattle.std.specs.Option.{option_map}
use Rattle.std.proofs.lemmas.Bool.{cases_eq, cases_lt}
use Rattle.std.proofs.lemmas.List.{get_or-take, length-set, length-take, map_push, take_all}
use Rattle.std.proofs.lemmas.List.Elements.{All-nil, All-push, Contains-append_cases, Contains-append_left, Contains-append_right}
use Rattle.std.proofs.lemmas.List.Sorted.{All-permutation, Contains-permutation, IsPermutation-map, IsPermutation-sym}
use Rattle.std.proofs.lemmas.Option.{slice_get-map, slice_get_within, slice_get-get_or}
use Rattle.certificate_checker.proofs.public_laws.Lookups.{take_next}
use Rattle.certificate_finder.specs.declared.numbered_call.NumberedCall.{NumberedCall}
use Rattle.certificate_finder.specs.declared.ranked.Ranked.{Ranked}
use Rattle.certificate_finder.specs.declared.rule.Rule.{Rule}
use Rattle.certificate_finder.specs.declared.call_span.CallSpan.{CallSpan}
use Rattle.certificate_finder.specs.declared.stamp.Stamp.{Stamp}
use Rattle.certificate_finder.specs.declared.stamp.Stamp.TheVariants.{Start, End}
use Rattle.certificate_finder.specs.Choosing.{ChoosesBy, ComesBefore, IsChosen, IsEarlierBy}
use Rattle.certificate_finder.specs.Lining.{positions_in}
use Rattle.certificate_finder.specs.Offering.{AreByStamps, AreListed, rank_of_hit, stamp_at, stamp_of, times_in}
use Rattle.certificate_finder.proofs.EndLemmas.{at_set_other, at_set_same}
use Rattle.certificate_finder.proofs.Listing.{all_at, contains_at, distinct_permuted, index_of, pair_at, pairs_from_at, same_at}
use Rattle.certificate_finder.proofs.OfferLemmas.{at_unset, end_is, start_is}
use Rattle.certificate_finder.proofs.Ranking.{rank_at}
use Rattle.certificate_finder.proofs.SpotLemmas.{ranked_of}

-- ---- what hits chose

in_first : {X : Type 0} (x : X) (xs : List X) → Contains (x ∷ xs) x
in_first x xs = Contains-append_left (x ∷ []) xs x (contains_at (x ∷ []) 0 x refl)

in_rest : {X : Type 0} (x : X) (xs : List X) (y : X) → Contains xs y → Contains (x ∷ xs) y
in_rest x xs y has = Contains-append_right (x ∷ []) xs y has

only_one : {X : Type 0} (x : X) (k : ℕ) (y : X) → slice_get (x ∷ []) k ≡ Some y → x ≡ y
only_one x k y at =
    let within = slice_get_within (x ∷ []) k y at in
    same_at (x ∷ []) 0 k x y (omega arith) refl at

contains_cases : {X : Type 0} (x : X) (xs : List X) (y : X) → Contains (x ∷ xs) y → (x ≡ y) ⊎ Contains xs y
contains_cases x xs y has = elim (Contains-append_cases (x ∷ []) xs y has) [
  | inl one ↦ let k = index_of (x ∷ []) y one in inl (only_one x k.0 y k.1)
  | inr rest ↦ inr rest
]

module _ (rule : Rule) (reads : ℕ → ℕ → Type 0) (times : ℕ → CallSpan) where
  -- one hit more
  pub chooses_more : (owners xs mid : List ℕ) (hit put : ℕ) → ChoosesBy rule reads times owners xs mid → IsChosen rule reads times mid hit put → ChoosesBy rule reads times owners (xs ++ hit ∷ []) (set mid hit put)
  chooses_more owners [] mid hit put had is = (put, subst (λ o. IsChosen rule reads times o hit put) had is, ap (λ o. set o hit put) had)
  chooses_more owners (x ∷ xs) mid hit put had is = (had.0, had.1, chooses_more (set owners x had.0) xs mid hit put had.2 is)

  -- each other call keeps its owner
  pub untouched : (owners xs chosen : List ℕ) (p o : ℕ) → ChoosesBy rule reads times owners xs chosen → ¬ Contains xs p → slice_get owners p ≡ Some o → slice_get chosen p ≡ Some o
  untouched owners [] chosen p o had not at = ap (λ c. slice_get c p) had ∙ at
  untouched owners (x ∷ xs) chosen p o had not at =
      untouched (set owners x had.0) xs chosen p o had.2 (λ has. not (in_rest x xs p has)) (at_unset owners x had.0 p o (λ same. not (subst (λ q. Contains (x ∷ xs) q) (sym same) (in_first x xs))) at)

  -- what a call goes with in the end it can have read, or it went with it before and is none of the hits
  pub owner_by : (owners xs chosen : List ℕ) (p o : ℕ) → ChoosesBy rule reads times owners xs chosen → slice_get chosen p ≡ Some o → reads p o ⊎ ((slice_get owners p ≡ Some o) × (¬ Contains xs p))
  owner_by owners [] chosen p o had at = inr (sym (ap (λ c. slice_get c p) had) ∙ at, λ has. let h = has.1 in absurd (omega arith))
  owner_by owners (x ∷ xs) chosen p o had at = elim (owner_by (set owners x had.0) xs chosen p o had.2 at) [
    | inl reads_it ↦ inl reads_it
    | inr kept ↦ elim (cases_eq p x) [
      | inl same ↦
          let put : o ≡ had.0 = at_set_same owners x had.0 p o same kept.0 in
          inl (subst (λ q. reads q o) (sym same) (subst (λ w. reads x w) (sym put) had.1.can))
      | inr other ↦ inr (
        at_set_other owners x had.0 p o other kept.0,
        λ has. elim (contains_cases x xs p has) [
          | inl first ↦ other (sym first)
          | inr rest ↦ kept.1 rest
        ],
      )
    ]
  ]

  pub count_by : (owners xs chosen : List ℕ) → ChoosesBy rule reads times owners xs chosen → length chosen ≡ length owners
  count_by owners [] chosen had = ap length had
  count_by owners (x ∷ xs) chosen had = count_by (set owners x had.0) xs chosen had.2 ∙ length-set owners x had.0

-- ---- the next hit

-- no hit comes before itself
not_before : (steps : List NumberedCall) (p : ℕ) → ¬ ComesBefore (times_in steps) p p
not_before steps p before = elim before [
  | inl less ↦ omega arith
  | inr same ↦ let l = same.1 in omega arith
]

pub position_at : (hits : List Ranked) (index : ℕ) (hit : Ranked) → slice_get hits index ≡ Some hit → slice_get (positions_in hits) index ≡ Some hit.position
position_at hits index hit at = slice_get-map (λ (r : Ranked). r.position) hits index ∙ ap (option_map (λ (r : Ranked). r.position)) at

pub next_is : (hits : List Ranked) (index : ℕ) (hit : Ranked) → slice_get hits index ≡ Some hit → take (index + 1) (positions_in hits) ≡ take index (positions_in hits) ++ hit.position ∷ []
next_is hits index hit at = take_next (positions_in hits) index hit.position (position_at hits index hit at)

-- the hits up to it have their puts
pub chosen_next : (rule : Rule) (reads : ℕ → ℕ → Type 0) (times : ℕ → CallSpan) (owners mid new : List ℕ) (hits : List Ranked) (index put : ℕ) (hit : Ranked) → slice_get hits index ≡ Some hit → ChoosesBy rule reads times owners (take index (positions_in hits)) mid → IsChosen rule reads times mid hit.position put → new ≡ set mid hit.position put → ChoosesBy rule reads times owners (take (index + 1) (positions_in hits)) new
chosen_next rule reads times owners mid new hits index put hit at had is made =
    subst (λ xs. ChoosesBy rule reads times owners xs new) (sym (next_is hits index hit at))
    (subst (λ m. ChoosesBy rule reads times owners (take index (positions_in hits) ++ hit.position ∷ []) m) (sym made)
    (chooses_more rule reads times owners (take index (positions_in hits)) mid hit.position put had is))

-- it is none of those before it
pub next_fresh : (steps : List NumberedCall) (hits : List Ranked) (index : ℕ) (hit : Ranked) → AllPairs (ComesBefore (times_in steps)) (positions_in hits) → slice_get hits index ≡ Some hit → ¬ Contains (take index (positions_in hits)) hit.position
next_fresh steps hits index hit order at has =
    let long = length-take index (positions_in hits) in
    let within = slice_get_within (positions_in hits) index hit.position (position_at hits index hit at) in
    let h = has.1 in
    let less : has.0 < index = omega arith in
    let here : get_or (positions_in hits) has.0 hit.position ≡ hit.position = sym (get_or-take index (positions_in hits) has.0 hit.position less) ∙ has.2 in
    let found : slice_get (positions_in hits) has.0 ≡ Some hit.position = slice_get-get_or (positions_in hits) has.0 hit.position (omega arith) ∙ ap Some here in
    not_before steps hit.position (pair_at (ComesBefore (times_in steps)) (positions_in hits) has.0 index hit.position hit.position order less found (position_at hits index hit at))

-- ---- hits with their ranks, and sorted by them

stamp_is : (stamp : Stamp) (steps : List NumberedCall) (p : ℕ) (step : NumberedCall) → slice_get steps p ≡ Some step → stamp_at stamp steps p ≡ stamp_of stamp step
stamp_is Start steps p step at = start_is steps p step at
stamp_is End steps p step at = end_is steps p step at

ordered : (s t p q : ℕ) → p < 2 ^ 32 → q < 2 ^ 32 → s * 2 ^ 32 + p ≤ t * 2 ^ 32 + q → s ≤ t
ordered s t p q a b le = omega arith

ordered_in : (s p q : ℕ) → s * 2 ^ 32 + p ≤ s * 2 ^ 32 + q → p ≤ q
ordered_in s p q le = omega arith

module _ (stamp : Stamp) (steps : List NumberedCall) where
  pub listed_begin : (positions : List ℕ) → AreListed stamp steps positions 0 []
  listed_begin positions = record { same = refl; ranks = All-nil (λ (hit : Ranked). (hit.rank ≡ rank_of_hit stamp steps hit.position) × (hit.position < 2 ^ 32)) }

  pub listed_more : (positions : List ℕ) (upto position rank : ℕ) (hits : List Ranked) (step : NumberedCall) → AreListed stamp steps positions upto hits → slice_get positions upto ≡ Some position → slice_get steps position ≡ Some step → position < 2 ^ 32 → rank ≡ stamp_of stamp step * 2 ^ 32 + position → AreListed stamp steps positions (upto + 1) (hits ++ record { position = position; rank = rank } ∷ [])
  listed_more positions upto position rank hits step had at at_step small is =
      let own = stamp_is stamp steps position step at_step in
      let same : stamp_of stamp step * 2 ^ 32 + position ≡ rank_of_hit stamp steps position = ap (λ s. s * 2 ^ 32 + position) (sym own) in
      record {
        same = map_push (λ (r : Ranked). r.position) hits (record { position = position; rank = rank }) ∙ ap (λ ps. ps ++ position ∷ []) had.same ∙ sym (take_next positions upto position at);
        ranks = All-push (λ (hit : Ranked). (hit.rank ≡ rank_of_hit stamp steps hit.position) × (hit.position < 2 ^ 32)) hits (record { position = position; rank = rank }) had.ranks (is ∙ same, small);
      }

  before_by : (p q : ℕ) → p < 2 ^ 32 → q < 2 ^ 32 → p ≢ q → rank_of_hit stamp steps p ≤ rank_of_hit stamp steps q → IsEarlierBy (stamp_at stamp steps) p q
  before_by p q a b apart le =
      let stamps = ordered (stamp_at stamp steps p) (stamp_at stamp steps q) p q a b le in
      elim (cases_eq (stamp_at stamp steps p) (stamp_at stamp steps q)) [
        | inl same ↦
            let in_one = ordered_in (stamp_at stamp steps q) p q (subst (λ s. s * 2 ^ 32 + p ≤ stamp_at stamp steps q * 2 ^ 32 + q) same le) in
            inr (same, (let differ : p ≡ q → ⊥ = apart in elim (cases_eq p q) [ inl equal ↦ absurd (differ equal) | inr other ↦ elim (cases_lt p q) [ inl less ↦ less | inr not ↦ absurd (other (omega arith)) ] ]))
        | inr other ↦ elim (cases_lt (stamp_at stamp steps p) (stamp_at stamp steps q)) [
          | inl less ↦ inl less
          | inr not ↦ absurd (other (omega arith))
        ]
      ]

  pub are_turned : (positions : List ℕ) (xs ys : List Ranked) → AllPairs (λ earlier later. earlier < later) positions → AreListed stamp steps positions (length positions) xs → IsPermutation xs ys → IsNonDecreasingBy (λ (hit : Ranked). hit.rank) ys → AreByStamps stamp steps positions ys
  are_turned positions xs ys rise had moved sorted =
      let all : positions_in xs ≡ positions = had.same ∙ take_all (length positions) positions (omega arith) in
      let moved_positions : IsPermutation (positions_in xs) (positions_in ys) = IsPermutation-map (λ (r : Ranked). r.position) xs ys moved in
      let ranks = All-permutation (λ (hit : Ranked). (hit.rank ≡ rank_of_hit stamp steps hit.position) × (hit.position < 2 ^ 32)) xs ys moved had.ranks in
      let apart : AllPairs (λ (a b : Ranked). a.position ≢ b.position) xs = pairs_from_at (λ (a b : Ranked). a.position ≢ b.position) xs (λ i j a b less one other same.
      let at_i : slice_get positions i ≡ Some a.position = ap (λ us. slice_get us i) (sym all) ∙ position_at xs i a one in
      let at_j : slice_get positions j ≡ Some b.position = ap (λ us. slice_get us j) (sym all) ∙ position_at xs j b other in
      let l : a.position < b.position = pair_at (λ earlier later. earlier < later) positions i j a.position b.position rise less at_i at_j in
      absurd (omega arith)) in
      let distinct = distinct_permuted (λ (r : Ranked). r.position) xs ys moved apart in
      record {
        same = λ hit. (
          λ has. Contains-permutation (positions_in xs) (positions_in ys) hit moved_positions (subst (λ us. Contains us hit) (sym all) has),
          λ has. subst (λ us. Contains us hit) all (Contains-permutation (positions_in ys) (positions_in xs) hit (IsPermutation-sym (positions_in xs) (positions_in ys) moved_positions) has),
        );
        order = pairs_from_at (IsEarlierBy (stamp_at stamp steps)) (positions_in ys) (λ i j p q less one other.
            let a = ranked_of ys i p one in
            let b = ranked_of ys j q other in
            let le = rank_at (λ (hit : Ranked). hit.rank) ys i j a.0 b.0 sorted (omega arith) a.1 b.1 in
            let ra = all_at (λ (hit : Ranked). (hit.rank ≡ rank_of_hit stamp steps hit.position) × (hit.position < 2 ^ 32)) ys i a.0 ranks a.1 in
            let rb = all_at (λ (hit : Ranked). (hit.rank ≡ rank_of_hit stamp steps hit.position) × (hit.position < 2 ^ 32)) ys j b.0 ranks b.1 in
            let differ = pair_at (λ (x y : Ranked). x.position ≢ y.position) ys i j a.0 b.0 distinct less a.1 b.1 in
            let le' : rank_of_hit stamp steps a.0.position ≤ rank_of_hit stamp steps b.0.position = let e = ra.0 in let f = rb.0 in omega arith in
            subst (λ x. IsEarlierBy (stamp_at stamp steps) x q) a.2 (subst (λ y. IsEarlierBy (stamp_at stamp steps) a.0.position y) b.2 (before_by a.0.position b.0.position ra.1 rb.1 differ le')));
      }
