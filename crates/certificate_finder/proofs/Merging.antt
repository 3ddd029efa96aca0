-- Calls in the order of their points.
use Rattle.std.proofs.Common.{◌≡◌, ◌≢◌, ℕ, ◌<◌, ◌≤◌, Bool, true, false, cond, eqb, get_or, Some, None, List, [], ◌∷◌, length, map, refl, sym, ap, ◌∙◌, subst, arith, inl, inr}
use Rattle.std.specs.Prelude.{slice_get, All, AllPairs, Decides, filter}
use Rattle.std.specs.List.{cons_option}
use Rattle.std.specs.List.Sorted.{IsPermutation, IsNonDecreasingBy}
use Rattle.std.proofs.lemmas.Bool.{cases_eq, false_from_ne_true}
use Rattle.std.proofs.lemmas.Map.Keys.{IsDistinct-IsPermutation}
use Rattle.std.proofs.lemmas.Map.Made.{AllPairs-from_IsDistinct, IsDistinct-from_AllPairs}
use Rattle.std.proofs.lemmas.Option.{slice_get-get_or}
use borrow.Author.Tests.{eqb-true, eq-eqb}
use Rattle.std.proofs.lemmas.List.Sorted.{IsPermutation-map, IsPermutation-sym, All-permutation, Contains-permutation}
use Rattle.trace_file.specs.declared.call.Call.{Call}
use Rattle.certificate_checker.specs.Acceptance.{IsAccepted}
use Rattle.certificate_checker.specs.Deeds.{deed_of}
use Rattle.certificate_checker.specs.Latest.{IsLawful}
use Rattle.certificate_checker.specs.Orders.{Precedes, IsOrder, in_order, Agrees}
use Rattle.certificate_checker.proofs.public_laws.Listing.{Member, Pairs, member_map, member_contained, all_member, contained_member, member_filter, filter_member, pairs_from, pairs_to, pairs_weaker, pairs_both, pairs_map, map_pairs, pairs_filter, pairs_picked, same_in_order}
use Rattle.certificate_checker.proofs.public_laws.Lookups.{some_and}
use Rattle.certificate_finder.specs.Spots.{HappensAt, is_of, is_at, AreOfOne}
use Rattle.certificate_finder.proofs.ByKeys.{each_key, all_keys}

-- the deeds at positions that are of a key are those at the positions of the key
deeds_of_key : {X : Type 0} (position : X → ℕ) (history : List Call) (key : List ℕ) (xs : List X) → filter (is_of key) (map deed_of (in_order history (map position xs))) ≡ map deed_of (in_order history (map position (filter (λ x. is_at history key (position x)) xs)))
deeds_of_key position history key [] = refl
deeds_of_key {X} position history key (x ∷ xs) =
    let test : X → Bool = λ (y : X). is_at history key (position y) in
    let rest = deeds_of_key position history key xs in
    elim (slice_get history (position x)) as (λ o. slice_get history (position x) ≡ o → filter (is_of key) (map deed_of (cons_option o (in_order history (map position xs)))) ≡ map deed_of (in_order history (map position (filter test (x ∷ xs))))) [
      | None ↦ λ is. let no : is_at history key (position x) ≡ false = rw is refl in rw no rest
      | Some call ↦
          λ is.
          let same : is_at history key (position x) ≡ is_of key (deed_of call) = rw is refl in
          elim (is_of key (deed_of call)) as (λ b. is_of key (deed_of call) ≡ b → cond b (deed_of call ∷ filter (is_of key) (map deed_of (in_order history (map position xs)))) (filter (is_of key) (map deed_of (in_order history (map position xs)))) ≡ map deed_of (in_order history (map position (filter test (x ∷ xs))))) [
            | true ↦ λ yes. let pass : is_at history key (position x) ≡ true = same ∙ yes in rw (pass, is) (ap (λ ds. deed_of call ∷ ds) rest)
            | false ↦ λ no. let fail : is_at history key (position x) ≡ false = same ∙ no in rw fail rest
          ] refl
    ] refl

-- numbers that differ stay so in other orders
eqb_flips : (p q : ℕ) → eqb p q ≡ eqb q p
eqb_flips p q = elim (cases_eq p q) [
  | inl same ↦ eq-eqb p q same ∙ sym (eq-eqb q p (sym same))
  | inr other ↦ false_from_ne_true (eqb p q) (λ e. other (eqb-true p q e)) ∙ sym (false_from_ne_true (eqb q p) (λ e. other (sym (eqb-true q p e))))
]

once_permuted : (ps qs : List ℕ) → IsPermutation ps qs → AllPairs (λ p q. p ≢ q) ps → AllPairs (λ p q. p ≢ q) qs
once_permuted ps qs permuted once =
    let same : (p q : ℕ) → Decides (eqb p q) (p ≡ q) = λ p q. (eqb-true p q, eq-eqb p q) in
    AllPairs-from_IsDistinct same qs (IsDistinct-IsPermutation eqb eqb_flips ps qs permuted (IsDistinct-from_AllPairs same ps once))

pub differ_permuted : {X : Type 0} (rank : X → ℕ) (xs ys : List X) → IsPermutation xs ys → Pairs (λ a b. rank a ≢ rank b) xs → Pairs (λ a b. rank a ≢ rank b) ys
differ_permuted rank xs ys permuted differ =
    map_pairs rank (λ p q. p ≢ q) ys (pairs_from (λ p q. p ≢ q) (map rank ys) (once_permuted (map rank xs) (map rank ys) (IsPermutation-map rank xs ys permuted) (pairs_to (λ p q. p ≢ q) (map rank xs) (pairs_map rank (λ p q. p ≢ q) xs differ))))

-- an order's positions in another order are one too
pub order_permuted : (history : List Call) (ps qs : List ℕ) → IsPermutation ps qs → IsOrder history ps → IsOrder history qs
order_permuted history ps qs permuted order = record {
  positions = All-permutation (λ p. p < length history) ps qs permuted order.positions;
  each = λ p less. Contains-permutation ps qs p permuted (order.each p less);
  once = once_permuted ps qs permuted order.once;
}

pub member_permuted : {X : Type 0} (xs ys : List X) (x : X) → IsPermutation xs ys → Member x xs → Member x ys
member_permuted xs ys x permuted m = member_contained ys x (Contains-permutation xs ys x permuted (contained_member xs x m))

module _ {X : Type 0} (position point : X → ℕ) (history : List Call) (line sorted : List X) (order : IsOrder history (map position sorted)) (within : All (λ x. HappensAt history (position x) (point x)) sorted) (lawful : IsLawful (map deed_of (in_order history (map position line)))) (keeps : (key : List ℕ) → filter (λ x. is_at history key (position x)) sorted ≡ filter (λ x. is_at history key (position x)) line) (rises : Pairs (λ a b. point a ≤ point b) sorted) where
  -- the point of a call
  spot_of : (p : ℕ) (call : Call) → Member p (map position sorted) → slice_get history p ≡ Some call → (x : X) × Member x sorted × (p ≡ position x) × (call.start ≤ point x) × (point x ≤ call.end)
  spot_of p call m at =
      let x = member_map position sorted p m in
      let spot = some_and (slice_get history (position x.0)) (λ (c : Call). (c.start ≤ point x.0) × (point x.0 ≤ c.end)) (all_member (λ y. HappensAt history (position y) (point y)) sorted x.0 within x.1) in
      let both : Some call ≡ Some spot.0 = sym at ∙ ap (slice_get history) x.2 ∙ spot.1 in
      let same : spot.0 ≡ call = cc in
      (x.0, x.1, x.2, subst (λ (c : Call). c.start ≤ point x.0) same spot.2.0, subst (λ (c : Call). point x.0 ≤ c.end) same spot.2.1)

  intervals : All (λ call. call.start ≤ call.end) history
  intervals = λ k d less.
      let at = slice_get-get_or history k d less in
      let spot = spot_of k (get_or history k d) (member_contained (map position sorted) k (order.each k less)) at in
      let one = spot.3 in
      let other = spot.4 in
      omega (arith, one, other)

  in_time : (a b : X) → Member a sorted → Member b sorted → point a ≤ point b → (c e : Call) → slice_get history (position a) ≡ Some c → slice_get history (position b) ≡ Some e → ¬ Precedes e c
  in_time a b l m up c e at_a at_b precedes =
      let first = some_and (slice_get history (position a)) (λ (c : Call). (c.start ≤ point a) × (point a ≤ c.end)) (all_member (λ y. HappensAt history (position y) (point y)) sorted a within l) in
      let last = some_and (slice_get history (position b)) (λ (c : Call). (c.start ≤ point b) × (point b ≤ c.end)) (all_member (λ y. HappensAt history (position y) (point y)) sorted b within m) in
      let one : first.0 ≡ c = (let both : Some first.0 ≡ Some c = sym first.1 ∙ at_a in cc) in
      let other : last.0 ≡ e = (let both : Some last.0 ≡ Some e = sym last.1 ∙ at_b in cc) in
      let from : c.start ≤ point a = subst (λ (c : Call). c.start ≤ point a) one first.2.0 in
      let till : point b ≤ e.end = subst (λ (c : Call). point b ≤ c.end) other last.2.1 in
      omega (arith, from, till, up, precedes)

  agrees : Agrees (in_order history (map position sorted))
  agrees =
      let timed = pairs_weaker (λ a b. point a ≤ point b) (λ a b. (c e : Call) → slice_get history (position a) ≡ Some c → slice_get history (position b) ≡ Some e → ¬ Precedes e c) sorted in_time rises in
      let mapped : Pairs (λ p q. (c e : Call) → slice_get history p ≡ Some c → slice_get history q ≡ Some e → ¬ Precedes e c) (map position sorted) = pairs_map position (λ p q. (c e : Call) → slice_get history p ≡ Some c → slice_get history q ≡ Some e → ¬ Precedes e c) sorted timed in
      pairs_to (λ c e. ¬ Precedes e c) (in_order history (map position sorted)) (pairs_picked (slice_get history) (λ p q. (c e : Call) → slice_get history p ≡ Some c → slice_get history q ≡ Some e → ¬ Precedes e c) (λ c e. ¬ Precedes e c) (map position sorted) (λ p q c e at_p at_q apart. apart c e at_p at_q) mapped)

  same_deeds : (key : List ℕ) → filter (is_of key) (map deed_of (in_order history (map position line))) ≡ filter (is_of key) (map deed_of (in_order history (map position sorted)))
  same_deeds key = deeds_of_key position history key line ∙ ap (λ xs. map deed_of (in_order history (map position xs))) (sym (keeps key)) ∙ sym (deeds_of_key position history key sorted)

  pub merged : IsAccepted history (map position sorted)
  merged = record {
    intervals = intervals;
    spelled = order;
    agrees = agrees;
    lawful = all_keys (map deed_of (in_order history (map position sorted))) (λ key. subst IsLawful (same_deeds key) (each_key (map deed_of (in_order history (map position line))) lawful key));
  }

-- calls in a line, sorted by ranks that rise with points, and along each key's calls in the line
module _ {X : Type 0} (position point rank : X → ℕ) (history : List Call) (line sorted : List X) (rank_rises : (a b : X) → rank a ≤ rank b → point a ≤ point b) (order : IsOrder history (map position line)) (within : All (λ x. HappensAt history (position x) (point x)) line) (lawful : IsLawful (map deed_of (in_order history (map position line)))) (turns : AllPairs (λ a b. AreOfOne history (position a) (position b) → rank a < rank b) line) (differ : AllPairs (λ a b. rank a ≢ rank b) line) (permuted : IsPermutation line sorted) (ascends : IsNonDecreasingBy rank sorted) where
  up : Pairs (λ a b. rank a ≤ rank b) sorted
  up = pairs_from (λ a b. rank a ≤ rank b) sorted (λ i j d less inside. ascends i j d (omega arith) inside)

  climbs : Pairs (λ a b. rank a < rank b) sorted
  climbs =
      pairs_weaker (λ a b. (rank a ≤ rank b) × (rank a ≢ rank b)) (λ a b. rank a < rank b) sorted (λ a b l m both. let le = both.0 in let ne = both.1 in omega (arith, le, ne))
      (pairs_both (λ a b. rank a ≤ rank b) (λ a b. rank a ≢ rank b) sorted up (differ_permuted rank line sorted permuted (pairs_from (λ a b. rank a ≢ rank b) line differ)))

  in_line : (key : List ℕ) → Pairs (λ a b. rank a < rank b) (filter (λ x. is_at history key (position x)) line)
  in_line key =
      let test : X → Bool = λ (x : X). is_at history key (position x) in
      pairs_weaker (λ a b. AreOfOne history (position a) (position b) → rank a < rank b) (λ a b. rank a < rank b) (filter test line)
      (λ a b l m turn. turn (record { key = key; first = (member_filter test line a l).1; second = (member_filter test line b m).1 }))
      (pairs_filter test (λ a b. AreOfOne history (position a) (position b) → rank a < rank b) line (pairs_from (λ a b. AreOfOne history (position a) (position b) → rank a < rank b) line turns))

  keeps : (key : List ℕ) → filter (λ x. is_at history key (position x)) sorted ≡ filter (λ x. is_at history key (position x)) line
  keeps key =
      let test : X → Bool = λ (x : X). is_at history key (position x) in
      same_in_order (λ a b. rank a < rank b) (λ a b less more. omega (arith, less, more)) (filter test sorted) (filter test line)
      (pairs_filter test (λ a b. rank a < rank b) sorted climbs) (in_line key)
      (λ x m. let found = member_filter test sorted x m in filter_member test line x (member_permuted sorted line x (IsPermutation-sym line sorted permuted) found.0) found.1)
      (λ x m. let found = member_filter test line x m in filter_member test sorted x (member_permuted line sorted x permuted found.0) found.1)

  pub sorted_accepted : IsAccepted history (map position sorted)
  sorted_accepted =
      merged position point history line sorted
      (order_permuted history (map position line) (map position sorted) (IsPermutation-map position line sorted permuted) order)
      (All-permutation (λ x. HappensAt history (position x) (point x)) line sorted permuted within)
      lawful keeps (pairs_weaker (λ a b. rank a ≤ rank b) (λ a b. point a ≤ point b) sorted (λ a b l m. rank_rises a b) up)
