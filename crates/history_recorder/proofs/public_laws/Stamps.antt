-- Where the calls of lanes stand, one lane after the other.
use Rattle.std.proofs.Common.{◌≡◌, ◌≢◌, ℕ, ◌+◌, ◌-◌, ◌<◌, ◌≤◌, zero, suc, Some, List, [], ◌∷◌, ◌++◌, length, take, set, refl, sym, ap, ◌∙◌, arith, inl, inr, ◌⊎◌, length-append}
use Rattle.std.specs.Prelude.{slice_get, option_map, map}
use Rattle.std.specs.List.{flat_map}
use Rattle.std.proofs.lemmas.Bool.{cases_lt}
use Rattle.std.proofs.lemmas.List.{length-map}
use Rattle.std.proofs.lemmas.Option.{slice_get-map}
use Rattle.certificate_checker.specs.declared.done.Done.{Done}
use Rattle.certificate_checker.specs.Lanes.{calls_of, stamp, stamped_from, stamped}
use Rattle.certificate_checker.proofs.public_laws.Laying.{call_in}
use Rattle.certificate_checker.proofs.public_laws.LaneLemmas.{calls_stamped}
use Rattle.history_recorder.specs.Merging.{first_of}

-- ---- look-ups

pub found_left : {X : Type 0} (xs ys : List X) (k : ℕ) (x : X) → slice_get xs k ≡ Some x → slice_get (xs ++ ys) k ≡ Some x
found_left [] ys k x is = cc
found_left (y ∷ xs) ys zero x is = is
found_left (y ∷ xs) ys (suc k) x is = found_left xs ys k x is

pub found_right : {X : Type 0} (xs ys : List X) (p k : ℕ) → p ≡ length xs + k → slice_get (xs ++ ys) p ≡ slice_get ys k
found_right [] ys p k e = ap (slice_get ys) (let q : p ≡ k = omega (arith, e) in q)
found_right (x ∷ xs) ys zero k e = absurd (omega (arith, e))
found_right (x ∷ xs) ys (suc p) k e = found_right xs ys p k (omega (arith, e))

-- what is found in a list with one more is found in it, or is the one
pub found_before : {X : Type 0} (xs : List X) (x y : X) (k : ℕ) → slice_get (xs ++ x ∷ []) k ≡ Some y → (slice_get xs k ≡ Some y) ⊎ ((k ≡ length xs) × (x ≡ y))
found_before [] x y zero is = inr (refl, let same : x ≡ y = cc in same)
found_before [] x y (suc k) is = absurd (cc)
found_before (z ∷ xs) x y zero is = inl is
found_before (z ∷ xs) x y (suc k) is = elim (found_before xs x y k is) [ inl in_xs ↦ inl in_xs | inr last ↦ inr (let e = last.0 in omega (arith, e), last.1) ]

pub set_here : {X : Type 0} (xs : List X) (i : ℕ) (x y : X) → slice_get xs i ≡ Some y → slice_get (set xs i x) i ≡ Some x
set_here [] i x y is = cc
set_here (z ∷ xs) zero x y is = refl
set_here (z ∷ xs) (suc i) x y is = set_here xs i x y is

pub set_there : {X : Type 0} (xs : List X) (i j : ℕ) (x : X) → j ≢ i → slice_get (set xs i x) j ≡ slice_get xs j
set_there [] i j x ne = refl
set_there (z ∷ xs) zero zero x ne = absurd (ne refl)
set_there (z ∷ xs) zero (suc j) x ne = refl
set_there (z ∷ xs) (suc i) zero x ne = refl
set_there (z ∷ xs) (suc i) (suc j) x ne = set_there xs i j x (λ e. ne (ap suc e))

-- ---- the first positions of lanes

pub first_none : (lanes : List (List Done)) → first_of lanes 0 ≡ 0
first_none [] = refl
first_none (lane ∷ lanes) = refl

pub first_more : (lane : List Done) (lanes : List (List Done)) (i : ℕ) → first_of (lane ∷ lanes) (suc i) ≡ length lane + first_of lanes i
first_more lane lanes i =
    length-append (calls_of lane) (flat_map calls_of (take i lanes)) ∙ ap (λ n. n + first_of lanes i) (length-map lane (λ d. d.call))

pub calls_more : (lane : List Done) (lanes : List (List Done)) → length (flat_map calls_of (lane ∷ lanes)) ≡ length lane + length (flat_map calls_of lanes)
calls_more lane lanes =
    length-append (calls_of lane) (flat_map calls_of lanes) ∙ ap (λ n. n + length (flat_map calls_of lanes)) (length-map lane (λ d. d.call))

-- a lane begins where the one before it ends
pub first_after : (lanes : List (List Done)) (i : ℕ) (lane : List Done) → slice_get lanes i ≡ Some lane → first_of lanes (suc i) ≡ first_of lanes i + length lane
first_after [] i lane is = cc
first_after (one ∷ lanes) zero lane is =
    let same : one ≡ lane = cc in
    let more = first_more one lanes 0 in
    let none = first_none lanes in
    let len = ap length same in
    omega (arith, more, none, len)
first_after (one ∷ lanes) (suc i) lane is =
    let more = first_more one lanes (suc i) in
    let own = first_more one lanes i in
    let rest = first_after lanes i lane is in
    omega (arith, more, own, rest)

pub first_within : (lanes : List (List Done)) (i : ℕ) → first_of lanes i ≤ length (flat_map calls_of lanes)
first_within [] zero = omega arith
first_within [] (suc i) = omega arith
first_within (one ∷ lanes) zero = omega arith
first_within (one ∷ lanes) (suc i) =
    let more = first_more one lanes i in
    let all = calls_more one lanes in
    let rest = first_within lanes i in
    omega (arith, more, all, rest)

-- ---- the stamped calls

pub as_many : (number : ℕ) (lanes : List (List Done)) → length (stamped_from number lanes) ≡ length (flat_map calls_of lanes)
as_many number lanes =
    sym (length-map (stamped_from number lanes) call_in) ∙ ap length (calls_stamped number lanes)

-- the stamped call at the position of a call of a lane
mark_from : (number : ℕ) (lanes : List (List Done)) (i k p : ℕ) (lane : List Done) (d : Done) → slice_get lanes i ≡ Some lane → slice_get lane k ≡ Some d → p ≡ first_of lanes i + k → slice_get (stamped_from number lanes) p ≡ Some (stamp (number + i) d)
mark_from number [] i k p lane d found is at = cc
mark_from number (one ∷ lanes) zero k p lane d found is at =
    let same : one ≡ lane = cc in
    let here : slice_get one k ≡ Some d = ap (λ l. slice_get l k) same ∙ is in
    let mark : slice_get (map (stamp number) one) k ≡ Some (stamp number d) = slice_get-map (stamp number) one k ∙ ap (option_map (stamp number)) here in
    let left = found_left (map (stamp number) one) (stamped_from (suc number) lanes) k (stamp number d) mark in
    let place : p ≡ k = omega (arith, at) in
    let plain : number ≡ number + 0 = omega arith in
    ap (slice_get (stamped_from number (one ∷ lanes))) place ∙ left ∙ ap (λ n. Some (stamp n d)) plain
mark_from number (one ∷ lanes) (suc i) k p lane d found is at =
    let more = first_more one lanes i in
    let own = length-map one (stamp number) in
    let right = found_right (map (stamp number) one) (stamped_from (suc number) lanes) p (first_of lanes i + k) (omega (arith, at, more, own)) in
    let rest = mark_from (suc number) lanes i k (first_of lanes i + k) lane d found is refl in
    let plain : suc number + i ≡ number + suc i = omega arith in
    right ∙ rest ∙ ap (λ n. Some (stamp n d)) plain

pub mark_of : (lanes : List (List Done)) (i k p : ℕ) (lane : List Done) (d : Done) → slice_get lanes i ≡ Some lane → slice_get lane k ≡ Some d → p ≡ first_of lanes i + k → slice_get (stamped lanes) p ≡ Some (stamp i d)
mark_of lanes i k p lane d found is at =
    let plain : 0 + i ≡ i = omega arith in
    mark_from 0 lanes i k p lane d found is at ∙ ap (λ n. Some (stamp n d)) plain

-- a position is one of a lane's
pub record Place (lanes : List (List Done)) (p : ℕ) : Type 0 where
  pub number : ℕ
  pub lane : List Done
  pub found : slice_get lanes number ≡ Some lane
  pub place : ℕ
  pub within : place < length lane
  pub is : p ≡ first_of lanes number + place

pub place_of : (lanes : List (List Done)) (p : ℕ) → p < length (flat_map calls_of lanes) → Place lanes p
place_of [] p less = absurd (omega (arith, less))
place_of (one ∷ lanes) p less = elim (cases_lt p (length one)) [
  | inl here ↦ record { number = 0; lane = one; found = refl; place = p; within = here; is = omega arith }
  | inr past ↦
      let all = calls_more one lanes in
      let rest = place_of lanes (p - length one) (omega (arith, less, all, past)) in
      record {
        number = suc rest.number;
        lane = rest.lane;
        found = rest.found;
        place = rest.place;
        within = rest.within;
        is = let more = first_more one lanes rest.number in let at = rest.is in omega (arith, past, more, at);
      }
]
