-- Lists that the library's lemmas leave out: the place that a search gave, and pieces that are joined.
use Rattle.std.proofs.Common.{◌≡◌, ◌≢◌, ◌==◌, ℕ, ◌<◌, ◌≤◌, ◌-◌, not, take, drop, nat_le, Bool, true, false, List, [], ◌∷◌, ◌++◌, ◌+◌, zero, suc, get_or, length, map, Some, None, refl, sym, ap, ◌∙◌, arith, inl, inr}
use Rattle.std.specs.List.{position, position_or_len, concat}
use Rattle.std.proofs.lemmas.Bool.{cases_Bool, lt-ltb, le-ltb}
use Rattle.std.proofs.lemmas.Bool.Decides.{nat_tests}
use Rattle.std.proofs.lemmas.Grind.{common_steps}
use Rattle.std.proofs.lemmas.List.{length-append, map-append, take_more, length-map, get_or-map}
use Rattle.std.proofs.lemmas.List.Folds.{concat-append}
use Rattle.std.proofs.lemmas.List.Sums.{position_or_len_is}

front_map : {X Y : Type 0} (p : X → Bool) (h : Y → X) (ys : List Y) → position_or_len p (map h ys) ≡ position_or_len (λ y. p (h y)) ys
front_map p h [] = refl
front_map p h (y ∷ ys) = elim (cases_Bool (p (h y))) [
  | inl found ↦ rw found refl
  | inr other ↦ rw other (ap (λ n. 1 + n) (front_map p h ys))
]

pub position-map : {X Y : Type 0} (p : X → Bool) (h : Y → X) (ys : List Y) → position p (map h ys) ≡ position (λ y. p (h y)) ys
position-map p h ys = rw (front_map p h ys, length-map ys h) refl

pub rest_dropped : (xs : List ℕ) (n : ℕ) → take (length xs - n) (drop n xs) ≡ drop n xs
rest_dropped xs n = grind (arith, common_steps)

-- what is left from a place on
pub dropped_at : (xs : List ℕ) (place n : ℕ) → n ≡ place → take (length xs - n) (drop n xs) ≡ drop place xs
dropped_at xs place n is = rest_dropped xs n ∙ ap (λ k. drop k xs) is

-- the place that a loop found is the first one that passes
pub place_found : {A : Type 0} (p : A → Bool) (xs : List A) (d : A) (i : ℕ) → i < length xs → ((k : ℕ) → k < i → p (get_or xs k d) ≡ false) → p (get_or xs i d) ≡ true → Some i ≡ position p xs
place_found p xs d i less before here =
    let is = position_or_len_is p xs i d (omega (arith, less)) before (λ _. here) in
    rw (is, lt-ltb i (length xs) less) refl

-- none passes
pub no_place : {A : Type 0} (p : A → Bool) (xs : List A) (d : A) (i : ℕ) → length xs ≤ i → i ≤ length xs → ((k : ℕ) → k < i → p (get_or xs k d) ≡ false) → None ≡ position p xs
no_place p xs d i end within before =
    let is = position_or_len_is p xs i d within before (λ less. absurd (omega (arith, less, end))) in
    rw (is, le-ltb i (length xs) end) refl

-- the same, of the number of those before it
pub place_is : (p : ℕ → Bool) (xs : List ℕ) (i : ℕ) → i < length xs → ((k : ℕ) → k < i → p (get_or xs k 0) ≡ false) → p (get_or xs i 0) ≡ true → i ≡ position_or_len p xs
place_is p xs i less before here = sym (position_or_len_is p xs i 0 (omega (arith, less)) before (λ _. here))

pub length_is : (p : ℕ → Bool) (xs : List ℕ) (i : ℕ) → length xs ≤ i → i ≤ length xs → ((k : ℕ) → k < i → p (get_or xs k 0) ≡ false) → length xs ≡ position_or_len p xs
length_is p xs i end within before =
    let is = position_or_len_is p xs i 0 within before (λ less. absurd (omega (arith, less, end))) in
    omega (arith, is, end, within)

pub same_byte : (b n : ℕ) → b ≡ n → (b == n) ≡ true
same_byte b n is = grind (arith, nat_tests)

pub other_byte : (b n : ℕ) → b ≢ n → not (b == n) ≡ true
other_byte b n is = grind (arith, nat_tests)

pub few_taken : {A : Type 0} (n : ℕ) (xs : List A) → length (take n xs) ≤ n
few_taken n xs = grind (arith, common_steps)

-- one piece more is appended
pub piece_more : {A : Type 0} (h : A → List ℕ) (xs : List A) (i : ℕ) (d : A) (start now new piece : List ℕ) → i < length xs → now ≡ start ++ concat (map h (take i xs)) → new ≡ now ++ piece → piece ≡ h (get_or xs i d) → new ≡ start ++ concat (map h (take (i + 1) xs))
piece_more h xs i d start now new piece less so_far more is =
    let taken = take_more xs i d less in
    let mapped = map-append h (take i xs) (get_or xs i d ∷ []) in
    let joined = concat-append (map h (take i xs)) (h (get_or xs i d) ∷ []) in
    let whole : concat (map h (take (i + 1) xs)) ≡ concat (map h (take i xs)) ++ (h (get_or xs i d) ++ []) = ap (λ ys. concat (map h ys)) taken ∙ ap concat mapped ∙ joined in
    rw whole (grind (arith, common_steps))

-- the same, if the pieces are texts of other lists
pub text_more : {A : Type 0} (text : List ℕ → List ℕ) (h : A → List ℕ) (xs : List A) (i : ℕ) (d : A) (start now new piece : List ℕ) → i < length xs → now ≡ start ++ concat (map text (take i (map h xs))) → new ≡ now ++ piece → piece ≡ text (h (get_or xs i d)) → new ≡ start ++ concat (map text (take (i + 1) (map h xs)))
text_more text h xs i d start now new piece less so_far more is =
    let same = length-map xs h in
    let at = get_or-map h xs i d [] less in
    piece_more text (map h xs) i [] start now new piece (omega (arith, same, less)) so_far more (is ∙ ap text (sym at))

fits_or_over : (n most : ℕ) → nat_le n most ≡ true → n ≤ most
fits_or_over n most fits = grind (arith, nat_tests)

-- what does not fit is longer
pub not_fitting : (n most : ℕ) → (n ≤ most → false ≡ true) → most < n
not_fitting n most none = elim (cases_Bool (nat_le n most)) [
  | inl fits ↦ let never = none (fits_or_over n most fits) in absurd (grind arith)
  | inr over ↦ grind (arith, nat_tests)
]

-- the texts of the first things of a list are not longer than those of all
pub front_within : {A : Type 0} (h : A → List ℕ) (xs : List A) (n : ℕ) → length (concat (map h (take n xs))) ≤ length (concat (map h xs))
front_within h xs zero = omega arith
front_within h [] (suc n) = omega arith
front_within h (x ∷ xs) (suc n) =
    let rest = front_within h xs n in
    let front = length-append (h x) (concat (map h (take n xs))) in
    let whole = length-append (h x) (concat (map h xs)) in
    omega (arith, rest, front, whole)

-- where a piece does not fit after those before it, all pieces do not
pub piece_over : {A : Type 0} (most : ℕ) (h : A → List ℕ) (xs : List A) (i : ℕ) (d : A) (start now piece : List ℕ) → i < length xs → now ≡ start ++ concat (map h (take i xs)) → piece ≡ h (get_or xs i d) → most < length now + length piece → most < length start + length (concat (map h xs))
piece_over most h xs i d start now piece less so_far is over =
    let more = ap length (piece_more h xs i d start now (now ++ piece) piece less so_far refl is) in
    let front = front_within h xs (i + 1) in
    let joined = length-append now piece in
    let whole = length-append start (concat (map h (take (i + 1) xs))) in
    omega (arith, more, front, joined, whole, over)

-- the same, if the pieces are texts of other lists
pub text_over : {A : Type 0} (most : ℕ) (text : List ℕ → List ℕ) (h : A → List ℕ) (xs : List A) (i : ℕ) (d : A) (start now piece : List ℕ) → i < length xs → now ≡ start ++ concat (map text (take i (map h xs))) → piece ≡ text (h (get_or xs i d)) → most < length now + length piece → most < length start + length (concat (map text (map h xs)))
text_over most text h xs i d start now piece less so_far is over =
    let same = length-map xs h in
    let at = get_or-map h xs i d [] less in
    piece_over most text (map h xs) i [] start now piece (omega (arith, same, less)) so_far (is ∙ ap text (sym at)) over
