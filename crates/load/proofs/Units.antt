-- The unit at the end of a text, and the bytes that a number of units is.
use Rattle.std.proofs.Common.{◌≡◌, ◌≢◌, ◌∙◌, ◌<◌, ◌≤◌, ◌+◌, ◌-◌, ◌*◌, ◌^◌, ◌++◌, ℕ, Bool, true, false, ◌&&◌, ◌==◌, List, [], ◌∷◌, Option, Some, None, ap, arith, get_or, inl, inr, length, nat_le, option_map, refl, subst, sym, take, if◌then◌else◌}
use Rattle.std.proofs.lemmas.Bool.{cases_Bool}
use Rattle.std.proofs.lemmas.List.{take_all, take_more}
use Rattle.std.specs.Str.Parse.{IsNumeral, digits_value, without_leading_plus}
use Rattle.std.proofs.Math.Nat.{le-mul_of_pos_right}
use borrow.Author.Tests.{eqb-true, le-leb, leb-true, lt-leb}
use Rattle.load.specs.Settings.{bytes_in, is_decimal, most_bytes, unit_in, value_of_text, without_unit}
use Rattle.load.proofs.Ranges.{read, out, unread}

-- a text that does not end in a letter has another last one
other_end : (c : ℕ) (text : List ℕ) → 0 < c → ((front : List ℕ) → text ≢ front ++ c ∷ []) → (get_or text (length text - 1) 0 == c) ≡ false
other_end c [] some never = elim (cases_Bool (0 == c)) [
  | inl is ↦ let same : 0 ≡ c = eqb-true _ _ is in absurd (omega (arith, same, some))
  | inr not ↦ not
]
other_end c (x ∷ xs) some never =
    let at = length (x ∷ xs) - 1 in
    let whole : x ∷ xs ≡ take at (x ∷ xs) ++ get_or (x ∷ xs) at 0 ∷ [] =
    sym (take_all (at + 1) (x ∷ xs) (omega arith)) ∙ take_more (x ∷ xs) at 0 (omega arith) in
    elim (cases_Bool (get_or (x ∷ xs) at 0 == c)) [
      | inl is ↦ absurd (never (take at (x ∷ xs)) (whole ∙ ap (λ last. take at (x ∷ xs) ++ last ∷ []) (eqb-true _ _ is)))
      | inr not ↦ not
    ]

-- a text that ends in no letter of a unit counts bytes
pub no_unit : (text : List ℕ) → ((front : List ℕ) → text ≢ front ++ 75 ∷ []) → ((front : List ℕ) → text ≢ front ++ 77 ∷ []) → ((front : List ℕ) → text ≢ front ++ 71 ∷ []) → unit_in text ≡ 1
no_unit text k m g =
    rw (other_end 75 text (omega arith) k, other_end 77 text (omega arith) m, other_end 71 text (omega arith) g) refl

pub no_cut : (text : List ℕ) → unit_in text ≡ 1 → text ≡ without_unit text
no_cut text e = rw e refl

-- each unit is a byte or more
by_letter : (k m g : Bool) → 1 ≤ (if k then 2 ^ 10 else (if m then 2 ^ 20 else (if g then 2 ^ 30 else 1)))
by_letter true m g = omega arith
by_letter false true g = omega arith
by_letter false false true = omega arith
by_letter false false false = omega arith

pub some_unit : (text : List ℕ) → 1 ≤ unit_in text
some_unit text = by_letter (get_or text (length text - 1) 0 == 75) (get_or text (length text - 1) 0 == 77) (get_or text (length text - 1) 0 == 71)

scaled : (test : Bool) (count unit : ℕ) → option_map (λ n. n * unit) (if test then Some count else None) ≡ (if test then Some (count * unit) else None)
scaled true count unit = refl
scaled false count unit = refl

module _ (text digits : List ℕ) (unit : ℕ) (cut : digits ≡ without_unit text) (is : unit ≡ unit_in text) where
  -- so many units are bytes that a size may be
  abbrev fits : ℕ → Bool
  fits count = nat_le (count * unit_in text) most_bytes

  abbrev Reads : ℕ → Type 0
  Reads n = (IsNumeral 10 (without_leading_plus digits) × (digits_value 10 (without_leading_plus digits) < 2 ^ 64)) × (n ≡ value_of_text digits)

  counts : (given : Option ℕ) → given ≡ (if is_decimal (without_unit text) && fits (value_of_text (without_unit text)) then Some (value_of_text (without_unit text)) else None) → option_map (λ n. n * unit_in text) given ≡ bytes_in text
  counts given e = ap (option_map (λ n. n * unit_in text)) e ∙ scaled (is_decimal (without_unit text) && fits (value_of_text (without_unit text))) _ _

  small : (n : ℕ) → fits n ≡ true → n < 2 ^ 64
  small n e =
      let some : 0 < unit_in text = omega (arith, some_unit text) in
      let more : n ≤ n * unit_in text = le-mul_of_pos_right n some in
      let few : n * unit_in text ≤ most_bytes = leb-true _ _ e in
      omega (arith, more, few)

  -- digits that are no number give no bytes
  pub no_number : ¬ (IsNumeral 10 (without_leading_plus digits) × (digits_value 10 (without_leading_plus digits) < 2 ^ 64)) → None ≡ bytes_in text
  no_number h = counts None (unread fits (2 ^ 64) (without_unit text) small (subst (λ ds. ¬ (IsNumeral 10 (without_leading_plus ds) × (digits_value 10 (without_leading_plus ds) < 2 ^ 64))) cut h))

  -- nor does a number of units that are too many
  pub too_many : (n : ℕ) → Reads n → most_bytes < n * unit → None ≡ bytes_in text
  too_many n h many =
      let over : most_bytes < n * unit_in text = subst (λ u. most_bytes < n * u) is many in
      counts None (out fits (2 ^ 64) (without_unit text) n (subst (λ ds. (IsNumeral 10 (without_leading_plus ds) × (digits_value 10 (without_leading_plus ds) < 2 ^ 64)) × (n ≡ value_of_text ds)) cut h) (lt-leb _ _ over))

  -- one that are not gives them
  pub enough : (n bytes : ℕ) → Reads n → bytes ≡ n * unit → bytes ≤ most_bytes → Some bytes ≡ bytes_in text
  enough n bytes h made few =
      let all : bytes ≡ n * unit_in text = made ∙ ap (λ u. n * u) is in
      let fit : n * unit_in text ≤ most_bytes = subst (λ m. m ≤ most_bytes) all few in
      ap Some all ∙ counts (Some n) (read fits (2 ^ 64) (without_unit text) n (subst (λ ds. (IsNumeral 10 (without_leading_plus ds) × (digits_value 10 (without_leading_plus ds) < 2 ^ 64)) × (n ≡ value_of_text ds)) cut h) (le-leb _ _ fit))
