-- A numeral is the decimal text of its value.
use Rattle.std.proofs.Common.{◌≡◌, ◌≢◌, ◌<◌, ◌≤◌, ◌^◌, ◌*◌, ◌+◌, ◌-◌, ℕ, true, false, ◌&&◌, ◌||◌, not, List, length, [], ◌∷◌, get_or, fold, Some, None, IfSome, sym, refl, rules, arith, inl, inr, ◌⊎◌, nat_lt, ◌==◌}
use Rattle.std.specs.Fmt.{decimal}
use Rattle.std.specs.Cmp.{first_so, second_so}
use Rattle.std.proofs.lemmas.Bool.{cases_Bool}
use Rattle.std.proofs.lemmas.Bool.Decides.{nat_tests}
use Rattle.std.proofs.lemmas.Fmt.{decimal-digits_value}
use Rattle.std.proofs.lemmas.Grind.{pow_more}
use Rattle.std.proofs.lemmas.Str.Parse.{IsNumeralModel, digit_from_value, numerals_by_fold, digits_value_short}
use Rattle.std.proofs.Math.Nat.{pow-le-pow_right}
use native.Mathlib.Numerals.{unary_clauses}
use borrow.Author.Tests.{lt-ltb, ltb-true}
use Rattle.record_pages.specs.Digits.{are_digits, digits_value}
use Rattle.script_words.specs.Words.{is_numeral, number_below}

own : IsNumeralModel (λ ds. are_digits ds ≡ true) digits_value
own = numerals_by_fold _ (search rules) (λ n ds. fold (λ m digit. 10 * m + (digit - 48)) n ds) (search rules)

-- a word that is a numeral is of digits, and has one; it has one alone if that is 0
pub record Parts (word : List ℕ) : Type 0 where
  pub digits : are_digits word ≡ true
  pub some : 0 < length word
  pub alone : get_or word 0 0 ≡ 48 → length word ≡ 1

pub parts : (word : List ℕ) → is_numeral word ≡ true → Parts word
parts word h =
    let front = first_so _ (not (get_or word 0 0 == 48) || (length word == 1)) h in
    let head = second_so (are_digits word && not (length word == 0)) (not (get_or word 0 0 == 48) || (length word == 1)) h in
    let some = second_so (are_digits word) (not (length word == 0)) front in
    record { digits = first_so (are_digits word) (not (length word == 0)) front; some = grind (arith, nat_tests); alone = λ zero_first. grind (arith, nat_tests) }

pub canonical : (word : List ℕ) → is_numeral word ≡ true → digits_value word < 2 ^ 64 → decimal (digits_value word) ≡ word
canonical word h small =
    let is = parts word h in
    decimal-digits_value own word is.digits is.some is.alone small

-- each digit more is worth a power of ten
many : (k n : ℕ) (ds : List ℕ) → 10 ^ k ≤ n → 10 ^ (k + length ds) ≤ fold (λ m digit. 10 * m + (digit - 48)) n ds
many k n [] h = simp unary_clauses h
many k n (d ∷ ds) h =
    let more = many (k + 1) (10 * n + (d - 48)) ds (omega (arith, pow_more 10 k)) in
    let same : k + length (d ∷ ds) ≡ k + 1 + length ds = omega arith in
    rw same more

large : (word : List ℕ) → is_numeral word ≡ true → 20 < length word → 10 ^ 20 ≤ digits_value word
large [] h long = absurd (omega (arith, long))
large (d ∷ ds) h long =
    let is = parts (d ∷ ds) h in
    let digit = digit_from_value d (own.to (d ∷ ds) is.digits).0 in
    let first : d ≢ 48 = λ zero. absurd (omega (arith, is.alone zero, long)) in
    let worth : 10 ^ 0 ≤ 10 * 0 + (d - 48) = omega (arith, digit.0, first) in
    let more : 10 ^ (0 + length ds) ≤ digits_value (d ∷ ds) = many 0 (10 * 0 + (d - 48)) ds worth in
    let least : 10 ^ 20 ≤ 10 ^ (0 + length ds) = pow-le-pow_right {n = 10} (omega arith) {i = 20} {j = 0 + length ds} (omega (arith, long)) in
    omega (arith, more, least)

-- what is no numeral, or has more than twenty digits, is no number below 10 ^ 20
pub number_none : (word : List ℕ) → (is_numeral word ≡ false) ⊎ (20 < length word) → None ≡ number_below (10 ^ 20) word
number_none word (inl other) = rw other refl
number_none word (inr long) = elim (cases_Bool (is_numeral word)) [
  | inl numeral ↦
      elim (cases_Bool (nat_lt (digits_value word) (10 ^ 20))) [
        | inl small ↦ absurd (omega (arith, large word numeral long, ltb-true (digits_value word) (10 ^ 20) small))
        | inr large ↦ rw (numeral, large) refl
      ]
  | inr other ↦ rw other refl
]

-- and each other numeral is
pub number_some : (word : List ℕ) → is_numeral word ≡ true → length word ≤ 20 → Some (digits_value word) ≡ number_below (10 ^ 20) word
number_some word numeral short =
    rw (numeral, lt-ltb (digits_value word) (10 ^ 20) (digits_value_short own word 20 (parts word numeral).digits short)) refl

pub number_text : (bound : ℕ) (word : List ℕ) → bound ≤ 2 ^ 64 → IfSome (number_below bound word) (λ n. word ≡ decimal n)
number_text bound word wide = elim (cases_Bool (is_numeral word)) [
  | inl numeral ↦
      elim (cases_Bool (nat_lt (digits_value word) bound)) [
        | inl small ↦
            rw (numeral, small) (sym (canonical word numeral (omega (arith, wide, ltb-true (digits_value word) bound small))))
        | inr large ↦ rw (numeral, large) tt
      ]
  | inr other ↦ rw other tt
]
