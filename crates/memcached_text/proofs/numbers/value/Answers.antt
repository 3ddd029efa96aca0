-- Each digit is from 48 to 57, and what was too large before it is so after it.
use Rattle.std.proofs.Common.{◌≡◌, ◌<◌, ◌≤◌, ◌^◌, ◌*◌, ◌+◌, ℕ, List, get_or, length, arith, true, false, ◌&&◌, nat_le, nat_lt, inl, inr, refl, sym, ap, ◌∙◌}
use Rattle.std.proofs.lemmas.Bool.{cases_Bool}
use Rattle.std.proofs.lemmas.Bool.Decides.{nat_tests}
use Rattle.std.proofs.lemmas.List.Sums.{AllPass-from_list_all}
use Rattle.memcached_text.specs.Numbers.{are_digits, capped}
use Rattle.memcached_text.proofs.numbers.value.Goals as goal

in_range : (d : ℕ) → (nat_le 48 d && nat_le d 57) ≡ true → (48 ≤ d) × (d ≤ 57)
in_range d h = (grind (arith, nat_tests), grind (arith, nat_tests))

digit_at : (digits : List ℕ) (i : ℕ) → are_digits digits ≡ true → i < length digits → (48 ≤ get_or digits i 0) × (get_or digits i 0 ≤ 57)
digit_at digits i h less =
    in_range (get_or digits i 0) (AllPass-from_list_all (λ b. nat_le 48 b && nat_le b 57) digits h i 0 less)

under : (n : ℕ) → n < 2 ^ 64 → capped n ≡ n
under n less = let is : nat_lt n (2 ^ 64) ≡ true = grind (arith, nat_tests) in rw is refl

over : (n : ℕ) → 2 ^ 64 ≤ n → capped n ≡ 2 ^ 64
over n more = let is : nat_lt n (2 ^ 64) ≡ false = grind (arith, nat_tests) in rw is refl

at_most : (n : ℕ) → capped n ≤ 2 ^ 64
at_most n = elim (cases_Bool (nat_lt n (2 ^ 64))) [
  | inl less ↦ let small : n < 2 ^ 64 = grind (arith, nat_tests) in rw (under n small) (omega (arith, small))
  | inr more ↦ let large : 2 ^ 64 ≤ n = grind (arith, nat_tests) in rw (over n large) (omega arith)
]

-- one digit more
one_more : (n d : ℕ) → capped (10 * capped n + d) ≡ capped (10 * n + d)
one_more n d = elim (cases_Bool (nat_lt n (2 ^ 64))) [
  | inl less ↦ let small : n < 2 ^ 64 = grind (arith, nat_tests) in ap (λ k. capped (10 * k + d)) (under n small)
  | inr more ↦
      let large : 2 ^ 64 ≤ n = grind (arith, nat_tests) in
      ap (λ k. capped (10 * k + d)) (over n large) ∙ over (10 * 2 ^ 64 + d) (omega arith) ∙ sym (over (10 * n + d) (omega (arith, large)))
]

pub overflow_sub-digit : goal.overflow_sub-digit
overflow_sub-digit c =
    (digit_at c.args.digits.now c.loop-digit.digit-index c.requires c.loop-digit-test.true).0
