-- Each digit is from 48 to 57, and adds one power of ten.
use Rattle.std.proofs.Common.{◌≡◌, ◌<◌, ◌≤◌, ◌^◌, ◌*◌, ◌+◌, ℕ, List, get_or, length, arith, true, ◌&&◌, nat_le}
use Rattle.std.proofs.lemmas.Grind.{common_steps, pow_more}
use Rattle.std.proofs.lemmas.Bool.Decides.{nat_tests}
use Rattle.std.proofs.lemmas.List.Sums.{AllPass-from_list_all}
use Rattle.record_pages.specs.Digits.{are_digits}
use Rattle.record_pages.proofs.digits.digits_value.Goals as goal

in_range : (d : ℕ) → (nat_le 48 d && nat_le d 57) ≡ true → (48 ≤ d) × (d ≤ 57)
in_range d h = (grind (arith, nat_tests), grind (arith, nat_tests))

digit_at : (digits : List ℕ) (i : ℕ) → are_digits digits ≡ true → i < length digits → (48 ≤ get_or digits i 0) × (get_or digits i 0 ≤ 57)
digit_at digits i h less =
    in_range (get_or digits i 0) (AllPass-from_list_all (λ b. nat_le 48 b && nat_le b 57) digits h i 0 less)

one_more : (n i d : ℕ) → n < 10 ^ i → d < 10 → 10 * n + d < 10 ^ (i + 1)
one_more n i d small digit = omega (arith, pow_more 10 i)

pub overflow_sub-digit : goal.overflow_sub-digit
overflow_sub-digit c =
    (digit_at c.args.digits.now c.loop-digit.digit-index c.requires.digits c.loop-digit-test.true).0

pub loop-digit-preserved : goal.loop-digit-preserved
loop-digit-preserved c =
    let digit = digit_at c.args.digits.now c.loop-digit.digit-index c.requires.digits c.loop-digit-test.true in
    (grind (arith, common_steps), one_more c.loop-digit.value c.loop-digit.digit-index c.from.result c.loop-digit.invariant.1 (omega (arith, digit.0, digit.1)))
