-- Numbers in decimal digits.
use Rattle.std.specs.Prelude.{ℕ, ◌+◌, ◌*◌, ◌-◌, List, Bool, ◌&&◌, fold, nat_le}
use Rattle.std.specs.List.{list_all}

-- decimal digits and nothing else
abbrev pub are_digits : List ℕ → Bool
are_digits bytes = list_all (λ b. nat_le 48 b && nat_le b 57) bytes

-- the number that digits write, the first of them worth most; leading zeros count for nothing, and no digits write 0
abbrev pub digits_value : List ℕ → ℕ
digits_value digits = fold (λ n digit. 10 * n + (digit - 48)) 0 digits
