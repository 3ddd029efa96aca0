-- The numbers of a line.
use Rattle.std.specs.Prelude.{ℕ, ◌+◌, ◌-◌, ◌*◌, ◌%◌, ◌^◌, Bool, ◌&&◌, not, List, length, fold, nat_lt, nat_le, ◌==◌, if◌then◌else◌, Option, Some, None, option_and_then, option_map, slice_index_or, drop}
use Rattle.std.specs.List.{list_all}
use Rattle.memcached_text.specs.declared.exptime.Exptime.{Exptime}
use Rattle.memcached_text.specs.declared.exptime.Exptime.TheVariants.{Never, At, Past}

-- decimal digits and nothing else
abbrev pub are_digits : List ℕ → Bool
are_digits bytes = list_all (λ b. nat_le 48 b && nat_le b 57) bytes

-- what digits write
abbrev pub value_of : List ℕ → ℕ
value_of digits = fold (λ n digit. 10 * n + (digit - 48)) 0 digits

-- a number, or the first one that has no room in 64 bits if it is greater
abbrev pub capped : ℕ → ℕ
capped n = if nat_lt n (2 ^ 64) then n else 2 ^ 64

-- the number below a bound that one digit or more write
abbrev pub digits_below : ℕ → List ℕ → Option ℕ
digits_below bound digits =
    if not (length digits == 0) && (are_digits digits && nat_lt (value_of digits) bound) then Some (value_of digits) else None

-- what is left after the plus sign that a word may begin with
abbrev pub after_plus : List ℕ → List ℕ
after_plus word = if slice_index_or word 0 0 == 43 then drop 1 word else word

-- the number below a bound that a word writes, with or without a plus sign
abbrev pub number_below : ℕ → List ℕ → Option ℕ
number_below bound word = digits_below bound (after_plus word)

-- the length of a data block that a word writes, if it can be read
abbrev pub length_of : List ℕ → Option ℕ
length_of word = number_below (2 ^ 31) word

-- a number of 32 bits, as memcached takes it: the lower half of one of 64
unfoldable pub low_number : List ℕ → Option ℕ
low_number word = option_map (λ n. n % 2 ^ 32) (number_below (2 ^ 64) word)

-- the moment of 32 bits, of which the first is a sign: 0 is never, and a negative one has passed
abbrev pub moment_of : ℕ → Exptime
moment_of n = if n == 0 then Never else (if nat_lt n (2 ^ 31) then At n else Past)

-- the moment of the digits after a minus sign, which are at most 2 ^ 63: it has passed, and 0 is never
unfoldable pub past_of : List ℕ → Option Exptime
past_of digits = option_and_then (λ n. if n == 0 then Some Never else (if nat_le n (2 ^ 63) then Some Past else None)) (digits_below (2 ^ 64) digits)

-- the moment of a word without a minus sign, which is below 2 ^ 63: that of its lower 32 bits
unfoldable pub coming_of : List ℕ → Option Exptime
coming_of word = option_and_then (λ n. if nat_lt n (2 ^ 63) then Some (moment_of (n % 2 ^ 32)) else None) (number_below (2 ^ 64) word)

-- when a value expires, as a word says it: a number of 64 bits with a sign
abbrev pub exptime_of : List ℕ → Option Exptime
exptime_of word = if slice_index_or word 0 0 == 45 then past_of (drop 1 word) else coming_of word
