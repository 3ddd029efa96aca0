-- The numbers that items hold, and what incr and decr make of them.
use Rattle.std.specs.Prelude.{ℕ, ◌+◌, ◌-◌, ◌*◌, ◌%◌, ◌^◌, Bool, ◌&&◌, not, List, ◌++◌, length, take, drop, replicate, fold, nat_lt, nat_le, ◌==◌, if◌then◌else◌, Option, Some, None, unwrap_or, position}
use Rattle.std.specs.List.{list_all}
use Rattle.std.specs.Fmt.{decimal}
use Rattle.record_pages.specs.Digits.{are_digits, digits_value}
use Rattle.item_lane.specs.declared.change.Change.{Change}
use Rattle.item_lane.specs.declared.change.Change.TheVariants.{Increment, Decrement}

-- the number of 64 bits that one to twenty digits write
abbrev pub number_of : List ℕ → Option ℕ
number_of digits =
    if not (length digits == 0) && (nat_le (length digits) 20 && (are_digits digits && nat_lt (digits_value digits) (2 ^ 64))) then Some (digits_value digits) else None

-- where the first space stands, or the end
abbrev pub digits_end : List ℕ → ℕ
digits_end bytes = unwrap_or (position (λ b. b == 32) bytes) (length bytes)

-- only spaces
abbrev pub are_spaces : List ℕ → Bool
are_spaces bytes = list_all (λ b. b == 32) bytes

-- the number that data hold: digits, and after them only spaces
abbrev pub number_in : List ℕ → Option ℕ
number_in bytes = if are_spaces (drop (digits_end bytes) bytes) then number_of (take (digits_end bytes) bytes) else None

-- a number after a change: a sum modulo 2^64, or a difference that is never below 0
abbrev pub changed : Change → ℕ → ℕ
changed (Increment by) n = (n + by) % 2 ^ 64
changed (Decrement by) n = n - by

-- a number as it is written in place of data of this length: its digits, and spaces up to that length
abbrev pub number_text : ℕ → ℕ → List ℕ
number_text len n = decimal n ++ replicate (len - length (decimal n)) 32
