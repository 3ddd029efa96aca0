-- The words and numbers of a script's lines.
use Rattle.std.specs.Prelude.{ℕ, ◌+◌, ◌-◌, ◌*◌, ◌^◌, Bool, ◌&&◌, ◌||◌, not, List, length, fold, slice_index, nat_lt, nat_le, ◌==◌, if◌then◌else◌, Option, Some, None}
use Rattle.std.specs.List.{slice_split, list_all}
use Rattle.record_pages.specs.Digits.{are_digits, digits_value}

-- one or more bytes from 33 to 126
abbrev pub is_word : List ℕ → Bool
is_word bytes = not (length bytes == 0) && list_all (λ b. nat_le 33 b && nat_le b 126) bytes

-- the words of a line, which one space each parts; none if a part is no word
abbrev pub words_of : List ℕ → Option (List (List ℕ))
words_of line =
    let parts = slice_split (λ b. b == 32) line in
    if list_all is_word parts then Some parts else None

-- decimal digits without a leading zero, or 0 itself
abbrev pub is_numeral : List ℕ → Bool
is_numeral word = are_digits word && not (length word == 0) && (not (slice_index word 0 == 48) || (length word == 1))

-- the number below a bound that the word writes; none if it writes none
abbrev pub number_below : ℕ → List ℕ → Option ℕ
number_below bound word = if is_numeral word && nat_lt (digits_value word) bound then Some (digits_value word) else None

-- a number of 32 bits
abbrev pub number_of : List ℕ → Option ℕ
number_of word = number_below (2 ^ 32) word

-- a moment, which has 64 bits
abbrev pub time_of : List ℕ → Option ℕ
time_of word = number_below (2 ^ 64) word
