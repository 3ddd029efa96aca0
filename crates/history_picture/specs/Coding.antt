-- How bytes are spelled, so that none of them reaches a terminal as it is.
use Rattle.std.specs.Prelude.{ℕ, ◌/◌, ◌%◌, List, [], ◌∷◌, ◌++◌, Bool, true, ◌==◌, ◌&&◌, not, nat_lt, nat_le, length, take, codes, if◌then◌else◌}
use Rattle.std.specs.Fmt.{digit_glyph}
use Rattle.std.specs.List.{flat_map}
use Rattle.std.specs.Str.{bytes_eq}

-- a byte that stands for itself: printable, no space, and no percent sign
abbrev pub is_bare : ℕ → Bool
is_bare byte = (nat_lt 32 byte && nat_lt byte 127) && not (byte == 37)

-- a byte spelled by a percent sign and two hex digits
abbrev pub percent : ℕ → List ℕ
percent byte = 37 ∷ digit_glyph true (byte / 16 % 16) ∷ digit_glyph true (byte % 16) ∷ []

-- a byte, spelled
abbrev pub code_of : ℕ → List ℕ
code_of byte = if is_bare byte then byte ∷ [] else percent byte

-- bytes, spelled as a word: none by a hyphen, and a hyphen that is alone by its code
unfoldable pub word_of : List ℕ → List ℕ
word_of bytes =
    if length bytes == 0 then codes "-" else (if bytes_eq bytes (codes "-") then codes "%2D" else flat_map code_of bytes)

-- a word of more than 24 characters is cut to 22, with two points after it
unfoldable pub cut_word : List ℕ → List ℕ
cut_word word = if nat_le (length word) 24 then word else take 22 word ++ codes ".."

-- bytes as they are shown
abbrev pub shown_word : List ℕ → List ℕ
shown_word bytes = cut_word (word_of bytes)
