-- Bytes as words: percent-coded, and - for no bytes.
use Rattle.std.specs.Prelude.{ℕ, Bool, true, false, not, ◌&&◌, ◌||◌, ◌==◌, List, [], ◌∷◌, length, if◌then◌else◌, Option, Some, None, codes}
use Rattle.std.specs.Str.{bytes_eq}
use Rattle.std.specs.Char.{is_ascii_hexdigit}
use Rattle.percent_encoding.specs.Percent.{percent_encode, percent_decode}
use Rattle.history_text.specs.declared.coding.TheConstants.{CODED}

-- two hexadecimal digits come first
abbrev pub starts_pair : List ℕ → Bool
starts_pair (high ∷ low ∷ rest) = is_ascii_hexdigit high && is_ascii_hexdigit low
starts_pair short = false

-- each % stands before two hexadecimal digits
abbrev pub is_coded : List ℕ → Bool
is_coded [] = true
is_coded (b ∷ rest) = (not (b == 37) || starts_pair rest) && is_coded rest

-- the bytes that a word writes, none if a % of it stands before no two hexadecimal digits; - writes no bytes
unfoldable pub bytes_of : List ℕ → Option (List ℕ)
bytes_of word = if bytes_eq word (codes "-") then Some [] else (if is_coded word then Some (percent_decode word) else None)

-- the word that writes bytes: each byte outside 33 to 126 and each % as % and two digits, and a lone hyphen too
unfoldable pub word_of : List ℕ → List ℕ
word_of bytes = if length bytes == 0 then codes "-" else (if bytes_eq bytes (codes "-") then codes "%2D" else percent_encode CODED bytes)
