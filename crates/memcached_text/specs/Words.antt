-- The words of a line.
use Rattle.std.specs.Prelude.{ℕ, Bool, ◌&&◌, not, List, [], length, filter, take, drop, ◌==◌, nat_le, nat_lt, codes, slice_index_or}
use Rattle.std.specs.List.{slice_split, position_or_len}
use Rattle.std.specs.Str.{bytes_eq}

-- all words of a text, which one or more spaces part
abbrev pub parts_of : List ℕ → List (List ℕ)
parts_of text = filter (λ part. not (length part == 0)) (slice_split (λ b. b == 32) text)

-- the words of a line that are looked at: the first 24
abbrev pub words_of : List ℕ → List (List ℕ)
words_of line = take 24 (parts_of line)

-- the word at a place, from 0 on; empty if there is none
abbrev pub word_at : List (List ℕ) → ℕ → List ℕ
word_at words i = slice_index_or words i []

-- what is left after the spaces that a text begins with
abbrev pub after_spaces : List ℕ → List ℕ
after_spaces text = drop (position_or_len (λ b. not (b == 32)) text) text

-- what is left from the first space on
abbrev pub from_space : List ℕ → List ℕ
from_space text = drop (position_or_len (λ b. b == 32) text) text

-- what is left after the first word, and the spaces before and after that
abbrev pub after_word : List ℕ → List ℕ
after_word text = after_spaces (from_space (after_spaces text))

-- a key has 1 to 250 bytes
abbrev pub is_key : List ℕ → Bool
is_key word = nat_lt 0 (length word) && nat_le (length word) 250

-- no answer is wanted
abbrev pub is_noreply : List ℕ → Bool
is_noreply word = bytes_eq word (codes "noreply")
