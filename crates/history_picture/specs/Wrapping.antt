-- A text broken into lines between its words.
use Rattle.std.specs.Prelude.{ℕ, ◌+◌, ◌-◌, List, [], ◌∷◌, ◌++◌, Bool, ◌==◌, ◌||◌, nat_le, not, length, count_by, fold, filter, if◌then◌else◌}
use Rattle.history_picture.specs.declared.wrapping.Wrapping.{Wrapping}

-- a text on its way into lines: what stands on lines, how many signs the last of them has, and the word that is not placed
pub record Broken : Type 0 where
  pub text : List ℕ
  pub used : ℕ
  pub word : List ℕ

-- nothing is placed
abbrev pub unbroken : Broken
unbroken = record { text = []; used = 0; word = [] }

-- a word has room on a line if nothing stands there, or if both together have at most 96 signs
abbrev pub has_room : ℕ → List ℕ → Bool
has_room used word = (used == 0) || nat_le (length word) (96 - used)

-- the word is put on the line
abbrev pub on_line : Broken → Broken
on_line broken = record { text = broken.text ++ broken.word; used = broken.used + length broken.word; word = [] }

-- a line is begun
abbrev pub next_line : Broken → Broken
next_line broken = record { text = broken.text ++ 10 ∷ []; used = 0; word = broken.word }

-- the word is put on the line if it has room there, otherwise on the next one
abbrev pub placed : Broken → Broken
placed broken = if has_room broken.used broken.word then on_line broken else on_line (next_line broken)

-- the word, and one sign more
abbrev pub longer : Broken → ℕ → Broken
longer broken sign = record { text = broken.text; used = broken.used; word = broken.word ++ sign ∷ [] }

-- one sign more: a space ends a word and belongs to it
abbrev pub with_sign : Broken → ℕ → Broken
with_sign broken sign = if sign == 32 then placed (longer broken sign) else longer broken sign

-- a text, with a line feed before each word that has no room on the line before
unfoldable pub wrapped : List ℕ → List ℕ
wrapped text = (placed (fold with_sign unbroken text)).text

-- how many lines follow the first one
abbrev pub feeds : List ℕ → ℕ
feeds lines = count_by (λ sign. sign == 10) lines

-- a text without its line feeds
abbrev pub unfed : List ℕ → List ℕ
unfed text = filter (λ sign. not (sign == 10)) text

-- what a text on its way into lines is
abbrev pub broken_of : Wrapping → Broken
broken_of wrapping = record { text = wrapping.text.items; used = wrapping.used; word = wrapping.word.items }
