-- The lines of a script, the bytes that were read ahead of them, and what taking a line gives.
use Rattle.std.specs.Prelude.{◌≡◌, ◌≢◌, ℕ, suc, ◌<◌, ◌≤◌, Bool, ◌||◌, List, [], ◌∷◌, length, ◌==◌, nat_lt, if◌then◌else◌, Option, Some}
use Rattle.std.specs.List.{onto_first}
use Rattle.script_words.specs.declared.line_read.LineRead.{LineRead}
use Rattle.script_words.specs.declared.line_read.LineRead.TheVariants.{Line, TooLong, End}

-- each line ends at a line feed; a last line without one counts, and an empty rest is no line
abbrev pub lines_of : List ℕ → List (List ℕ)
lines_of [] = []
lines_of (b ∷ bs) = if b == 10 then [] ∷ lines_of bs else onto_first b (lines_of bs)

-- the first line
abbrev pub first_line : List ℕ → List ℕ
first_line [] = []
first_line (b ∷ bs) = if b == 10 then [] else b ∷ first_line bs

-- what is after the first line's line feed
abbrev pub after_line : List ℕ → List ℕ
after_line [] = []
after_line (b ∷ bs) = if b == 10 then bs else after_line bs

-- how many line feeds there are: as many lines are whole
abbrev pub feeds : List ℕ → ℕ
feeds [] = 0
feeds (b ∷ bs) = if b == 10 then suc (feeds bs) else feeds bs

-- bytes that were read and not yet taken, and whether the reader reported its end after them
pub record Ahead : Type 0 where
  pub bytes : List ℕ
  pub over : Bool

-- the next line can be judged, if a line has at most this many bytes: it is whole, too long, or the last
abbrev pub is_ready_within : ℕ → Ahead → Bool
is_ready_within most ahead = ahead.over || nat_lt most (length ahead.bytes) || nat_lt 0 (feeds ahead.bytes)

-- the first line was taken, it has more bytes than a line may have, or there is none
abbrev pub TakesWithin : ℕ → Ahead → LineRead → List ℕ → Ahead → Type 0
TakesWithin most old Line line new = (old.bytes ≢ []) × (line ≡ first_line old.bytes) × (length line ≤ most) × (new ≡ record { bytes = after_line old.bytes; over = old.over })
TakesWithin most old TooLong line new = (most < length (first_line old.bytes)) × (new ≡ old)
TakesWithin most old End line new = (old.bytes ≡ []) × (new ≡ old)

-- what taking a line gives of all bytes that are left: the first line and what is after it, that it is too long, or that there is none
abbrev pub GivesNext : ℕ → List ℕ → LineRead → List ℕ → Option (List ℕ) → Type 0
GivesNext most bytes Line line rest = (bytes ≢ []) × (line ≡ first_line bytes) × (rest ≡ Some (after_line bytes)) × (length line ≤ most)
GivesNext most bytes TooLong line rest = (bytes ≢ []) × (most < length (first_line bytes))
GivesNext most bytes End line rest = bytes ≡ []

-- the same of a script, whose lines have at most 4,096 bytes
abbrev pub is_ready : Ahead → Bool
is_ready ahead = is_ready_within 4096 ahead

abbrev pub Takes : Ahead → LineRead → List ℕ → Ahead → Type 0
Takes old read line new = TakesWithin 4096 old read line new
