-- The rule of a book, and what its steps tell.
use Rattle.std.specs.Prelude.{ℕ, ◌≡◌, ◌<◌, ◌==◌, true, List, [], ◌∷◌, ◌++◌, length, MatchBool}
use mathlib.Core.List.{IsPrefix}
use Rattle.logbook.specs.Pages.{Cell, cell, Step, View, Book, Named}
use Rattle.certificate_checker.specs.Deeds.{Deed}
use Rattle.deed_book.specs.Parts.{part_of}

-- there is a word for each lane, which is the number of the lane's writes in the list
pub record IsKept (lanes : ℕ) (lane_of : List ℕ → ℕ) (cells : List Cell) (log : List Deed) : Type 0 where
  pub words : length cells ≡ lanes
  pub counts : (n : ℕ) → n < lanes → cell cells n ≡ (length (part_of lane_of n log), true)

-- the word of a lane
abbrev pub head_of : Book → ℕ → Named
head_of book number = record { tracked = true; key = number; book = book }

-- the list so far was seen, and the number of its writes found
abbrev pub Looks : (List ℕ → ℕ) → Step Deed → View Deed ℕ → ℕ → View Deed ℕ → Type 0
Looks lane_of s v found w = length (part_of lane_of s.key w.0) ≡ found

-- a write was added to a list that begins with what had been seen, and in which the lane had this many writes
pub record IsAdded (lane_of : List ℕ → ℕ) (number count : ℕ) (write : Deed) (seen after : List Deed) : Type 0 where
  pub before : List Deed
  pub known : IsPrefix seen before
  pub counts : length (part_of lane_of number before) ≡ count
  pub behind : after ≡ before ++ write ∷ []

-- the write was added, if the lane had as many writes as was thought; otherwise nothing is said
abbrev pub Enters : (List ℕ → ℕ) → Step Deed → View Deed ℕ → ℕ → View Deed ℕ → Type 0
Enters lane_of s v found w = MatchBool (found == s.old) (IsAdded lane_of s.key s.old s.ask v.0 w.0) (Unit {0})
