-- A lane's register, and what its steps do.
use Rattle.std.specs.Prelude.{ℕ, ◌≡◌, ◌<◌, ◌+◌, ◌^◌, List, [], ◌∷◌, ◌++◌, length}
use mathlib.Core.List.{IsPrefix}
use Rattle.logbook.specs.Pages.{Book, Named}
use Rattle.certificate_checker.specs.Deeds.{Deed}
use Rattle.deed_book.specs.Parts.{part_of}
use Rattle.deed_book.specs.Rules.{head_of}

-- the number of a lane, and the list of all writes as its register has seen it
pub record Registered : Type 0 where
  pub number : ℕ
  pub deeds : List Deed

-- the register has the word of its lane, and entered each of the lane's writes in what it has seen of the book
pub record IsRegister (lanes : ℕ) (lane_of : List ℕ → ℕ) (book : Book) (number entered : ℕ) (head : Named) (seen_book : Book) (names : List ℕ) (log : List Deed) : Type 0 where
  pub within : number < lanes
  pub word : head ≡ head_of book number
  pub same_book : seen_book ≡ book
  pub alone : names ≡ []
  pub counts : length (part_of lane_of number log) ≡ entered

-- the book has no write, and this many registers are handed out
pub record HandsOut (lanes : ℕ) (book : Book) (given : ℕ) (seen_book : Book) (names : List ℕ) (log : List Deed) (pens_book : Book) (next left : ℕ) : Type 0 where
  pub same_book : seen_book ≡ book
  pub alone : names ≡ []
  pub empty : log ≡ []
  pub pens_are : pens_book ≡ book
  pub next_is : next ≡ given
  pub rest : given + left ≡ lanes
  pub few : lanes < 2 ^ 64

-- A look: register and seat have both seen one list then, which begins with what each had seen, and in which the lane has the writes
-- that the register knew.
pub record Catches (lane_of : List ℕ → ℕ) (old : Registered) (seat_old : List Deed) (new : Registered) (seat_new : List Deed) : Type 0 where
  pub number : new.number ≡ old.number
  pub both : seat_new ≡ new.deeds
  pub known : IsPrefix old.deeds new.deeds
  pub seen : IsPrefix seat_old new.deeds
  pub part : part_of lane_of old.number new.deeds ≡ part_of lane_of old.number old.deeds

-- An entry: the same of the list before the write, which comes after it.
pub record EntersIn (lane_of : List ℕ → ℕ) (old : Registered) (seat_old : List Deed) (write : Deed) (new : Registered) (seat_new : List Deed) : Type 0 where
  pub before : List Deed
  pub number : new.number ≡ old.number
  pub both : seat_new ≡ new.deeds
  pub behind : new.deeds ≡ before ++ write ∷ []
  pub known : IsPrefix old.deeds before
  pub seen : IsPrefix seat_old before
  pub part : part_of lane_of old.number before ≡ part_of lane_of old.number old.deeds
