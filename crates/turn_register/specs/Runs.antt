-- Runs: the accesses of any number of turns to the words that they share, one after another.
use Rattle.std.specs.Prelude.{◌≡◌, ◌<◌, ℕ, suc, List, [], ◌∷◌, Option, Some, None}
use Rattle.turn_register.specs.declared.place.TurnPlace.{TurnPlace}
use Rattle.turn_register.specs.declared.place.TurnPlace.TheVariants as places
use Rattle.turn_register.specs.declared.turn.RegisterTurn.{RegisterTurn}
use Rattle.turn_register.specs.Delays.{all_hidden}
use Rattle.turn_register.specs.Places.{place_of}
use Rattle.turn_register.specs.Turns.{next_turn}

-- The words that turns share, and the turn that has the lock of flushes. `top` is what the last flush drew, 0 before the first.
pub record Shared : Type 0 where
  pub next : ℕ
  pub flushed : ℕ
  pub pending : ℕ
  pub inside : Option RegisterTurn
  pub top : ℕ

-- the words of a server that starts
abbrev pub started : ℕ → Shared
started first = record { next = first; flushed = 0; pending = 0; inside = None; top = 0 }

-- An access: of a turn outside of the lock, which is handed this; of one that takes the lock; or of the one that has it, which is handed
-- this.
pub data Access : Type 0 where
  Outside : RegisterTurn → ℕ → Access
  Enters : RegisterTurn → Access
  Inside : RegisterTurn → ℕ → Access

-- a number is drawn: what `next` was, which has not come to its end
abbrev pub IsDrawn : Shared → ℕ → Type 0
IsDrawn s n = (n ≡ s.next) × (n < all_hidden)

-- what a turn outside of the lock is handed at a place
abbrev pub OutsideAt : TurnPlace → Shared → ℕ → Type 0
OutsideAt places.Draw s read = IsDrawn s read
OutsideAt places.SeePending s read = read ≡ s.pending
OutsideAt places.SeeFlushed s read = read ≡ s.flushed
OutsideAt place s read = ⊥

-- what a turn that has the lock is handed at a place
abbrev pub InsideAt : TurnPlace → Shared → ℕ → Type 0
InsideAt places.SeeLocked s read = read ≡ s.pending
InsideAt places.Hide s read = Unit {0}
InsideAt places.DrawFlush s read = IsDrawn s read
InsideAt places.Show s read = Unit {0}
InsideAt places.Clear s read = Unit {0}
InsideAt places.SetLater s read = Unit {0}
InsideAt places.Unlock s read = Unit {0}
InsideAt place s read = ⊥

-- an access can be made, and reads what is there: a turn takes the lock only if none has it
abbrev pub Fits : Shared → Access → Type 0
Fits s (Outside t read) = OutsideAt (place_of t.at) s read
Fits s (Enters t) = (place_of t.at ≡ places.Lock) × (s.inside ≡ None)
Fits s (Inside t read) = (s.inside ≡ Some t) × InsideAt (place_of t.at) s read

-- the words after an access outside of the lock
abbrev pub outside_after : TurnPlace → Shared → Shared
outside_after places.Draw s = record s { next = suc s.next }
outside_after place s = s

-- the words after an access of the turn that has the lock, and which turn has it then
abbrev pub inside_after : TurnPlace → Shared → RegisterTurn → ℕ → Shared
inside_after places.Hide s t read = record s { flushed = t.word; inside = Some (next_turn t read) }
inside_after places.DrawFlush s t read = record s { next = suc s.next; inside = Some (next_turn t read); top = read }
inside_after places.Show s t read = record s { flushed = t.word; inside = Some (next_turn t read) }
inside_after places.Clear s t read = record s { pending = t.word; inside = Some (next_turn t read) }
inside_after places.SetLater s t read = record s { pending = t.word; inside = Some (next_turn t read) }
inside_after places.Unlock s t read = record s { inside = None }
inside_after place s t read = record s { inside = Some (next_turn t read) }

-- the words after an access
abbrev pub after : Shared → Access → Shared
after s (Outside t read) = outside_after (place_of t.at) s
after s (Enters t) = record s { inside = Some (next_turn t 0) }
after s (Inside t read) = inside_after (place_of t.at) s t read

-- a run of accesses leads from these words to those
abbrev pub Runs : Shared → List Access → Shared → Type 0
Runs s [] end = end ≡ s
Runs s (access ∷ run) end = Fits s access × Runs (after s access) run end
