-- What is so of every run, whatever its turns are.
use Rattle.std.specs.Prelude.{◌≡◌, ◌≢◌, ◌<◌, ◌≤◌, ℕ, List, [], ◌∷◌}
use Rattle.turn_register.specs.declared.place.TurnPlace.{TurnPlace}
use Rattle.turn_register.specs.declared.place.TurnPlace.TheVariants as places
use Rattle.turn_register.specs.declared.turn.RegisterTurn.{RegisterTurn}
use Rattle.turn_register.specs.Places.{place_of}
use Rattle.turn_register.specs.Runs.{Shared, Access, Outside, Enters, Inside, Fits, after, started, Runs}
use Rattle.turn_register.specs.Turns.{next_turn}

-- a turn stands at a place
abbrev pub IsAt : TurnPlace → RegisterTurn → Type 0
IsAt place t = place_of t.at ≡ place

-- an access draws a number: for an item, or for a flush
abbrev pub Draws : Access → ℕ → Type 0
Draws (Outside t read) n = IsAt places.Draw t × (read ≡ n)
Draws (Enters t) n = ⊥
Draws (Inside t read) n = IsAt places.DrawFlush t × (read ≡ n)

-- an access sets a flush that is to come
abbrev pub SetsLater : Access → Type 0
SetsLater (Outside t read) = ⊥
SetsLater (Enters t) = ⊥
SetsLater (Inside t read) = IsAt places.SetLater t

-- none of these accesses does
abbrev pub NoneSetsLater : List Access → Type 0
NoneSetsLater [] = Unit {0}
NoneSetsLater (access ∷ run) = (¬ SetsLater access) × NoneSetsLater run

-- No number is drawn twice: of two draws the later gives the greater number.
abbrev pub NumbersDiffer : Type 0
NumbersDiffer =
    (s end : Shared) (a b : Access) (between : List Access) (n m : ℕ) → Fits s a → Draws a n → Runs (after s a) between end → Fits end b → Draws b m → n < m

-- A flush that drew a number is seen from then on: whoever reads the number of the last flush after that reads at least this one.
abbrev pub FlushIsSeen : Type 0
FlushIsSeen =
    (first : ℕ) (before between : List Access) (s end : Shared) (flush turn : RegisterTurn) (n flushed : ℕ) →
    Runs (started first) before s → Fits s (Inside flush n) → IsAt places.DrawFlush flush →
    Runs (after s (Inside flush n)) between end → Fits end (Outside turn flushed) → IsAt places.SeeFlushed turn → n ≤ flushed

-- A flush that is to come is seen from its moment on, as if it had been made: a turn of that moment or a later one, which goes on after it
-- read what is to come, reads a number of the last flush that is at least the one that was next when the flush was set. No other flush with a
-- delay may have been set in between.
abbrev pub FlushToComeIsSeen : Type 0
FlushToComeIsSeen =
    (first : ℕ) (before between rest : List Access) (s middle end : Shared) (flush turn later : RegisterTurn) (read pending flushed : ℕ) →
    Runs (started first) before s → Fits s (Inside flush read) → IsAt places.SetLater flush → flush.word ≢ 0 →
    Runs (after s (Inside flush read)) between middle → NoneSetsLater between →
    Fits middle (Outside turn pending) → IsAt places.SeePending turn → flush.word ≤ turn.moment → IsAt places.SeeFlushed (next_turn turn pending) →
    Runs middle rest end → Fits end (Outside later flushed) → IsAt places.SeeFlushed later → s.next ≤ flushed
