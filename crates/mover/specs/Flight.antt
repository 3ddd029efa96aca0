-- The moves in flight.
use Rattle.std.specs.Prelude.{◌≡◌, ◌≢◌, ◌<◌, ◌≤◌, ◌+◌, ℕ, List, length, All, AllPairs, ◌++◌, find, map, filter, not, ◌||◌, ◌==◌, slice_get, Option, Some, IsSome, Bool, false, Vec, vec_capacity}
use Rattle.std.specs.List.{list_any}
use Rattle.std.specs.Option.{option_map_or}
use Rattle.std.specs.declared.alloc.Global.{Global}
use Rattle.record_pages.specs.Recs.{Rec}
use Rattle.record_pages.specs.Sizes.{max_set_records}
use Rattle.policy_laws.specs.declared.choice.Choice.{Choice}
use Rattle.klog.specs.Log.{Shape}
use Rattle.klog.specs.Shown.{place_in}
use Rattle.klog.specs.Moves.{most_taken}
use Rattle.kset.specs.Laws.{IsKeyOf}
use Rattle.mover.specs.declared.mark.Mark.{Mark}
use Rattle.mover.specs.declared.moving.Moving.{Moving}
pub use Rattle.mover.specs.declared.flight.Flight.{Flight}

-- the records of a move, in the order of its items
abbrev pub records_of : Moving → List Rec
records_of moving = map (λ x. x.stored) moving.visible ++ map (λ t. t.stored) moving.taken

-- the mark of a record of which no key was struck
abbrev pub fresh_mark : Shape → Rec → Mark
fresh_mark shape r = record { hash = (place_in shape r.key).hash; struck = false }

-- a move that just began: nothing was struck since
abbrev pub just_begun : Shape → Moving → Flight
just_begun shape moving = record { moving = moving; marks = map (fresh_mark shape) (records_of moving) }

-- a key of this hash is struck
abbrev pub mark_struck : ℕ → Mark → Mark
mark_struck hash m = record m { struck = m.struck || m.hash == hash }

-- each item whose key has this hash is struck
abbrev pub flight_struck : ℕ → Flight → Flight
flight_struck hash f = record f { marks = map (mark_struck hash) f.marks }

-- the item with this number is there, and was struck
abbrev pub is_struck_by : List Mark → ℕ → Bool
is_struck_by marks item = option_map_or (λ (m : Mark). m.struck) (slice_get marks item) false

abbrev pub is_struck : Flight → ℕ → Bool
is_struck f item = is_struck_by f.marks item

-- the choices of a plan whose items were not struck, in its order
abbrev pub unstruck : Flight → List Choice → List Choice
unstruck f plan = filter (λ choice. not (is_struck f choice.item)) plan

-- a record is that of an item that was not struck
pub record IsUnstruck (f : Flight) (r : Rec) : Type 0 where
  pub item : ℕ
  pub found : slice_get (records_of f.moving) item ≡ Some r
  pub not_struck : is_struck f item ≡ false

-- the most moves in flight
abbrev pub most_flights : ℕ
most_flights = 8

-- the move with this number, if it is in flight
abbrev pub flight_of : ℕ → List Flight → Option Flight
flight_of number flights = find (λ (f : Flight). f.moving.number == number) flights

-- the moves but the one with this number
abbrev pub without_flight : ℕ → List Flight → List Flight
without_flight number flights = filter (λ (f : Flight). not (f.moving.number == number)) flights

-- the sets of the moves in flight
abbrev pub sets_in_flight : List Flight → List ℕ
sets_in_flight flights = map (λ (f : Flight). f.moving.set) flights

-- a set is one of these
abbrev pub is_any : ℕ → List ℕ → Bool
is_any set sets = list_any (λ n. n == set) sets

-- a move with this number is in flight
abbrev pub IsInFlight : List Flight → ℕ → Type 0
IsInFlight flights number = IsSome (flight_of number flights)

-- What is true of a move in flight. Its set is one of the lane's, its number is one that was given, its marks are those of
-- its records, and these are no more than are read of a page and taken of the log.
pub record IsFlightOf (shape : Shape) (moves : ℕ) (f : Flight) : Type 0 where
  pub set : f.moving.set < shape.sets
  pub numbered : f.moving.number ≤ moves
  pub marked : map (λ (m : Mark). m.hash) f.marks ≡ map (λ (r : Rec). (place_in shape r.key).hash) (records_of f.moving)
  pub few : length (records_of f.moving) ≤ max_set_records + most_taken

-- What is true of the moves in flight, which stand as they began: no more than so many, each one of the store, with rising
-- numbers and no set twice.
pub record AreFlights (shape : Shape) (moves : ℕ) (flights : List Flight) : Type 0 where
  pub few : length flights ≤ most_flights
  pub each : All (IsFlightOf shape moves) flights
  pub rising : AllPairs (λ (a b : Flight). a.moving.number < b.moving.number) flights
  pub apart : AllPairs (λ (a b : Flight). a.moving.set ≢ b.moving.set) flights

-- a list of the moves in flight goes with one of their sets, and each has room for as many as may be
pub record HasRoomFor (flights : Vec Flight Global) (sets : Vec ℕ Global) : Type 0 where
  pub sets_are : sets.items ≡ sets_in_flight flights.items
  pub flights_fit : most_flights ≤ vec_capacity flights
  pub sets_fit : most_flights ≤ vec_capacity sets

-- the keys of a move's records belong to its set
abbrev pub AreOfSet : Shape → Moving → Type 0
AreOfSet shape moving = All (λ r. IsKeyOf shape.lanes shape.sets moving.set r.key) (records_of moving)
