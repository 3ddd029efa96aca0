-- The faults of a history and a certificate, each by itself, and which of them is the first.
use Rattle.std.specs.Prelude.{◌≡◌, ◌≢◌, ℕ, ◌<◌, ◌≤◌, ◌⊎◌, List, length, take, Any, Contains, IsSomeAnd, slice_get, option_and_then, map, Option, Some, None, []}
use Rattle.trace_file.specs.declared.act.Act.TheVariants.{Hit}
use Rattle.trace_file.specs.declared.call.Call.{Call}
use Rattle.certificate_checker.specs.declared.fault.Fault.{Fault}
use Rattle.certificate_checker.specs.declared.fault.Fault.TheVariants.{BadInterval, WrongCount, NotAPlace, Repeated, OutOfOrder, WrongHit}
use Rattle.certificate_checker.specs.Deeds.{deed_of}
use Rattle.certificate_checker.specs.Orders.{Precedes, in_order}
use Rattle.certificate_checker.specs.Latest.{IsLive}

-- the calls at earlier places
abbrev pub earlier_calls : List Call → List ℕ → ℕ → List Call
earlier_calls history certificate place = in_order history (take place certificate)

-- the call at a place, if its position has one
abbrev pub call_at : List Call → List ℕ → ℕ → Option Call
call_at history certificate place = option_and_then (slice_get history) (slice_get certificate place)

-- which faults there are
abbrev pub HasFault : List Call → List ℕ → Fault → Type 0
-- the call at this position ends before it starts
HasFault history certificate (BadInterval position) =
    IsSomeAnd (slice_get history position) (λ call. call.end < call.start)
-- there are not as many places as calls
HasFault history certificate WrongCount = length certificate ≢ length history
-- the position at this place is none
HasFault history certificate (NotAPlace place) =
    IsSomeAnd (slice_get certificate place) (λ position. length history ≤ position)
-- the position at this place stands at an earlier one
HasFault history certificate (Repeated place) =
    IsSomeAnd (slice_get certificate place) (λ position. Contains (take place certificate) position)
-- the call at this place precedes a call at an earlier one
HasFault history certificate (OutOfOrder place) =
    IsSomeAnd (call_at history certificate place) (λ call.
    Any (λ earlier. Precedes call earlier) (earlier_calls history certificate place))
-- the call at this place hits a value that is not the latest of its key, live at its moment
HasFault history certificate (WrongHit place) =
    IsSomeAnd (call_at history certificate place) (λ call.
    (value : List ℕ) × (asked : ℕ) × (call.act ≡ Hit value asked) × ¬ IsLive (map deed_of (earlier_calls history certificate place)) call.key value asked)

-- when a fault is tested: intervals over all calls, then the count, then the places in order, four tests at each
pub record Moment : Type 0 where
  pub round : ℕ
  pub place : ℕ
  pub test : ℕ

-- the moment of a test
abbrev pub moment : ℕ → ℕ → ℕ → Moment
moment round place test = record { round = round; place = place; test = test }

-- the moment at which a fault is tested
abbrev pub tested_at : Fault → Moment
tested_at (BadInterval position) = moment 1 position 1
tested_at WrongCount = moment 2 0 1
tested_at (NotAPlace place) = moment 3 place 1
tested_at (Repeated place) = moment 3 place 2
tested_at (OutOfOrder place) = moment 3 place 3
tested_at (WrongHit place) = moment 3 place 4

-- an earlier round, or the same and an earlier place, or the same and an earlier test
abbrev pub IsBefore : Moment → Moment → Type 0
IsBefore a b =
    (a.round < b.round) ⊎ ((a.round ≡ b.round)
    × ((a.place < b.place) ⊎ ((a.place ≡ b.place) × (a.test < b.test))))

-- the first fault: it is there, and none that is tested before it
pub record IsFirstFault (history : List Call) (certificate : List ℕ) (fault : Fault) : Type 0 where
  pub found : HasFault history certificate fault
  pub first : (other : Fault) → IsBefore (tested_at other) (tested_at fault) → ¬ HasFault history certificate other

-- the first fault, or none if there is none
abbrev pub IsFirstOrNone : List Call → List ℕ → Option Fault → Type 0
IsFirstOrNone history certificate None = (fault : Fault) → ¬ HasFault history certificate fault
IsFirstOrNone history certificate (Some fault) = IsFirstFault history certificate fault

-- the first position with a bad interval, or none if each is good
abbrev pub IsFirstBadInterval : List Call → Option ℕ → Type 0
IsFirstBadInterval history None = (position : ℕ) → ¬ HasFault history [] (BadInterval position)
IsFirstBadInterval history (Some position) =
    HasFault history [] (BadInterval position) × ((q : ℕ) → q < position → ¬ HasFault history [] (BadInterval q))

-- this place has none of the four faults
pub record IsRight (history : List Call) (certificate : List ℕ) (place : ℕ) : Type 0 where
  pub is_place : ¬ HasFault history certificate (NotAPlace place)
  pub not_repeated : ¬ HasFault history certificate (Repeated place)
  pub in_order : ¬ HasFault history certificate (OutOfOrder place)
  pub hits_latest : ¬ HasFault history certificate (WrongHit place)

-- a fault at a place whose earlier places are right, and before which no test of its own place fails
abbrev pub IsFirstOfPlaces : List Call → List ℕ → Option Fault → Type 0
IsFirstOfPlaces history certificate None = (place : ℕ) → IsRight history certificate place
IsFirstOfPlaces history certificate (Some fault) =
    HasFault history certificate fault × (tested_at fault).round ≡ 3
    × ((other : Fault) → (tested_at other).round ≡ 3 → IsBefore (tested_at other) (tested_at fault) → ¬ HasFault history certificate other)
