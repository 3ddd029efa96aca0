-- The calls of each key one after the other, and the points at which they happen.
use Rattle.std.specs.Prelude.{◌≡◌, ◌≢◌, ℕ, ◌+◌, ◌*◌, ◌^◌, ◌/◌, ◌<◌, ◌≤◌, ◌-◌, ◌⊎◌, max, List, All, length, map, slice_get, slice_index, slice_index_or, take, Some}
use Rattle.std.specs.Option.{option_map_or}
use Rattle.std.specs.List.Sorted.{IsNonDecreasingBy, IsPermutation}
use Rattle.trace_file.specs.declared.call.Call.{Call}
use Rattle.trace_file.specs.declared.call_kind.CallKind.{CallKind}
use Rattle.trace_file.specs.declared.call_kind.CallKind.TheVariants as kinds
use Rattle.certificate_finder.specs.declared.ranked.Ranked.{Ranked}
use Rattle.certificate_finder.specs.declared.numbered_call.NumberedCall.{NumberedCall}
use Rattle.certificate_finder.specs.declared.zone.Zone.{Zone}
use Rattle.certificate_finder.specs.Points.{ArePoints, IsPoint}
use Rattle.certificate_finder.specs.Spots.{AreOfOne}
use Rattle.certificate_finder.specs.Turns.{start_at}
use Rattle.certificate_finder.specs.Zones.{ArePositions}

-- for each zone below an index its index, at its write's position
pub record ArePlaces (count : ℕ) (zones : List Zone) (upto : ℕ) (places : List ℕ) : Type 0 where
  pub len : length places ≡ count
  pub each : (k : ℕ) (zone : Zone) → k < upto → slice_get zones k ≡ Some zone → slice_get places zone.write ≡ Some k

-- the rank of a call: by its zone's place, the write first, then the hits by start; misses after all zones
abbrev pub turn_of : CallKind → ℕ → ℕ → ℕ → ℕ
turn_of kinds.Put start place zones = place * 2 ^ 65
turn_of kinds.Remove start place zones = place * 2 ^ 65
turn_of kinds.Hit start place zones = place * 2 ^ 65 + 2 ^ 64 + start
turn_of kinds.Miss start place zones = zones * 2 ^ 65 + start

-- the place of the zone that the call at a position goes with
abbrev pub place_at : List ℕ → List ℕ → ℕ → ℕ
place_at owners places position = slice_index places (slice_index owners position)

-- the rank of the call at a position
abbrev pub turn_at : List NumberedCall → List ℕ → List ℕ → ℕ → ℕ → ℕ
turn_at steps owners places zones position = option_map_or (λ step. turn_of step.kind step.start (place_at owners places position) zones) (slice_get steps position) 0

-- the positions of ranked calls
abbrev pub positions_in : List Ranked → List ℕ
positions_in ranked = map (λ (r : Ranked). r.position) ranked

-- all calls, by their turns
pub record IsLine (steps : List NumberedCall) (owners places : List ℕ) (zones : ℕ) (line : List Ranked) : Type 0 where
  pub listed : List Ranked
  pub positions : ArePositions (length steps) (positions_in listed)
  pub moved : IsPermutation listed line
  pub ranks : All (λ (r : Ranked). r.rank ≡ turn_at steps owners places zones r.position) line
  pub sorted : IsNonDecreasingBy (λ (r : Ranked). r.rank) line

-- between two calls of one key, neither a miss, stand only calls of that key that are no misses
pub record AreGrouped (history : List Call) (positions : List ℕ) : Type 0 where
  pub each : (i j k p q r : ℕ) → i ≤ j → j ≤ k → slice_get positions i ≡ Some p → slice_get positions j ≡ Some q → slice_get positions k ≡ Some r → AreOfOne history p r → AreOfOne history q r

-- the calls of a line by their points, and at one point by their places in the line
pub record AreSpots (history : List Call) (line spots : List Ranked) : Type 0 where
  pub listed : List Ranked
  pub same : positions_in listed ≡ positions_in line
  pub points : ArePoints (λ (r : Ranked). r.position) (λ (r : Ranked). r.rank / 4294967296) (AreOfOne history) (start_at history) listed
  pub places : (k : ℕ) (d : Ranked) → k < length listed → (slice_index_or listed k d).rank ≡ (slice_index_or listed k d).rank / 4294967296 * 4294967296 + k
  pub moved : IsPermutation listed spots
  pub sorted : IsNonDecreasingBy (λ (r : Ranked). r.rank) spots

-- a call stands in a line after one of its key, if there is an earlier one of its key
pub record InLine (history : List Call) (steps : List NumberedCall) (positions : List ℕ) : Type 0 where
  pub neighbours : (k p q : ℕ) (s t : NumberedCall) → slice_get positions k ≡ Some p → slice_get positions (k + 1) ≡ Some q → slice_get steps p ≡ Some s → slice_get steps q ≡ Some t → t.kind ≢ kinds.Miss → s.key ≡ t.key → AreOfOne history p q
  pub grouped : AreGrouped history positions

-- the point of a call after another: the greater of its start and the other's point, if they are of one key, otherwise its start
abbrev pub IsNextPoint : NumberedCall → NumberedCall → ℕ → ℕ → Type 0
IsNextPoint step before point next =
    ((step.kind ≢ kinds.Miss) × (step.key ≡ before.key) × (next ≡ max step.start point))
    ⊎ (((step.kind ≡ kinds.Miss) ⊎ (step.key ≢ before.key)) × (next ≡ step.start))

-- the point of the call at a place of a line, after the call before it
pub record IsPointAt (steps : List NumberedCall) (line : List Ranked) (place point next : ℕ) : Type 0 where
  pub turn : Ranked
  pub step : NumberedCall
  pub before : NumberedCall
  pub at : slice_get line place ≡ Some turn
  pub step_at : slice_get steps turn.position ≡ Some step
  pub first : place ≡ 0 → before ≡ step
  pub later : (q : ℕ) → 0 < place → slice_get (positions_in line) (place - 1) ≡ Some q → slice_get steps q ≡ Some before
  pub chosen : IsNextPoint step before point next

-- the calls of a line below a place have points, of which the last is this
pub record HavePoints (history : List Call) (line spots : List Ranked) (upto point : ℕ) : Type 0 where
  pub same : positions_in spots ≡ take upto (positions_in line)
  pub points : ArePoints (λ (r : Ranked). r.position) (λ (r : Ranked). r.rank / 4294967296) (AreOfOne history) (start_at history) spots
  pub places : (k : ℕ) (r : Ranked) → slice_get spots k ≡ Some r → r.rank ≡ r.rank / 4294967296 * 4294967296 + k
  pub last : (k p : ℕ) → k + 1 ≡ upto → slice_get (positions_in line) k ≡ Some p → IsPoint (AreOfOne history) (start_at history) (take k (positions_in line)) p point
  pub none : upto ≡ 0 → point ≡ 0

-- the calls below a position, in order, with their turns
pub record AreTurned (steps : List NumberedCall) (owners places : List ℕ) (zones upto : ℕ) (line : List Ranked) : Type 0 where
  pub positions : ArePositions upto (positions_in line)
  pub ranks : All (λ (r : Ranked). r.rank ≡ turn_at steps owners places zones r.position) line
