-- The time in which a write and its hits have to stand.
use Rattle.std.specs.Prelude.{◌≡◌, ◌≢◌, ℕ, ◌+◌, ◌*◌, ◌^◌, ◌<◌, ◌≤◌, ◌⊎◌, List, [], ◌∷◌, ◌++◌, All, AllPairs, Contains, length, map, slice_get, Some}
use Rattle.std.specs.List.Sorted.{IsNonDecreasingBy}
use Rattle.certificate_finder.specs.declared.crossing.Crossing.{Crossing}
use Rattle.certificate_finder.specs.declared.faults.CrossedWrites.{CrossedWrites}
use Rattle.certificate_finder.specs.declared.numbered_call.NumberedCall.{NumberedCall}
use Rattle.certificate_finder.specs.declared.witness.Side.{Side}
use Rattle.certificate_finder.specs.declared.witness.Witness.{Witness}
use Rattle.certificate_finder.specs.declared.witness.Witness.TheVariants.{Crossed}
use Rattle.certificate_finder.specs.declared.zone.Zone.{Zone}
use Rattle.certificate_finder.specs.Lists.{Lists}
use Rattle.certificate_finder.specs.Writing.{Writing}

-- a call at a position goes with the write at another one: it is that one, or a hit that it owns
abbrev pub Goes : List ℕ → ℕ → ℕ → Type 0
Goes owners write position = (position ≡ write) ⊎ (slice_get owners position ≡ Some write)

-- this call ends first, of those that go with a write
pub record IsEarliest (steps : List NumberedCall) (owners : List ℕ) (write position : ℕ) (step : NumberedCall) : Type 0 where
  pub at : slice_get steps position ≡ Some step
  pub goes : Goes owners write position
  pub least : (other : ℕ) (call : NumberedCall) → slice_get steps other ≡ Some call → Goes owners write other → step.end ≤ call.end

-- this call starts last, of those that go with a write
pub record IsLatest (steps : List NumberedCall) (owners : List ℕ) (write position : ℕ) (step : NumberedCall) : Type 0 where
  pub at : slice_get steps position ≡ Some step
  pub goes : Goes owners write position
  pub greatest : (other : ℕ) (call : NumberedCall) → slice_get steps other ≡ Some call → Goes owners write other → call.start ≤ step.start

-- for each position the call that ends first
pub record AreEarliest (steps : List NumberedCall) (owners earliest : List ℕ) : Type 0 where
  pub count : length earliest ≡ length steps
  pub each : (write position : ℕ) → slice_get earliest write ≡ Some position → (step : NumberedCall) × IsEarliest steps owners write position step

-- for each position the call that starts last
pub record AreLatest (steps : List NumberedCall) (owners latest : List ℕ) : Type 0 where
  pub count : length latest ≡ length steps
  pub each : (write position : ℕ) → slice_get latest write ≡ Some position → (step : NumberedCall) × IsLatest steps owners write position step

-- a zone is what its write and the hits that go with it make it
pub record TellsZone (steps : List NumberedCall) (owners : List ℕ) (position : ℕ) (step : NumberedCall) (zone : Zone) : Type 0 where
  pub write : zone.write ≡ position
  pub key : zone.key ≡ step.key
  pub first : NumberedCall
  pub last : NumberedCall
  pub earliest : IsEarliest steps owners position zone.early first
  pub latest : IsLatest steps owners position zone.late last
  pub end : zone.end ≡ first.end
  pub start : zone.start ≡ last.start

-- by keys, and within a key by the middle between the least end and the greatest start
abbrev pub zone_rank : Zone → ℕ
zone_rank zone = zone.key * 2 ^ 65 + (zone.end + zone.start)

-- a zone's stamps are in their ranges
pub record IsFitZone (zone : Zone) : Type 0 where
  pub end : zone.end < 2 ^ 64
  pub start : zone.start < 2 ^ 64

-- no two zones are of one write
abbrev pub AreDistinct : List Zone → Type 0
AreDistinct zones = AllPairs (λ one other. one.write ≢ other.write) zones

-- the zones of all writes
pub record AreZones (steps : List NumberedCall) (owners : List ℕ) (zones : List Zone) : Type 0 where
  pub lists : Lists steps Writing (TellsZone steps owners) (length steps) zones
  pub sorted : IsNonDecreasingBy zone_rank zones
  pub distinct : AreDistinct zones
  pub fit : All IsFitZone zones

-- two zones of one key are crossed: each ends for some call before the other starts for some call
pub record AreCrossing (zones : List Zone) (crossing : Crossing) : Type 0 where
  pub one_listed : Contains zones crossing.one
  pub other_listed : Contains zones crossing.other
  pub key : crossing.one.key ≡ crossing.other.key
  pub apart : crossing.one.write ≢ crossing.other.write
  pub forth : crossing.one.end < crossing.other.start
  pub back : crossing.other.end < crossing.one.start

-- two zones of this key are crossed
pub record AreCrossedAt (zones : List Zone) (key : ℕ) : Type 0 where
  pub crossing : Crossing
  pub crossed : AreCrossing zones crossing
  pub of_key : crossing.one.key ≡ key

-- a zone before another of its key has started for all its calls when the other ends for the first one
abbrev pub FollowOn : Zone → Zone → Type 0
FollowOn earlier later = earlier.key ≡ later.key → earlier.start ≤ later.end

-- no two writes are crossed, if the calls have these owners
pub record AreUncrossed (steps : List NumberedCall) (owners : List ℕ) : Type 0 where
  pub zones : List Zone
  pub are_zones : AreZones steps owners zones
  pub follow : AllPairs FollowOn zones

-- of each key that has crossed zones two of them, by keys
pub record AreCrossings (zones : List Zone) (crossings : List Crossing) : Type 0 where
  pub each : All (AreCrossing zones) crossings
  pub rise : AllPairs (λ one other. one.one.key < other.one.key) crossings
  pub all : (key : ℕ) → AreCrossedAt zones key → Contains (map (λ crossing. crossing.one.key) crossings) key

-- the last of some crossings is of a key
pub record IsLastKey (crossings : List Crossing) (key : ℕ) : Type 0 where
  pub index : ℕ
  pub last : Crossing
  pub at : slice_get crossings index ≡ Some last
  pub ends : index + 1 ≡ length crossings
  pub of_key : last.one.key ≡ key

-- two zones that come one after the other are crossed
abbrev pub AreCrossedNext : Zone → Zone → Type 0
AreCrossedNext high zone = (zone.key ≡ high.key) × (zone.end < high.start)

-- two zones are listed, if they are crossed and the last listed ones are of another key
abbrev pub GrowsByCrossing : Zone → Zone → List Crossing → List Crossing → Type 0
GrowsByCrossing high zone old new =
    (AreCrossedNext high zone × (¬ IsLastKey old zone.key) × (new ≡ old ++ record { one = high; other = zone } ∷ []))
    ⊎ (((¬ AreCrossedNext high zone) ⊎ IsLastKey old zone.key) × (new ≡ old))

-- the positions up to a count, in order
pub record ArePositions (count : ℕ) (positions : List ℕ) : Type 0 where
  pub len : length positions ≡ count
  pub each : (k position : ℕ) → slice_get positions k ≡ Some position → position ≡ k

-- a zone's write with its two calls
abbrev pub side_of : Zone → Side
side_of zone = record { write = zone.write; early = zone.early; late = zone.late }

-- the writes of two zones
abbrev pub writes_of : Crossing → CrossedWrites
writes_of crossing = record { one = side_of crossing.one; other = side_of crossing.other }

-- the writes of the crossed zones of each key, if calls have these owners
pub record AreCrossedIn (steps : List NumberedCall) (owners : List ℕ) (crossed : List CrossedWrites) : Type 0 where
  pub zones : List Zone
  pub are_zones : AreZones steps owners zones
  pub crossings : List Crossing
  pub are : AreCrossings zones crossings
  pub told : crossed ≡ map writes_of crossings

-- the reason that two crossed zones are
abbrev pub crossed_by : Crossing → Witness
crossed_by crossing = Crossed (side_of crossing.one) (side_of crossing.other)
