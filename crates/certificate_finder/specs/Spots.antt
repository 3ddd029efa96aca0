-- Calls at points of time.
use Rattle.std.specs.Prelude.{◌≡◌, ℕ, ◌≤◌, Bool, true, false, ◌&&◌, not, List, All, AllPairs, map, filter, slice_get, IsSomeAnd}
use Rattle.std.specs.Option.{option_map_or}
use Rattle.std.specs.Str.{bytes_eq}
use Rattle.trace_file.specs.declared.act.Act.{Act}
use Rattle.trace_file.specs.declared.act.Act.TheVariants.{Put, Remove, Hit, Miss}
use Rattle.trace_file.specs.declared.call.Call.{Call}
use Rattle.certificate_checker.specs.Deeds.{Deed, deed_of}
use Rattle.certificate_checker.specs.Latest.{IsLawful}
use Rattle.certificate_checker.specs.Orders.{IsOrder, in_order}

-- a position of a history, and the point of time at which its call is taken to happen
pub record Spotted : Type 0 where
  pub position : ℕ
  pub point : ℕ

-- the positions of spots
abbrev pub positions_of : List Spotted → List ℕ
positions_of spots = map (λ spot. spot.position) spots

-- the call at a position starts at a point or before, and ends at it or after
abbrev pub HappensAt : List Call → ℕ → ℕ → Type 0
HappensAt history position point = IsSomeAnd (slice_get history position) (λ call. (call.start ≤ point) × (point ≤ call.end))

-- the call of a spot starts at its point or before, and ends at it or after
abbrev pub IsWithin : List Call → Spotted → Type 0
IsWithin history spot = HappensAt history spot.position spot.point

-- spots of a whole history: each call once, at a point of its own time, and lawful one after the other
pub record AreLawfulSpots (history : List Call) (spots : List Spotted) : Type 0 where
  pub order : IsOrder history (positions_of spots)
  pub within : All (IsWithin history) spots
  pub lawful : IsLawful (map deed_of (in_order history (positions_of spots)))

-- points rise, or stay
abbrev pub PointsRise : List Spotted → Type 0
PointsRise spots = AllPairs (λ earlier later. earlier.point ≤ later.point) spots

-- whether an act is a miss
abbrev pub is_miss : Act → Bool
is_miss (Put value expires) = false
is_miss Remove = false
is_miss (Hit value moment) = false
is_miss Miss = true

-- whether a deed is of a key, and no miss
abbrev pub is_of : List ℕ → Deed → Bool
is_of key deed = bytes_eq deed.key key && not (is_miss deed.act)

-- whether the call at a position is of a key, and no miss
abbrev pub is_at : List Call → List ℕ → ℕ → Bool
is_at history key position = option_map_or (λ call. is_of key (deed_of call)) (slice_get history position) false

-- the calls at two positions are of one key, and neither is a miss
pub record AreOfOne (history : List Call) (one other : ℕ) : Type 0 where
  pub key : List ℕ
  pub first : is_at history key one ≡ true
  pub second : is_at history key other ≡ true

-- the spots of each key, but for misses, stand in one order in both
abbrev pub KeysKeepOrder : List Call → List Spotted → List Spotted → Type 0
KeysKeepOrder history one other = (key : List ℕ) → filter (λ spot. is_at history key spot.position) one ≡ filter (λ spot. is_at history key spot.position) other
