-- A lane with its record, and what is true of every lane.
use Rattle.std.specs.Prelude.{◌≡◌, ℕ, ◌-◌, ◌<◌, ◌≤◌, ◌^◌, ◌++◌, ◌∷◌, [], List, Option, Bool, IsTrue, All, AllPairs, map, length, slice_get}
use Rattle.std.specs.Option.{option_map_or}
use Rattle.record_pages.specs.declared.answer.Answer.{Answer}
use Rattle.record_pages.specs.declared.layout.Layout.{Layout}
use Rattle.set_hash.specs.Fnv.{fnv1a}
use Rattle.set_hash.specs.Place.{placed_of}
use Rattle.mover.specs.Store.{StoreState}
use Rattle.mover.specs.Lane.{LaneState, lane_of}
use Rattle.mover.specs.Laws.{IsInOrder}
use Rattle.trace_file.specs.declared.act.Act.{Act}
use Rattle.certificate_checker.specs.Deeds.{Deed}
use Rattle.certificate_checker.specs.Latest.{IsLawful}
use Rattle.deeds.specs.Sound as laws
use Rattle.recorded_lane.specs.declared.noted.Noted.{Noted}

-- a store, the lane's number, and the calls that it recorded, in order
pub record Lane (D : Type 0) : Type 0 where
  pub store : StoreState D
  pub lane : ℕ
  pub calls : List Noted

-- what a recorded call does
abbrev pub deed_noted : Noted → Deed
deed_noted n = record { key = n.key; act = n.act }

-- what recorded calls do, in order
abbrev pub deeds_of : List Noted → List Deed
deeds_of calls = map deed_noted calls

-- what is recorded of an answer to a get of a moment
abbrev pub act_of : ℕ → Answer → Act
act_of moment answer = laws.act_of moment answer

-- by this layout a key belongs to the lane with this number
abbrev pub IsOfLane : Layout → ℕ → List ℕ → Type 0
IsOfLane layout number key = (placed_of layout.lanes layout.sets (fnv1a key)).lane ≡ number

-- a lane is sound after these deeds: each visible pair, and each of an item in flight that was not struck, is what its key has after them, expired or not
abbrev pub IsSound : LaneState → List Deed → Type 0
IsSound lane deeds = laws.IsSound lane deeds

-- how many calls a lane records
abbrev pub max_calls : ℕ
max_calls = 2 ^ 24

-- the call of a caller that started and was done at these stamps
abbrev pub noted_at : ℕ → ℕ → ℕ → List ℕ → Act → Noted
noted_at caller start point key act = record { caller = caller; start = start; point = point; key = key; act = act }

-- a call was recorded, last, and of all else only the store may have changed
abbrev pub RecordsCall : {D : Type 0} → Lane D → Noted → Lane D → Type 0
RecordsCall lane n lane' = lane' ≡ record lane { store = lane'.store; calls = lane.calls ++ n ∷ [] }

-- a lane has as many calls as it records
abbrev pub HasMostCalls : {D : Type 0} → Lane D → Type 0
HasMostCalls lane = max_calls ≤ length lane.calls

-- What is true of the calls of a lane: its keys are its own, each call starts before its point, points rise, and its store was
-- asked and answered just what they did.
pub record IsNoted {D : Type 0} (lane : Lane D) (deeds : List Deed) : Type 0 where
  pub number : lane.lane < lane.store.layout.lanes
  pub keys : All (λ n. IsOfLane lane.store.layout lane.lane n.key) lane.calls
  pub starts : All (λ n. n.start < n.point) lane.calls
  pub points : AllPairs (λ a b. a.point < b.point) lane.calls
  pub few : length lane.calls ≤ max_calls
  pub its_deeds : deeds ≡ deeds_of lane.calls

-- What is true of every lane. Its keys are its own, each call starts before its point, and points rise. If its device
-- is honest it is in order and sound, and each recorded hit had its key's latest value.
pub record IsRecorded {D : Type 0} (honest : D → Bool) (held : D → ℕ → Option (List ℕ)) (lane : Lane D) : Type 0 where
  pub number : lane.lane < lane.store.layout.lanes
  pub keys : All (λ n. IsOfLane lane.store.layout lane.lane n.key) lane.calls
  pub starts : All (λ n. n.start < n.point) lane.calls
  pub points : AllPairs (λ a b. a.point < b.point) lane.calls
  pub few : length lane.calls ≤ max_calls
  pub order : IsTrue (honest lane.store.device) → IsInOrder (lane_of held lane.store)
  pub sound : IsTrue (honest lane.store.device) → IsSound (lane_of held lane.store) (deeds_of lane.calls)
  pub lawful : IsTrue (honest lane.store.device) → IsLawful (deeds_of lane.calls)

-- the point of the last call, or 0 before the first
abbrev pub last_point : List Noted → ℕ
last_point calls = option_map_or (λ n. n.point) (slice_get calls (length calls - 1)) 0
