-- A lane's calls, while the calls that passes list claim them. No contract of a public call cites this: it is how
-- `finish` goes its way.
use Rattle.std.specs.Prelude.{◌≡◌, ◌≢◌, ◌↔◌, ℕ, ◌<◌, ◌≤◌, List, [], ◌∷◌, Option, Some, None, length, map, replicate, slice_get, sum_by}
use Rattle.std.specs.Option.{option_map, option_map_or}
use Rattle.trace_file.specs.declared.call.Call.{Call}
use Rattle.recorded_lane.specs.declared.noted.Noted.{Noted}
use Rattle.recorded_lane.specs.Points.{noted_in}
use Rattle.history_recorder.specs.Done.{done_with}
use Rattle.certificate_checker.specs.declared.done.Done.{Done}
use Rattle.shared_cache.specs.declared.finish_fault.FinishFault.{FinishFault}
use Rattle.shared_cache.specs.declared.finish_fault.FinishFault.TheVariants.{OutOfMemory, LaneLost}
use Rattle.shared_cache.specs.declared.lane_claims.Unready.{Unready}
use Rattle.shared_cache.specs.declared.lane_claims.Unready.TheVariants as unready
use Rattle.shared_cache.specs.Listed.{Listed}
use Rattle.shared_cache.specs.Blames.{IsFree}

-- a done call as its lane recorded it
abbrev pub noted_of : Done → Noted
noted_of d = record { caller = d.call.caller; start = d.call.start; point = d.point; key = d.call.key; act = d.call.act }

-- a done call ends at its point or later
abbrev pub IsEnded : Done → Type 0
IsEnded d = d.point ≤ d.call.end

-- the calls of a lane, each kept with its point for its end, that are claimed with these ends, at each position one or none
abbrev pub slots_in : List Call → List (Option ℕ) → List (Option Done)
slots_in (call ∷ calls) (end ∷ ends) = option_map (done_with call) end ∷ slots_in calls ends
slots_in calls ends = []

-- the calls that a lane recorded, and those of them that were claimed so far, each at its position
pub record Claims : Type 0 where
  pub calls : List Noted
  pub slots : List (Option Done)

-- what was claimed is the call at its position, with an end at its point or later
abbrev pub IsClaimed : Noted → Option Done → Type 0
IsClaimed call (Some done) = (noted_of done ≡ call) × IsEnded done
IsClaimed call None = Unit {0}

-- the same of each position
abbrev pub AreClaimed : List Noted → List (Option Done) → Type 0
AreClaimed [] [] = Unit {0}
AreClaimed [] (s ∷ ss) = ⊥
AreClaimed (c ∷ cs) [] = ⊥
AreClaimed (c ∷ cs) (s ∷ ss) = IsClaimed c s × AreClaimed cs ss

-- what is true of all claims on a lane: an end or none a call, and no end before its call's point
pub record IsClaims (calls : List Call) (ends : List (Option ℕ)) : Type 0 where
  pub many : length ends ≡ length calls
  pub claimed : AreClaimed (map noted_in calls) (slots_in calls ends)

-- the claimed calls, each weighed and all added up
abbrev pub weigh_slots : (Done → ℕ) → List (Option Done) → ℕ
weigh_slots h slots = sum_by (λ s. option_map_or h s 0) slots

-- the calls of lanes, as each lane recorded them
abbrev pub recorded_of : List (List Done) → List (List Noted)
recorded_of lanes = map (λ lane. map noted_of lane) lanes

-- no call of a lane is claimed
abbrev pub IsFresh : Claims → Type 0
IsFresh claims = claims.slots ≡ replicate (length claims.calls) None

-- a listed call is the one at its position, which is not claimed
pub record Fits (claims : Claims) (l : Listed) : Type 0 where
  pub stands : slice_get claims.calls l.position ≡ Some l.call
  pub free : slice_get claims.slots l.position ≡ Some None

-- the first position that is not claimed
pub record IsFirstFree (slots : List (Option Done)) (position : ℕ) : Type 0 where
  pub free : slice_get slots position ≡ Some None
  pub before : (k : ℕ) → k < position → slice_get slots k ≢ Some None

-- what is claimed of a lane is just what these list: a position is free if none of them is of it
pub record IsBy (claims : Claims) (lane : ℕ) (calls : List Listed) : Type 0 where
  pub many : length claims.slots ≡ length claims.calls
  pub free : (position : ℕ) → position < length claims.calls → ((slice_get claims.slots position ≡ Some None) ↔ IsFree calls lane position)

-- each position of a lane is claimed
abbrev pub IsTaken : Claims → Type 0
IsTaken claims = (position : ℕ) → slice_get claims.slots position ≢ Some None

-- why a lane's calls are not handed out
abbrev pub IsUnready : List (Option Done) → Unready → Type 0
IsUnready slots unready.OutOfMemory = Unit {0}
IsUnready slots (unready.Unclaimed position) = IsFirstFree slots position

-- why lanes, this many of them, are not taken apart
abbrev pub IsNoBook : ℕ → FinishFault → Type 0
IsNoBook count OutOfMemory = Unit {0}
IsNoBook count (LaneLost lane) = lane < count
IsNoBook count _ = ⊥
