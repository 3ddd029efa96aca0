-- Lanes of calls, each recorded apart from the others, and how they are laid out as one history.
use Rattle.std.specs.Prelude.{◌≡◌, ◌≢◌, ℕ, suc, ◌<◌, ◌≤◌, ◌⊎◌, List, [], ◌∷◌, ◌++◌, All, AllPairs, map, slice_get, Some}
use Rattle.std.specs.List.{flat_map, filter_map}
use Rattle.trace_file.specs.declared.call.Call.{Call}
pub use Rattle.certificate_checker.specs.declared.done.Done.{Done}
use Rattle.certificate_checker.specs.Deeds.{Deed, deed_of}
use Rattle.certificate_checker.specs.Latest.{IsLawful}
use Rattle.certificate_checker.specs.Orders.{IsOrder}

-- the calls of a lane, in the order of its record
abbrev pub calls_of : List Done → List Call
calls_of lane = map (λ done. done.call) lane

-- what the calls of a lane do, in the order of its record
abbrev pub deeds_done : List Done → List Deed
deeds_done lane = map (λ done. deed_of done.call) lane

-- each call was done after the one before it
abbrev pub PointsRise : List Done → Type 0
PointsRise lane = AllPairs (λ earlier later. earlier.point < later.point) lane

-- a lane is well recorded: its calls were done one after the other, each between its start and its end, and are lawful
pub record IsLane (lane : List Done) : Type 0 where
  pub points_rise : PointsRise lane
  pub started : All (λ done. done.call.start < done.point) lane
  pub ended : All (λ done. done.point ≤ done.call.end) lane
  pub lawful : IsLawful (deeds_done lane)

-- a done call whose end is left out
abbrev pub without_end : Done → Done
without_end done = record { call = record done.call { end = 0 }; point = done.point }

-- two lanes are of the same done calls, but for their ends
abbrev pub DifferInEnds : List Done → List Done → Type 0
DifferInEnds one other = map without_end one ≡ map without_end other

-- each lane has the keys that are placed in the lane of its number, and no others
abbrev pub ArePlaced : (List ℕ → ℕ) → List (List Done) → Type 0
ArePlaced lane_of lanes =
    (number : ℕ) (lane : List Done)
    → slice_get lanes number ≡ Some lane → All (λ done. lane_of done.call.key ≡ number) lane

-- two lanes have no key in common
abbrev pub AreApart : List Done → List Done → Type 0
AreApart one other = All (λ a. All (λ b. a.call.key ≢ b.call.key) other) one

-- a done call, and the number of the lane that recorded it
pub record Stamped : Type 0 where
  pub lane : ℕ
  pub done : Done

abbrev pub stamp : ℕ → Done → Stamped
stamp lane done = record { lane = lane; done = done }

-- the done calls of lanes, one lane after the other, if the first lane has this number
abbrev pub stamped_from : ℕ → List (List Done) → List Stamped
stamped_from number [] = []
stamped_from number (lane ∷ lanes) = map (stamp number) lane ++ stamped_from (suc number) lanes

-- the done calls of lanes, one lane after the other, if the first lane is lane 0
abbrev pub stamped : List (List Done) → List Stamped
stamped lanes = stamped_from 0 lanes

-- a lesser point comes first, and at equal points the lesser lane (Lamport 1978)
abbrev pub ComesFirst : Stamped → Stamped → Type 0
ComesFirst a b = (a.done.point < b.done.point) ⊎ ((a.done.point ≡ b.done.point) × (a.lane < b.lane))

-- lanes laid out: the history is their calls, one lane after the other, and the certificate its positions, each once, by point and lane
pub record IsLaidOut (lanes : List (List Done)) (history : List Call) (certificate : List ℕ) : Type 0 where
  pub calls : history ≡ flat_map calls_of lanes
  pub spelled : IsOrder history certificate
  pub by_point : AllPairs (λ earlier later. ¬ ComesFirst later earlier) (filter_map (slice_get (stamped lanes)) certificate)
