-- Lanes of calls on their way into one certificate.
use Rattle.std.specs.Prelude.{◌≡◌, ◌≢◌, ℕ, ◌+◌, ◌<◌, ◌≤◌, List, length, take, All, AllPairs, Contains, Option, Some, None, slice_get, slice_set}
use Rattle.std.specs.List.{flat_map, filter_map}
use Rattle.certificate_checker.specs.declared.done.Done.{Done}
use Rattle.certificate_checker.specs.Orders.{IsOrder}
use Rattle.certificate_checker.specs.Lanes.{calls_of, stamp, Stamped, stamped, ComesFirst}
use Rattle.history_recorder.specs.declared.lane_head.LaneHead.{LaneHead}
use Rattle.history_recorder.specs.declared.next_call.NextCall.{NextCall}

-- the position of the first call of the lane with this number, if the lanes' calls stand one lane after the other
abbrev pub first_of : List (List Done) → ℕ → ℕ
first_of lanes number = length (flat_map calls_of (take number lanes))

-- the stamped calls at these positions
abbrev pub stamped_at : List (List Done) → List ℕ → List Stamped
stamped_at lanes positions = filter_map (slice_get (stamped lanes)) positions

-- a certificate lists the calls of the lanes, each once, by point and lane
pub record ListsAll (lanes : List (List Done)) (certificate : List ℕ) : Type 0 where
  pub spelled : IsOrder (flat_map calls_of lanes) certificate
  pub by_point : AllPairs (λ earlier later. ¬ ComesFirst later earlier) (stamped_at lanes certificate)

-- a head a lane, each with the position of its lane's first call, and after none of its calls
pub record AreHeads (lanes : List (List Done)) (heads : List LaneHead) : Type 0 where
  pub count : length heads ≡ length lanes
  pub first : (number : ℕ) (head : LaneHead) → slice_get heads number ≡ Some head → head.first ≡ first_of lanes number
  pub within : (number : ℕ) (head : LaneHead) (lane : List Done) → slice_get heads number ≡ Some head → slice_get lanes number ≡ Some lane → head.listed ≤ length lane

-- heads of lanes of which no call is listed
pub record AtTheFirst (lanes : List (List Done)) (heads : List LaneHead) : Type 0 where
  pub are_heads : AreHeads lanes heads
  pub none_listed : All (λ head. head.listed ≡ 0) heads

-- the next call of a lane: the first that is not listed
pub record IsNext (lanes : List (List Done)) (heads : List LaneHead) (number : ℕ) (done : Done) : Type 0 where
  pub lane : List Done
  pub head : LaneHead
  pub in_lanes : slice_get lanes number ≡ Some lane
  pub in_heads : slice_get heads number ≡ Some head
  pub is : slice_get lane head.listed ≡ Some done

-- the first, by point and lane, of the next calls of the lanes below a number
pub record IsFirst (lanes : List (List Done)) (heads : List LaneHead) (limit : ℕ) (next : NextCall) : Type 0 where
  pub done : Done
  pub is_next : IsNext lanes heads next.lane done
  pub point : done.point ≡ next.point
  pub below : next.lane < limit
  pub first : (other : ℕ) (d : Done) → other < limit → IsNext lanes heads other d → ¬ ComesFirst (stamp other d) (stamp next.lane done)

-- that call, or none if these lanes have no next call
abbrev pub IsFirstBelow : List (List Done) → List LaneHead → ℕ → Option NextCall → Type 0
IsFirstBelow lanes heads limit None = (number : ℕ) (done : Done) → number < limit → ¬ IsNext lanes heads number done
IsFirstBelow lanes heads limit (Some next) = IsFirst lanes heads limit next

-- one call more of a lane is listed, at its position
pub record ListsNext (old new : List LaneHead) (number position : ℕ) : Type 0 where
  pub head : LaneHead
  pub found : slice_get old number ≡ Some head
  pub at : position ≡ head.first + head.listed
  pub moved : new ≡ slice_set old number (record { first = head.first; listed = head.listed + 1 })

-- a position of a call that the heads count as listed
pub record IsListed (heads : List LaneHead) (position : ℕ) : Type 0 where
  pub number : ℕ
  pub head : LaneHead
  pub found : slice_get heads number ≡ Some head
  pub from_first : head.first ≤ position
  pub before_next : position < head.first + head.listed

-- a certificate lists what the heads count, each once, by point and lane, and no next call comes before one of these
pub record ListsSoFar (lanes : List (List Done)) (heads : List LaneHead) (certificate : List ℕ) : Type 0 where
  pub are_heads : AreHeads lanes heads
  pub only : All (IsListed heads) certificate
  pub each : (position : ℕ) → IsListed heads position → Contains certificate position
  pub once : AllPairs (λ p q. p ≢ q) certificate
  pub by_point : AllPairs (λ earlier later. ¬ ComesFirst later earlier) (stamped_at lanes certificate)
  pub before_next : All (λ s. (number : ℕ) (done : Done) → IsNext lanes heads number done → ¬ ComesFirst (stamp number done) s) (stamped_at lanes certificate)
