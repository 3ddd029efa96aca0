-- Lanes whose calls get the ends that passes list, each lane for itself. No contract of a public call cites this: it is how
-- `finish` goes its way.
use Rattle.std.specs.Prelude.{◌≡◌, ◌≢◌, ℕ, suc, ◌+◌, ◌<◌, ◌≤◌, List, [], ◌∷◌, ◌++◌, Option, Some, None, Result, Ok, Err, All, Any, length, map, take, slice_get, sum_by, ◌==◌, if◌then◌else◌, ◌⊎◌}
use Rattle.std.specs.List.{flat_map}
use Rattle.std.specs.List.Sorted.{IsPermutation, IsNonDecreasingBy}
use Rattle.recorded_lane.specs.declared.noted.Noted.{Noted}
use Rattle.recorded_lane.specs.Points.{noted_in}
use Rattle.certificate_checker.specs.declared.done.Done.{Done}
use Rattle.shared_cache.specs.declared.finish_fault.FinishFault.{FinishFault}
use Rattle.shared_cache.specs.declared.finish_fault.FinishFault.TheVariants as ends
use Rattle.shared_cache.specs.declared.lane_fault.LaneFault.{LaneFault}
use Rattle.shared_cache.specs.declared.lane_fault.LaneFault.TheVariants.{OutOfMemory, Strange, Unlisted}
use Rattle.shared_cache.specs.declared.lane_left.LaneLeft.{LaneLeft}
use Rattle.shared_cache.specs.declared.list_place.ListPlace.{ListPlace}
use Rattle.shared_cache.specs.Listed.{Listed}
use Rattle.shared_cache.specs.Passes.{Ticket}
use Rattle.shared_cache.specs.Finished.{done_of}
use Rattle.shared_cache.specs.Blames.{IsFree, IsStrange, IsUnlisted, calls_in}
use Rattle.shared_cache.specs.Claimed.{Claims, IsBy, IsEnded, noted_of, weigh_slots}

-- ---- one lane

-- a call that is listed of a lane with these calls, after the calls before it, is the lane's own
pub record IsOwnOf (recorded : List Noted) (before : List Listed) (l : Listed) : Type 0 where
  pub stands : slice_get recorded l.position ≡ Some l.call
  pub once : IsFree before l.lane l.position

-- each of these that is listed of the lane with this number is
abbrev pub AreOwnOf : ℕ → List Noted → List Listed → Type 0
AreOwnOf lane recorded calls = (k : ℕ) (l : Listed) → slice_get calls k ≡ Some l → l.lane ≡ lane → IsOwnOf recorded (take k calls) l

-- the calls that are listed of a lane, each weighed and all added up
abbrev pub weigh_of : (Done → ℕ) → ℕ → List Listed → ℕ
weigh_of h lane calls = sum_by (λ l. if l.lane == lane then h (done_of l) else 0) calls

-- the claims on a lane are those of just these listed calls, if each that is listed of the lane is its own
pub record IsMade (lane : ℕ) (claims : Claims) (calls : List Listed) : Type 0 where
  pub by : IsBy claims lane calls
  pub own : AreOwnOf lane claims.calls calls
  pub weighed : (h : Done → ℕ) → weigh_slots h claims.slots ≡ weigh_of h lane calls

-- the first of these that is listed of the lane and not its own
pub record IsStrangeIn (lane : ℕ) (recorded : List Noted) (calls : List Listed) (index : ℕ) : Type 0 where
  pub call : Listed
  pub at : slice_get calls index ≡ Some call
  pub of : call.lane ≡ lane
  pub before : AreOwnOf lane recorded (take index calls)
  pub strange : ¬ IsOwnOf recorded (take index calls) call

-- the calls of some lists, list after list
abbrev pub all_in : List (List Listed) → List Listed
all_in lists = flat_map (λ calls. calls) lists

-- a call is listed at this place
pub record IsPlace (lists : List (List Listed)) (place : ListPlace) : Type 0 where
  pub calls : List Listed
  pub there : slice_get lists place.pass ≡ Some calls
  pub within : place.call < length calls

-- how many calls are listed before a place
abbrev pub index_of : List (List Listed) → ListPlace → ℕ
index_of lists place = length (all_in (take place.pass lists)) + place.call

-- the call at this place is the first that is listed of the lane and not its own
pub record IsStrangeAt (lane : ℕ) (recorded : List Noted) (lists : List (List Listed)) (place : ListPlace) : Type 0 where
  pub place_is : IsPlace lists place
  pub first : IsStrangeIn lane recorded (all_in lists) (index_of lists place)

-- the calls of a lane with the ends with which they are listed, each once
pub record IsSettled (lane : ℕ) (recorded : List Noted) (calls : List Listed) (dones : List Done) : Type 0 where
  pub same : map noted_of dones ≡ recorded
  pub ended : All IsEnded dones
  pub own : AreOwnOf lane recorded calls
  pub weighed : (h : Done → ℕ) → sum_by h dones ≡ weigh_of h lane calls
  pub listed : (position : ℕ) → position < length recorded → ¬ IsFree calls lane position

-- the first call of a lane that is not listed
pub record IsUnlistedIn (lane : ℕ) (recorded : List Noted) (calls : List Listed) (position : ℕ) : Type 0 where
  pub call : Noted
  pub stands : slice_get recorded position ≡ Some call
  pub free : IsFree calls lane position
  pub before : (p : ℕ) → p < position → ¬ IsFree calls lane p
  pub own : AreOwnOf lane recorded calls

-- what comes of a lane with this number and these calls, by what is listed
abbrev pub Settles : ℕ → List Noted → List (List Listed) → Result (List Done) LaneFault → Type 0
Settles lane recorded lists (Ok dones) = IsSettled lane recorded (all_in lists) dones
Settles lane recorded lists (Err OutOfMemory) = Unit {0}
Settles lane recorded lists (Err (Strange place)) = IsStrangeAt lane recorded lists place
Settles lane recorded lists (Err (Unlisted position)) = IsUnlistedIn lane recorded (all_in lists) position

-- ---- all lanes

-- the lanes have the numbers from this one on
abbrev pub AreNumbered : ℕ → List LaneLeft → Type 0
AreNumbered number [] = Unit {0}
AreNumbered number (l ∷ ls) = (l.lane ≡ number) × AreNumbered (suc number) ls

-- the calls that each lane recorded
abbrev pub recorded_in : List LaneLeft → List (List Noted)
recorded_in left = map (λ l. map noted_in l.recorded) left

-- what comes of lanes with the numbers from this one on
abbrev pub AreSettled : ℕ → List (List Listed) → List (List Noted) → List (Result (List Done) LaneFault) → Type 0
AreSettled number lists [] [] = Unit {0}
AreSettled number lists [] (r ∷ rs) = ⊥
AreSettled number lists (c ∷ cs) [] = ⊥
AreSettled number lists (c ∷ cs) (r ∷ rs) = Settles number c lists r × AreSettled (suc number) lists cs rs

-- memory was refused for one of the lanes
abbrev pub IsRefused : List (Result (List Done) LaneFault) → Type 0
IsRefused settled = Any (λ r. r ≡ Err OutOfMemory) settled

-- the first of these that is listed of none of this many lanes
pub record IsOutIn (lanes : ℕ) (calls : List Listed) (index : ℕ) : Type 0 where
  pub call : Listed
  pub at : slice_get calls index ≡ Some call
  pub past : lanes ≤ call.lane
  pub before : All (λ l. l.lane < lanes) (take index calls)

-- the call at this place is that
pub record IsOutAt (lanes : ℕ) (lists : List (List Listed)) (place : ListPlace) : Type 0 where
  pub place_is : IsPlace lists place
  pub first : IsOutIn lanes (all_in lists) (index_of lists place)

-- the place at which what came of a lane is strange
abbrev pub place_in : Result (List Done) LaneFault → Option ListPlace
place_in (Ok dones) = None
place_in (Err OutOfMemory) = None
place_in (Err (Strange place)) = Some place
place_in (Err (Unlisted position)) = None

-- a place is not after another
abbrev pub IsNotBehind : ListPlace → ListPlace → Type 0
IsNotBehind p q = (p.pass < q.pass) ⊎ ((p.pass ≡ q.pass) × (p.call ≤ q.call))

-- the first of the places at which what came of lanes is strange, and of another place
pub record IsFirstPlace (other : Option ListPlace) (settled : List (Result (List Done) LaneFault)) (p : ListPlace) : Type 0 where
  pub is : (other ≡ Some p) ⊎ ((lane : ℕ) × (slice_get settled lane ≡ Some (Err (Strange p))))
  pub before_other : (q : ListPlace) → other ≡ Some q → IsNotBehind p q
  pub before : (lane : ℕ) (q : ListPlace) → slice_get settled lane ≡ Some (Err (Strange q)) → IsNotBehind p q

-- nothing that came of lanes is strange
abbrev pub IsNoneStrange : List (Result (List Done) LaneFault) → Type 0
IsNoneStrange settled = (lane : ℕ) (q : ListPlace) → slice_get settled lane ≢ Some (Err (Strange q))

-- that place, or none if there is none
abbrev pub FindsFirst : Option ListPlace → List (Result (List Done) LaneFault) → Option ListPlace → Type 0
FindsFirst other settled None = (other ≡ None) × IsNoneStrange settled
FindsFirst other settled (Some p) = IsFirstPlace other settled p

-- the first of two places, or the one that there is
abbrev pub IsEarlier : Option ListPlace → ListPlace → ListPlace → Type 0
IsEarlier None place result = result ≡ place
IsEarlier (Some first) place result = ((result ≡ first) ⊎ (result ≡ place)) × IsNotBehind result first × IsNotBehind result place

-- a lane is the first that is not settled, and none is strange
pub record IsFirstOpen (settled : List (Result (List Done) LaneFault)) (lane position : ℕ) : Type 0 where
  pub done : List (List Done)
  pub rest : List (Result (List Done) LaneFault)
  pub split : settled ≡ map Ok done ++ Err (Unlisted position) ∷ rest
  pub number : lane ≡ length done

-- why a lane was not settled, if no call is strange
abbrev pub IsFaultOf : ℕ → LaneFault → FinishFault → Type 0
IsFaultOf lane OutOfMemory fault = fault ≡ ends.OutOfMemory
IsFaultOf lane (Unlisted position) fault = fault ≡ ends.Unlisted lane position
IsFaultOf lane (Strange place) fault = ⊥

-- why the lanes are not ended
abbrev pub LeavesOpen : List (Result (List Done) LaneFault) → FinishFault → Type 0
LeavesOpen settled ends.OutOfMemory = Unit {0}
LeavesOpen settled (ends.Unlisted lane position) = IsFirstOpen settled lane position
LeavesOpen settled _ = ⊥

-- why what passes list is not the lanes' own, or not all of it
abbrev pub IsNotOwn : List (List Noted) → List Ticket → FinishFault → Type 0
IsNotOwn recorded passes ends.OutOfMemory = Unit {0}
IsNotOwn recorded passes (ends.Strange caller call) = IsStrange recorded passes caller call
IsNotOwn recorded passes (ends.Unlisted lane position) = IsUnlisted recorded (calls_in passes) lane position
IsNotOwn recorded passes _ = ⊥

-- why lanes are not ended by passes, which go by their callers
pub record IsNoEnd (recorded : List (List Noted)) (passes : List Ticket) (fault : FinishFault) : Type 0 where
  pub order : List Ticket
  pub same : IsPermutation passes order
  pub sorted : IsNonDecreasingBy (λ p. p.caller) order
  pub why : IsNotOwn recorded order fault
