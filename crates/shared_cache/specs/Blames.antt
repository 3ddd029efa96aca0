-- Why the calls that passes list are not just those that lanes recorded: by the number of the first that is amiss.
use Rattle.std.specs.Prelude.{◌≡◌, ℕ, zero, suc, ◌+◌, ◌<◌, List, [], ◌∷◌, ◌++◌, Option, Some, None, All, length, take, slice_get}
use Rattle.std.specs.List.{Contains, flat_map}
use Rattle.recorded_lane.specs.declared.noted.Noted.{Noted}
use Rattle.shared_cache.specs.declared.finish_fault.FinishFault.{FinishFault}
use Rattle.shared_cache.specs.declared.finish_fault.FinishFault.TheVariants.{MissingPass, Strange, OutOfMemory, LaneLost, Unlisted}
use Rattle.shared_cache.specs.Listed.{Listed}
use Rattle.shared_cache.specs.Passes.{Ticket}
use Rattle.shared_cache.specs.Finished.{IsLeastMissing}

-- the call that stands at a position of a lane
abbrev pub recorded_at : List (List Noted) → ℕ → ℕ → Option Noted
recorded_at [] lane position = None
recorded_at (calls ∷ rest) zero position = slice_get calls position
recorded_at (calls ∷ rest) (suc lane) position = recorded_at rest lane position

-- the calls that passes list, pass after pass
abbrev pub calls_in : List Ticket → List Listed
calls_in passes = flat_map (λ p. p.calls) passes

-- a call is listed of this position of this lane
abbrev pub IsOfPlace : ℕ → ℕ → Listed → Type 0
IsOfPlace lane position l = (l.lane ≡ lane) × (l.position ≡ position)

-- none of these is
abbrev pub IsFree : List Listed → ℕ → ℕ → Type 0
IsFree calls lane position = All (λ l. ¬ IsOfPlace lane position l) calls

-- A listed call, after these, is its lane's own: it stands where it is listed, and none before it is listed of that place.
pub record IsOwn (recorded : List (List Noted)) (before : List Listed) (l : Listed) : Type 0 where
  pub stands : recorded_at recorded l.lane l.position ≡ Some l.call
  pub once : IsFree before l.lane l.position

-- each of these is
abbrev pub AreOwn : List (List Noted) → List Listed → Type 0
AreOwn recorded calls = (k : ℕ) (l : Listed) → slice_get calls k ≡ Some l → IsOwn recorded (take k calls) l

-- the call at this place is the first that is not
pub record IsFirstStrange (recorded : List (List Noted)) (calls : List Listed) (place : ℕ) : Type 0 where
  pub call : Listed
  pub at : slice_get calls place ≡ Some call
  pub before : AreOwn recorded (take place calls)
  pub strange : ¬ IsOwn recorded (take place calls) call

-- the first call that is not its lane's own is this one of this caller's pass
pub record IsStrange (recorded : List (List Noted)) (passes : List Ticket) (caller call : ℕ) : Type 0 where
  pub before : List Ticket
  pub pass : Ticket
  pub after : List Ticket
  pub order : passes ≡ before ++ pass ∷ after
  pub of : pass.caller ≡ caller
  pub within : call < length pass.calls
  pub first : IsFirstStrange recorded (calls_in passes) (length (calls_in before) + call)

-- the call at this position of this lane is the first, by lane and position, that none of these lists
pub record IsUnlisted (recorded : List (List Noted)) (calls : List Listed) (lane position : ℕ) : Type 0 where
  pub call : Noted
  pub stands : recorded_at recorded lane position ≡ Some call
  pub free : IsFree calls lane position
  pub lanes_before : (l p : ℕ) (n : Noted) → l < lane → recorded_at recorded l p ≡ Some n → ¬ IsFree calls l p
  pub before : (p : ℕ) → p < position → ¬ IsFree calls lane p

-- this caller's pass lists a call at this place
pub record IsListed (passes : List Ticket) (caller call : ℕ) : Type 0 where
  pub pass : Ticket
  pub given : Contains passes pass
  pub of : pass.caller ≡ caller
  pub within : call < length pass.calls

-- no pass lists a call of this position of this lane, which is one of this many
pub record IsListedByNone (lanes : ℕ) (passes : List Ticket) (lane position : ℕ) : Type 0 where
  pub of : lane < lanes
  pub free : IsFree (calls_in passes) lane position

-- Why a cache of this many callers and lanes is not finished by these passes, as far as they tell.
abbrev pub Blames : ℕ → ℕ → List Ticket → FinishFault → Type 0
Blames callers lanes passes (MissingPass caller) = IsLeastMissing callers passes caller
Blames callers lanes passes (Strange caller call) = IsListed passes caller call
Blames callers lanes passes OutOfMemory = Unit {0}
Blames callers lanes passes (LaneLost lane) = lane < lanes
Blames callers lanes passes (Unlisted lane position) = IsListedByNone lanes passes lane position
