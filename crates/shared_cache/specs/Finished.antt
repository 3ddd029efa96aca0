-- The history of a cache that is over, by the calls that its passes list.
use Rattle.std.specs.Prelude.{◌≡◌, ℕ, ◌<◌, List, Bool, true, false, All, sum_by, length, ◌==◌}
use Rattle.std.specs.List.{list_any}
use Rattle.trace_file.specs.declared.call.Call.{Call}
use Rattle.certificate_checker.specs.declared.done.Done.{Done}
use Rattle.certificate_checker.specs.Lanes.{Stamped, stamp, stamped, PointsRise, IsLaidOut}
use Rattle.shared_cache.specs.Listed.{Listed}
use Rattle.shared_cache.specs.Passes.{Ticket}

-- a listed call as a done one
abbrev pub done_of : Listed → Done
done_of l = record {
  call = record { caller = l.call.caller; start = l.call.start; end = l.end; key = l.call.key; act = l.call.act };
  point = l.call.point;
}

-- listed calls, each weighed with its lane's number and all added up
abbrev pub weigh_calls : (Stamped → ℕ) → List Listed → ℕ
weigh_calls h calls = sum_by (λ l. h (stamp l.lane (done_of l))) calls

-- the calls that passes list, each weighed with its lane's number and all added up
abbrev pub weigh_passes : (Stamped → ℕ) → List Ticket → ℕ
weigh_passes h passes = sum_by (λ p. weigh_calls h p.calls) passes

-- a pass of the caller is among these
abbrev pub has_pass : List Ticket → ℕ → Bool
has_pass passes caller = list_any (λ p. p.caller == caller) passes

-- the least caller, of this many, with no pass among these
pub record IsLeastMissing (callers : ℕ) (passes : List Ticket) (caller : ℕ) : Type 0 where
  pub below : caller < callers
  pub missing : has_pass passes caller ≡ false
  pub least : (other : ℕ) → other < caller → has_pass passes other ≡ true

-- A history and its certificate are those of a cache with this many lanes, by these passes. The lanes' calls are the calls
-- that the passes list, each in its lane and with its end, each once: they weigh the same, however calls are weighed. In
-- each lane points rise, and the lanes are laid out by point and lane.
pub record IsFinished (number : ℕ) (passes : List Ticket) (history : List Call) (certificate : List ℕ) : Type 0 where
  pub lanes : List (List Done)
  pub count : length lanes ≡ number
  pub listed : (h : Stamped → ℕ) → sum_by h (stamped lanes) ≡ weigh_passes h passes
  pub points_rise : All PointsRise lanes
  pub laid_out : IsLaidOut lanes history certificate
