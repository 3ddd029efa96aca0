-- A shared cache, as contracts see it, and a call of it.
use Rattle.std.specs.Prelude.{◌≡◌, ◌≢◌, ℕ, ◌<◌, ◌≤◌, List, ◌++◌, ◌∷◌, [], length, Any, Some, None}
use Rattle.record_pages.specs.Sizes.{IsPageSize}
use Rattle.record_pages.specs.Table.{first_faulty}
use Rattle.mover.specs.Store.{IsTooSmall}
use Rattle.shared_cache.specs.declared.open_cache_fault.OpenCacheFault.{OpenCacheFault}
use Rattle.shared_cache.specs.declared.open_cache_fault.OpenCacheFault.TheVariants.{ConfigFault, NoCallers, DeviceCount, WrongPage, DeviceTooSmall, OutOfMemory}
use Rattle.record_pages.specs.declared.config.Config.{Config}
use Rattle.record_pages.specs.declared.layout.Layout.{Layout}
use Rattle.history_recorder.specs.declared.operation.Operation.{Operation}
use Rattle.history_recorder.specs.Operations.{key_of, lane_of_key}
use Rattle.shared_cache.specs.declared.response.Response.{Response}
use Rattle.shared_cache.specs.declared.act_fault.ActFault.{ActFault}
use Rattle.shared_cache.specs.declared.act_fault.ActFault.TheVariants as acts
use Rattle.shared_cache.specs.declared.call_fault.CallFault.{CallFault}
use Rattle.shared_cache.specs.declared.call_fault.CallFault.TheVariants as calls
use Rattle.shared_cache.specs.Acts.{listing}
use Rattle.shared_cache.specs.Passes.{Ticket, IsEnd}
use Rattle.shared_cache.specs.Stamps.{ClockId}

-- a cache: its clock, its numbers, and how many callers it has
pub record Cache : Type 0 where
  pub clock : ClockId
  pub layout : Layout
  pub callers : ℕ

-- A call was made, and gave this: its pass lists one call more, last, of the lane of its key, at some position there. It
-- started above all that the pass had seen, was done above its start, and ended where the pass has seen the clock last.
pub record IsMade (layout : Layout) (operation : Operation) (old : Ticket) (outcome : Response) (new : Ticket) : Type 0 where
  pub position : ℕ
  pub start : ℕ
  pub point : ℕ
  pub listed : new.calls ≡ old.calls ++ listing (lane_of_key layout (key_of operation)) position old.caller start point new.sight.seen operation outcome ∷ []
  pub started : old.sight.seen < start
  pub acted : start < point
  pub ended : IsEnd point new.sight.seen

-- the same caller at the same clock, and nothing that was seen is forgotten
pub record KeepsTie (old new : Ticket) : Type 0 where
  pub caller : new.caller ≡ old.caller
  pub clock : new.sight.clock ≡ old.sight.clock
  pub seen : old.sight.seen ≤ new.sight.seen

-- the refusal of a call whose act in this lane was refused so
abbrev pub fault_in : ℕ → ActFault → CallFault
fault_in lane (acts.HistoryLost position found) = calls.HistoryLost lane position found
fault_in lane acts.HistoryFull = calls.HistoryFull
fault_in lane acts.ClockFull = calls.ClockFull
fault_in lane acts.OutOfMemory = calls.OutOfMemory

-- a cache can be opened so over these devices, memory aside
pub record CanShare {D : Type 0} (size : ℕ) (pages : D → ℕ) (config : Config) (devices : List D) (callers : ℕ) : Type 0 where
  pub numbers : first_faulty config ≡ None
  pub some_callers : 0 < callers
  pub one_each : length devices ≡ config.lanes
  pub page_size : IsPageSize size
  pub large : ¬ Any (λ d. IsTooSmall config (pages d)) devices

-- When each refusal of an opening comes: the first of these tests that fails; want of memory after all.
abbrev pub ExplainsOpening : {D : Type 0} → ℕ → (D → ℕ) → Config → List D → ℕ → OpenCacheFault → Type 0
ExplainsOpening size pages config devices callers (ConfigFault field) = first_faulty config ≡ Some field
ExplainsOpening size pages config devices callers NoCallers = (first_faulty config ≡ None) × (callers ≡ 0)
ExplainsOpening size pages config devices callers DeviceCount =
    (first_faulty config ≡ None) × (0 < callers) × (length devices ≢ config.lanes)
ExplainsOpening size pages config devices callers WrongPage =
    (first_faulty config ≡ None) × (0 < callers) × (length devices ≡ config.lanes) × (¬ IsPageSize size)
ExplainsOpening size pages config devices callers DeviceTooSmall =
    (first_faulty config ≡ None) × (0 < callers) × (length devices ≡ config.lanes) × IsPageSize size × Any (λ d. IsTooSmall config (pages d)) devices
ExplainsOpening size pages config devices callers OutOfMemory = CanShare size pages config devices callers
