-- What a step of upkeep does, and what is done in help.
use Rattle.std.specs.Prelude.{◌≡◌, ◌≤◌, ◌⊎◌, ℕ, zero, suc, List, Option, Some, None, Bool, true, false, Ok, Err}
use Rattle.policy_laws.specs.declared.choice.Choice.{Choice}
use Rattle.policy_laws.specs.declared.job.Job.{Job}
use Rattle.klog.specs.declared.flushed.Flushed.{Flushed}
use Rattle.klog.specs.declared.flushed.Flushed.TheVariants as flushed
use Rattle.klog.specs.Usage.{usage_of}
use Rattle.mover.specs.declared.moved_whole.MovedWhole.{MovedWhole}
use Rattle.mover.specs.declared.moved_whole.MovedWhole.TheVariants as moved
use Rattle.mover.specs.Calls.{StoreFlushes, StoreMoves}
use Rattle.service_lane.specs.declared.due.Due.{Due}
use Rattle.service_lane.specs.declared.due.Due.TheVariants as due
use Rattle.service_lane.specs.Dueness.{due_of, is_near_end}
use Rattle.service_lane.specs.declared.upkept.Upkept.{Upkept}
use Rattle.service_lane.specs.declared.upkept.Upkept.TheVariants as upkept
use Rattle.service_lane.specs.declared.helped.Helped.{Helped}
use Rattle.service_lane.specs.declared.helped.TheConstants.{MAX_HELP_STEPS}
use Rattle.service_lane.specs.Counting.{counts_flush, counts_move, counts_refused_move, counts_step, counts_help, CountsHelps}
use Rattle.service_lane.specs.Serving.{Serving}

-- what is due in a lane
abbrev pub due_in : {D : Type 0} → Serving D → Option Due
due_in s = due_of (usage_of s.store.log)

-- the lane is near the end of its room
abbrev pub is_lane_near_end : {D : Type 0} → Serving D → Bool
is_lane_near_end s = is_near_end (usage_of s.store.log)

-- a page was written, or lost
abbrev pub IsPageDone : Flushed → Type 0
IsPageDone flushed.Wrote = Unit {0}
IsPageDone flushed.PageLost = Unit {0}
IsPageDone flushed.Nothing = ⊥
IsPageDone flushed.Sealed = ⊥
IsPageDone flushed.LogFull = ⊥

-- whether a move may have asked the device
abbrev pub may_move_ask : MovedWhole → Bool
may_move_ask moved.Nothing = false
may_move_ask moved.Busy = false
may_move_ask moved.Freed = false
may_move_ask moved.Readmitted = true
may_move_ask moved.Dropped = true
may_move_ask moved.PageLost = true
may_move_ask moved.Written = true
may_move_ask moved.Forgotten = true

-- whether a step may have asked the device
abbrev pub may_ask : Upkept → Bool
may_ask upkept.Idle = false
may_ask (upkept.Flushed flushed) = true
may_ask (upkept.Moved moved) = may_move_ask moved
may_ask upkept.OutOfMemory = true

-- a page was due, and is done
pub record Flushes {D : Type 0} (honest : D → Bool) (failures : D → ℕ) (held : D → ℕ → Option (List ℕ)) (old : Serving D) (answer : Flushed) (new : Serving D) : Type 0 where
  pub due : due_in old ≡ Some due.Flush
  pub done : IsPageDone answer
  pub rest : new ≡ record old { store = new.store; counts = counts_flush answer (counts_step old.counts) }
  pub flushes : StoreFlushes honest failures held old.store answer new.store

-- a move was due, and is done
pub record Moves {D : Type 0} (size : ℕ) (honest : D → Bool) (failures : D → ℕ) (held : D → ℕ → Option (List ℕ)) (plan_of : Job → List Choice) (old : Serving D) (answer : MovedWhole) (new : Serving D) : Type 0 where
  pub due : due_in old ≡ Some due.Move
  pub rest : new ≡ record old { store = new.store; counts = counts_move answer (counts_step old.counts) }
  pub moves : StoreMoves size honest failures held plan_of old.store (Ok answer) new.store

-- a move was due, and memory was refused
pub record LacksMemory {D : Type 0} (size : ℕ) (honest : D → Bool) (failures : D → ℕ) (held : D → ℕ → Option (List ℕ)) (plan_of : Job → List Choice) (old new : Serving D) : Type 0 where
  pub due : due_in old ≡ Some due.Move
  pub rest : new ≡ record old { store = new.store; counts = counts_refused_move (counts_step old.counts) }
  pub moves : StoreMoves size honest failures held plan_of old.store (Err (record {})) new.store

-- A step of upkeep does what is due, and nothing if nothing is.
abbrev pub Upkeeps : {D : Type 0} → ℕ → (D → Bool) → (D → ℕ) → (D → ℕ → Option (List ℕ)) → (Job → List Choice) → Serving D → Upkept → Serving D → Type 0
Upkeeps size honest failures held plan_of old upkept.Idle new = (due_in old ≡ None) × (new ≡ old)
Upkeeps size honest failures held plan_of old (upkept.Flushed answer) new = Flushes honest failures held old answer new
Upkeeps size honest failures held plan_of old (upkept.Moved answer) new = Moves size honest failures held plan_of old answer new
Upkeeps size honest failures held plan_of old upkept.OutOfMemory new = LacksMemory size honest failures held plan_of old new

-- a step of upkeep in help, and whether the device may have been asked
pub record HelpsOnce {D : Type 0} (size : ℕ) (honest : D → Bool) (failures : D → ℕ) (held : D → ℕ → Option (List ℕ)) (plan_of : Job → List Choice) (old : Serving D) (asked : Bool) (new : Serving D) : Type 0 where
  pub did : Upkept
  pub between : Serving D
  pub upkept : Upkeeps size honest failures held plan_of old did between
  pub asked_is : asked ≡ may_ask did
  pub counted : new ≡ record between { counts = counts_help between.counts }

-- the last of this many steps in help: it was done if the lane was near its end
pub record LastHelp {D : Type 0} (size : ℕ) (honest : D → Bool) (failures : D → ℕ) (held : D → ℕ → Option (List ℕ)) (plan_of : Job → List Choice) (before : Serving D → Type 0) (asked : Bool) (new : Serving D) : Type 0 where
  pub old : Serving D
  pub so_far : before old
  pub near : is_lane_near_end old ≡ true
  pub once : HelpsOnce size honest failures held plan_of old asked new

-- this many steps in help: each if the lane was near its end, and after none that may have asked the device
abbrev pub HelpsSteps : {D : Type 0} → ℕ → (D → Bool) → (D → ℕ) → (D → ℕ → Option (List ℕ)) → (Job → List Choice) → ℕ → Serving D → Bool → Serving D → Type 0
HelpsSteps size honest failures held plan_of zero old asked new = (asked ≡ false) × (new ≡ old)
HelpsSteps size honest failures held plan_of (suc n) old asked new = LastHelp size honest failures held plan_of (λ s. HelpsSteps size honest failures held plan_of n old false s) asked new

-- What was done in help: so many steps, no more than may be; and the lane is not near its end then, or the last may have asked the
-- device, or no step more may be done. Deeds and slots stay, and the counters that steps leave; each step is counted, and the device
-- is as it was unless it may have been asked.
pub record Helps {D : Type 0} (size : ℕ) (honest : D → Bool) (failures : D → ℕ) (held : D → ℕ → Option (List ℕ)) (plan_of : Job → List Choice) (old : Serving D) (helped : Helped) (new : Serving D) : Type 0 where
  pub steps : HelpsSteps size honest failures held plan_of helped.steps old helped.asked_device new
  pub few : helped.steps ≤ MAX_HELP_STEPS
  pub enough : is_lane_near_end new ≡ true → (helped.asked_device ≡ true) ⊎ (helped.steps ≡ MAX_HELP_STEPS)
  pub rest : new ≡ record old { store = new.store; counts = new.counts }
  pub counted : CountsHelps helped.steps old.counts new.counts
  pub unasked : helped.asked_device ≡ false → new.store.device ≡ old.store.device
