-- What a step of upkeep leaves: a page that was due is done, and a move that says so asked no device.
use Rattle.std.proofs.Common.{◌≡◌, ℕ, ◌-◌, Bool, true, false, ◌||◌, cond, ltb, List, length, Option, Some, None, refl, ap, sym, ◌∙◌, subst, arith, true≢false}
use Rattle.std.proofs.lemmas.Bool.{and_parts, ltb-true}
use Rattle.policy_laws.specs.declared.choice.Choice.{Choice}
use Rattle.policy_laws.specs.declared.job.Job.{Job}
use Rattle.admission.specs.declared.judgement.Judgement.{Judgement}
use Rattle.admission.specs.declared.judgement.Judgement.TheVariants as judgement
use Rattle.klog_index.specs.declared.entry.Entry.{Entry}
use Rattle.klog.specs.declared.flushed.Flushed.{Flushed}
use Rattle.klog.specs.declared.flushed.Flushed.TheVariants as flushed
use Rattle.klog.specs.declared.log_usage.LogUsage.{LogUsage}
use Rattle.klog.specs.declared.oldest.Oldest.{Oldest}
use Rattle.klog.specs.declared.oldest.Oldest.TheVariants as oldest
use Rattle.klog.specs.declared.readmitted.Readmitted.{Readmitted}
use Rattle.klog.specs.declared.readmitted.Readmitted.TheVariants as readmitted
use Rattle.klog.specs.Flush.{FlushGives}
use Rattle.klog.specs.Log.{LogState}
use Rattle.klog.specs.Usage.{usage_of}
use Rattle.mover.specs.Begin.{began_by, judged_in}
use Rattle.mover.specs.Calls.{MovingLeaves}
use Rattle.mover.specs.Flight.{most_flights, sets_in_flight}
use Rattle.mover.specs.Leaving.{EntryLeaves, GatheringLeaves, OldestLeaves, NextLeaves, RoomLeaves, BeginLeaves}
use Rattle.mover.specs.Oldest.{oldest_in}
use Rattle.mover.specs.Store.{StoreState, most_moves}
use Rattle.mover.specs.declared.begin.Begin.{Begin}
use Rattle.mover.specs.declared.begin.Begin.TheVariants as begin
use Rattle.mover.specs.declared.moved_whole.MovedWhole.{MovedWhole}
use Rattle.mover.specs.declared.moved_whole.MovedWhole.TheVariants as moved
use Rattle.service_lane.specs.declared.due.Due.TheVariants as due
use Rattle.service_lane.specs.Dueness.{can_flush, wants_move, due_of, is_near_end, is_nearly_filled, has_above}
use Rattle.service_lane.specs.declared.upkept.Upkept.{Upkept}
use Rattle.service_lane.specs.declared.upkept.Upkept.TheVariants as upkept
use Rattle.service_lane.specs.declared.counter.Counter.TheVariants as counter
use Rattle.service_lane.specs.Counting.{counter_of_flush, counter_of_move}
use Rattle.service_lane.proofs.StepCounts.{CountsStep, step_counted, work_of_flush, work_of_move}
use Rattle.service_lane.specs.Serving.{Serving}
use Rattle.service_lane.specs.Upkeep.{IsPageDone, may_move_ask, Upkeeps, due_in}
use Rattle.std.specs.Prelude.{is_some}

-- ---- a page that was due

-- if a page is due, one can be written
flushes : (b w : Bool) → cond b (Some due.Flush) (cond w (Some due.Move) None) ≡ Some due.Flush → b ≡ true
flushes true w is = refl
flushes false true is = absurd (cc)
flushes false false is = absurd (cc)

can_be_flushed : (u : LogUsage) → due_of u ≡ Some due.Flush → can_flush u ≡ true
can_be_flushed u is = flushes (can_flush u) (wants_move u) is

pub page_done : (k new : LogState) (answer : Flushed) → due_of (usage_of k) ≡ Some due.Flush → FlushGives k answer new → IsPageDone answer
page_done k new answer is gives = by_answer answer gives
  where
    parts : (k.is_flushing ≡ true) × (ltb 0 (k.shape.segments - k.stored) ≡ true)
    parts = and_parts k.is_flushing (ltb 0 (k.shape.segments - k.stored)) (can_be_flushed (usage_of k) is)

    by_answer : (a : Flushed) → FlushGives k a new → IsPageDone a
    by_answer flushed.Wrote g = tt
    by_answer flushed.PageLost g = tt
    by_answer flushed.Nothing g = absurd (true≢false (sym parts.0 ∙ g.idle))
    by_answer flushed.Sealed g = absurd (true≢false (sym parts.0 ∙ g.idle))
    by_answer flushed.LogFull g =
        let free = ltb-true 0 (k.shape.segments - k.stored) parts.1 in
        let full = g.full in
        absurd (omega (arith, free, full))

-- ---- a move that asked no device

-- what a move begins with, if it asks no device
abbrev asks_none : Begin → Bool
asks_none begin.Nothing = true
asks_none begin.Busy = true
asks_none begin.Freed = true
asks_none begin.Readmitted = false
asks_none begin.Dropped = false
asks_none begin.PageLost = false
asks_none (begin.Job job) = false

gathers_none : {D : Type 0} (size set : ℕ) (old new : StoreState D) (b : Begin) → asks_none b ≡ true → GatheringLeaves size set old b new → new.device ≡ old.device
gathers_none size set old new begin.Nothing asks leaves = absurd leaves
gathers_none size set old new begin.Busy asks leaves = absurd leaves
gathers_none size set old new begin.Freed asks leaves = absurd leaves
gathers_none size set old new begin.Readmitted asks leaves = absurd leaves
gathers_none size set old new begin.Dropped asks leaves = absurd leaves
gathers_none size set old new begin.PageLost asks leaves = absurd (true≢false (sym asks))
gathers_none size set old new (begin.Job job) asks leaves = absurd (true≢false (sym asks))

readmits_none : (a : Readmitted) → asks_none (began_by a) ≡ true → ⊥
readmits_none readmitted.Readmitted asks = true≢false (sym asks)
readmits_none readmitted.Dropped asks = true≢false (sym asks)
readmits_none readmitted.Fault asks = true≢false (sym asks)
readmits_none readmitted.Damaged asks = true≢false (sym asks)

entry_asks_none : {D : Type 0} (size : ℕ) (e : Entry) (j : Judgement) (old new : StoreState D) (b : Begin) → asks_none b ≡ true → EntryLeaves size e j old b new → new.device ≡ old.device
entry_asks_none size e judgement.Move old new b asks leaves = gathers_none size e.set old new b asks leaves
entry_asks_none size e judgement.Readmit old new b asks leaves = absurd (readmits_none leaves.answer (ap asks_none (sym leaves.told) ∙ asks))
entry_asks_none size e judgement.Drop old new b asks leaves = ap (λ s. s.device) leaves.1

oldest_asks_none : {D : Type 0} (size : ℕ) (o : Oldest) (old new : StoreState D) (b : Begin) → asks_none b ≡ true → OldestLeaves size o old b new → new.device ≡ old.device
oldest_asks_none size oldest.NoSegment old new b asks leaves = ap (λ s. s.device) leaves.1
oldest_asks_none size oldest.Empty old new b asks leaves = ap (λ s. s.device) leaves.1
oldest_asks_none size oldest.Passed old new b asks leaves = ap (λ s. s.device) leaves.1
oldest_asks_none size (oldest.First e) old new b asks leaves = entry_asks_none size e (judged_in old.layout.threshold old.log e) old new b asks leaves

next_asks_none : {D : Type 0} (size : ℕ) (few : Bool) (old new : StoreState D) (b : Begin) → asks_none b ≡ true → NextLeaves size few old b new → new.device ≡ old.device
next_asks_none size true old new b asks leaves = oldest_asks_none size (oldest_in (sets_in_flight old.flights) old.log) old new b asks leaves
next_asks_none size false old new b asks leaves = ap (λ s. s.device) leaves.1

room_asks_none : {D : Type 0} (size : ℕ) (few : Bool) (old new : StoreState D) (b : Begin) → asks_none b ≡ true → RoomLeaves size few old b new → new.device ≡ old.device
room_asks_none size true old new b asks leaves = next_asks_none size (ltb old.moves most_moves) old new b asks leaves
room_asks_none size false old new b asks leaves = ap (λ s. s.device) leaves.1

begin_asks_none : {D : Type 0} (size : ℕ) (old new : StoreState D) (b : Begin) → asks_none b ≡ true → BeginLeaves size old b new → new.device ≡ old.device
begin_asks_none size old new b asks leaves = room_asks_none size (ltb (length old.flights) most_flights) old new b asks leaves

pub moved_asks_none : {D : Type 0} (size : ℕ) (plan_of : Job → List Choice) (old new : StoreState D) (m : MovedWhole) → may_move_ask m ≡ false → MovingLeaves size plan_of old m new → new.device ≡ old.device
moved_asks_none size plan_of old new moved.Nothing asks leaves = begin_asks_none size old new begin.Nothing refl leaves
moved_asks_none size plan_of old new moved.Busy asks leaves = begin_asks_none size old new begin.Busy refl leaves
moved_asks_none size plan_of old new moved.Freed asks leaves = begin_asks_none size old new begin.Freed refl leaves
moved_asks_none size plan_of old new moved.Readmitted asks leaves = absurd (true≢false asks)
moved_asks_none size plan_of old new moved.Dropped asks leaves = absurd (true≢false asks)
moved_asks_none size plan_of old new moved.PageLost asks leaves = absurd (true≢false asks)
moved_asks_none size plan_of old new moved.Written asks leaves = absurd (true≢false asks)
moved_asks_none size plan_of old new moved.Forgotten asks leaves = absurd (true≢false asks)

-- ---- a step of upkeep

-- all stays but the store and the counts
abbrev pub OnlySteps : {D : Type 0} → Serving D → Serving D → Type 0
OnlySteps old new = new ≡ record old { store = new.store; counts = new.counts }

pub upkeep_rest : {D : Type 0} (size : ℕ) (honest : D → Bool) (failures : D → ℕ) (held : D → ℕ → Option (List ℕ)) (plan_of : Job → List Choice) (old new : Serving D) (did : Upkept) → Upkeeps size honest failures held plan_of old did new → OnlySteps old new
upkeep_rest size honest failures held plan_of old new upkept.Idle u = subst (λ s. OnlySteps old s) (sym u.1) refl
upkeep_rest size honest failures held plan_of old new (upkept.Flushed answer) u = subst (λ s. OnlySteps old s) (sym u.rest) refl
upkeep_rest size honest failures held plan_of old new (upkept.Moved answer) u = subst (λ s. OnlySteps old s) (sym u.rest) refl
upkeep_rest size honest failures held plan_of old new upkept.OutOfMemory u = subst (λ s. OnlySteps old s) (sym u.rest) refl

pub upkeep_counted : {D : Type 0} (size : ℕ) (honest : D → Bool) (failures : D → ℕ) (held : D → ℕ → Option (List ℕ)) (plan_of : Job → List Choice) (old new : Serving D) (did : Upkept) → Upkeeps size honest failures held plan_of old did new → is_some (due_in old) ≡ true → CountsStep old.counts new.counts
upkeep_counted size honest failures held plan_of old new upkept.Idle u some = absurd (true≢false (sym some ∙ ap is_some u.0))
upkeep_counted size honest failures held plan_of old new (upkept.Flushed answer) u some = subst (λ s. CountsStep old.counts s.counts) (sym u.rest) (step_counted (counter_of_flush answer) old.counts (work_of_flush answer))
upkeep_counted size honest failures held plan_of old new (upkept.Moved answer) u some = subst (λ s. CountsStep old.counts s.counts) (sym u.rest) (step_counted (counter_of_move answer) old.counts (work_of_move answer))
upkeep_counted size honest failures held plan_of old new upkept.OutOfMemory u some = subst (λ s. CountsStep old.counts s.counts) (sym u.rest) (step_counted (Some counter.MovesOutOfMemory) old.counts (omega arith, omega arith))

-- a lane that is near its end has something due
pub near_is_due : (u : LogUsage) → is_near_end u ≡ true → is_some (due_of u) ≡ true
near_is_due u near = (and_parts (is_some (due_of u)) (is_nearly_filled u || has_above 31 32 u) near).0
