-- Each call of a lane leaves its device as honest as it was, so it stays as the type of the lanes says.
use Rattle.std.proofs.Common.{◌≡◌, ℕ, zero, suc, List, Option, Bool, false, ap, sym, ◌∙◌, subst}
use Rattle.std.specs.Prelude.{IsTrue}
use Rattle.policy_laws.specs.declared.choice.Choice.{Choice}
use Rattle.policy_laws.specs.declared.job.Job.{Job}
use Rattle.record_pages.specs.declared.answer.Answer.{Answer}
use Rattle.record_pages.specs.declared.answer.Answer.TheVariants as answers
use Rattle.record_pages.specs.declared.tier.Tier.TheVariants.{Memory, Log, Set}
use Rattle.certificate_checker.specs.Deeds.{Deed}
use Rattle.mover.specs.declared.answer_kind.AnswerKind.{AnswerKind}
use Rattle.mover.specs.declared.answer_kind.AnswerKind.TheVariants as kinds
use Rattle.service_lane.specs.Asked.{IsLiveHit, TellsExpiry}
use Rattle.service_cache.specs.Calls.{HasExpiry, IsHit}
use Rattle.record_pages.specs.declared.pushed.Pushed.{Pushed}
use Rattle.record_pages.specs.Expiry.{timed}
use Rattle.service_lane.specs.declared.helped.Helped.{Helped}
use Rattle.service_lane.specs.declared.lease.Lease.{Lease}
use Rattle.service_lane.specs.declared.upkept.Upkept.{Upkept}
use Rattle.service_lane.specs.declared.upkept.Upkept.TheVariants as upkept
use Rattle.mover.specs.Store.{StoreState}
use Rattle.service_lane.specs.Copies.{GetsCopied, copy_pushed}
use Rattle.service_lane.specs.Serving.{Serving, Gets, PutsStore, FillsStore, Removes, asked_of}
use Rattle.service_lane.specs.declared.copied.Copied.{Copied}
use Rattle.service_lane.specs.declared.copied.Copied.TheVariants.{Nothing, Answered, Made}
use Rattle.service_lane.specs.Upkeep.{Upkeeps, HelpsOnce, HelpsSteps, Helps}
use Rattle.service_lane.proofs.public_laws.Returning.{back_device}
use Rattle.deed_book.specs.Registers.{Registered}
use Rattle.service_cache.specs.Seated.{IsAsSaid}

module _ {D : Type 0} (size : ℕ) (honest : D → Bool) (failures : D → ℕ) (held : D → ℕ → Option (List ℕ)) where
  -- the device of a lane is as honest as that of another
  abbrev pub IsAsHonest : Serving D → Serving D → Type 0
  IsAsHonest old new = honest new.store.device ≡ honest old.store.device

  pub gets_keep : (key : List ℕ) (moment : ℕ) (answer : Answer) (old new : Serving D) → Gets size honest failures held key moment answer old new → IsAsHonest old new
  gets_keep key moment answer old new gets = by gets.copied gets.gets
    where
      by : (copied : Copied) → GetsCopied size honest failures held copied key moment answer (asked_of old) (asked_of new) → IsAsHonest old new
      by Answered answers = ap (λ (s : StoreState D). honest s.device) answers.store
      by Nothing answers = answers.0.gets.reads.honesty
      by (Made fate) makes =
          ap honest (back_device size held (copy_pushed (record { key = key; value = timed makes.value makes.expires }) old.copies) makes.between fate new.store makes.pushes)
          ∙ makes.answers.gets.reads.honesty

  pub puts_keep : (key value : List ℕ) (expires word : ℕ) (pushed : Pushed) (old new : Serving D) → PutsStore size held (record { key = key; value = timed value expires }) word pushed old new → IsAsHonest old new
  puts_keep key value expires word pushed old new puts = ap honest puts.puts.device

  pub fills_keep : (key value : List ℕ) (expires word : ℕ) (lease : Lease) (pushed : Pushed) (old new : Serving D) → FillsStore size held (record { key = key; value = timed value expires }) word lease pushed old new → IsAsHonest old new
  fills_keep key value expires word lease pushed old new fills = ap honest fills.puts.device

  pub removes_keep : (key : List ℕ) (old new : Serving D) → Removes held key old new → IsAsHonest old new
  removes_keep key old new removes = ap honest removes.removes.device

  module _ (plan_of : Job → List Choice) where
    pub upkeeps_keep : (old : Serving D) (did : Upkept) (new : Serving D) → Upkeeps size honest failures held plan_of old did new → IsAsHonest old new
    upkeeps_keep old upkept.Idle new step = ap (λ (s : Serving D). honest s.store.device) step.1
    upkeeps_keep old (upkept.Flushed answer) new step = step.flushes.honesty
    upkeeps_keep old (upkept.Moved answer) new step = step.moves.honesty
    upkeeps_keep old upkept.OutOfMemory new step = step.moves.honesty

    -- a step of upkeep adds no deed
    pub upkeeps_deeds : (old : Serving D) (did : Upkept) (new : Serving D) → Upkeeps size honest failures held plan_of old did new → new.deeds ≡ old.deeds
    upkeeps_deeds old upkept.Idle new step = ap (λ (s : Serving D). s.deeds) step.1
    upkeeps_deeds old (upkept.Flushed answer) new step = ap (λ (s : Serving D). s.deeds) step.rest
    upkeeps_deeds old (upkept.Moved answer) new step = ap (λ (s : Serving D). s.deeds) step.rest
    upkeeps_deeds old upkept.OutOfMemory new step = ap (λ (s : Serving D). s.deeds) step.rest

    once_keeps : (old : Serving D) (asked : Bool) (new : Serving D) → HelpsOnce size honest failures held plan_of old asked new → IsAsHonest old new
    once_keeps old asked new step = ap (λ (s : Serving D). honest s.store.device) step.counted ∙ upkeeps_keep old step.did step.between step.upkept

    steps_keep : (n : ℕ) (old : Serving D) (asked : Bool) (new : Serving D) → HelpsSteps size honest failures held plan_of n old asked new → IsAsHonest old new
    steps_keep zero old asked new steps = ap (λ (s : Serving D). honest s.store.device) steps.1
    steps_keep (suc n) old asked new steps = once_keeps steps.old asked new steps.once ∙ steps_keep n old false steps.old steps.so_far

    pub helps_keep : (old : Serving D) (helped : Helped) (new : Serving D) → Helps size honest failures held plan_of old helped new → IsAsHonest old new
    helps_keep old helped new helps = steps_keep helped.steps old helped.asked_device new helps.steps

-- what is as said stays so if number and honesty stay
pub said_stays : (said : ℕ → Bool) (number now : ℕ) (was is : Bool) → now ≡ number → is ≡ was → (IsTrue (said number) → IsTrue was) → IsTrue (said now) → IsTrue is
said_stays said number now was is same_number same_honesty holds told =
    subst (λ (b : Bool). IsTrue b) (sym same_honesty) (holds (subst (λ (n : ℕ). IsTrue (said n)) same_number told))

-- the same of a lane with its register
pub said_kept : {D : Type 0} (said : ℕ → Bool) (honest : D → Bool) (old_register : Registered) (old : Serving D) (new_register : Registered) (new : Serving D) → new_register.number ≡ old_register.number → honest new.store.device ≡ honest old.store.device → IsAsSaid said honest old_register old → IsAsSaid said honest new_register new
said_kept said honest old_register old new_register new same_number same_honesty holds =
    said_stays said old_register.number new_register.number (honest old.store.device) (honest new.store.device) same_number same_honesty holds

module _ (said : ℕ → Bool) (lane_of : List ℕ → ℕ) (key : List ℕ) (number : ℕ) (honest : Bool) (ours : lane_of key ≡ number) (holds : IsTrue (said number) → IsTrue honest) where
  of_lane : IsTrue (said (lane_of key)) → IsTrue honest
  of_lane told = holds (subst (λ (n : ℕ). IsTrue (said n)) ours told)

  -- what is hit if the device is honest is hit if that is said of the key's lane
  pub hit_as_said : (list : List Deed) (moment : ℕ) (answer : Answer) → IsLiveHit (IsTrue honest) list key moment answer → IsHit said lane_of list key moment answer
  hit_as_said list moment (answers.Hit value Memory) live = live
  hit_as_said list moment (answers.Hit value Log) live = λ told. live (of_lane told)
  hit_as_said list moment (answers.Hit value Set) live = λ told. live (of_lane told)
  hit_as_said list moment (answers.Miss cause) live = tt

  -- and so is the expiry that is told with it
  pub expiry_as_said : (list : List Deed) (value : List ℕ) (seen : AnswerKind) → TellsExpiry (IsTrue honest) list key value seen → HasExpiry said lane_of list key value seen
  expiry_as_said list value (kinds.Hit Memory expires) has = has
  expiry_as_said list value (kinds.Hit Log expires) has = λ told. has (of_lane told)
  expiry_as_said list value (kinds.Hit Set expires) has = λ told. has (of_lane told)
  expiry_as_said list value (kinds.Miss cause) has = tt
