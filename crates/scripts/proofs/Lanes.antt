-- Over a device that never fails the relations of a lane's steps are their functions.
use Rattle.std.proofs.Common.{◌≡◌, ◌≢◌, ◌<◌, ℕ, ◌%◌, eqb, List, [], ◌∷◌, Bool, true, false, Ok, refl, sym, ap, ◌∙◌, arith, inl, inr, if◌then◌else◌}
use Rattle.std.proofs.lemmas.Bool.{cases_Bool, eqb-true, eq-eqb}
use Rattle.page_device.specs.Device.{faults_after}
use Rattle.record_pages.specs.declared.answer.Answer.{Answer}
use Rattle.record_pages.specs.declared.answer.Answer.TheVariants.{Hit, Miss}
use Rattle.record_pages.specs.declared.miss_cause.MissCause.TheVariants.{Absent, Expired, Fault, Damaged}
use Rattle.klog.specs.Log.{Shape}
use Rattle.klog.specs.Shown.{place_in}
use Rattle.mover.specs.Lane.{LaneState}
use Rattle.mover.specs.Get.{Step, StepGives, is_fault}
use Rattle.mover.specs.Put.{IsStep}
use Rattle.mover.specs.Flush.{LaneFlushes, flush_step, seal_step, write_step, log_flushed}
use Rattle.mover.specs.Whole.{MoveGives, move_step, is_failed}
use Rattle.mover.specs.declared.moved_whole.MovedWhole.{MovedWhole}
use Rattle.mover.specs.declared.moved_whole.MovedWhole.TheVariants as moved
use Rattle.policy_laws.specs.declared.choice.Choice.{Choice}
use Rattle.policy_laws.specs.declared.job.Job.{Job}
use Rattle.record_pages.specs.Recs.{Rec}
use Rattle.klog.specs.declared.flushed.Flushed.{Flushed}
use Rattle.klog.specs.declared.flushed.Flushed.TheVariants as flushed
use Rattle.klog.specs.Append.{sealed}
use Rattle.klog.specs.Flush.{is_page_lost, moved_on}

-- no failure was counted, so there was none
pub none_failed : (failed : Bool) → 0 ≡ faults_after 0 failed → failed ≡ false
none_failed false same = refl
none_failed true same = absurd (omega (arith, same))

-- a get that met no fault is its step
pub get_is_step : (step : Step Answer) (needs : Type 0) (old new : LaneState) (answer : Answer) → is_fault (Ok answer) ≡ false → StepGives step needs old answer new → IsStep step answer new
get_is_step step needs old new (Hit value tier) unfailed gives = gives
get_is_step step needs old new (Miss Absent) unfailed gives = gives
get_is_step step needs old new (Miss Expired) unfailed gives = gives
get_is_step step needs old new (Miss Fault) unfailed gives = cc
get_is_step step needs old new (Miss Damaged) unfailed gives = absurd gives

one_lane : (hash lanes : ℕ) → lanes ≡ 1 → hash % lanes ≡ 0
one_lane hash lanes one = rw one (omega arith)

-- if there is one lane, each key is of it
pub all_of_one : (shape : Shape) (key : List ℕ) → shape.lanes ≡ 1 → (place_in shape key).lane ≡ 0
all_of_one shape key one = one_lane _ shape.lanes one

seals : (lane : LaneState) (pages : List (List Rec)) → pages ≢ [] → seal_step lane pages ≡ log_flushed lane flushed.Sealed (sealed lane.log)
seals lane [] some = absurd (some refl)
seals lane (page ∷ pages) some = refl

other_eqb : (m n : ℕ) → m < n → eqb m n ≡ false
other_eqb m n less = elim (cases_Bool (eqb m n)) [
  | inl same ↦ let e = eqb-true m n same in absurd (omega (arith, e, less))
  | inr other ↦ other
]

writes : (lane : LaneState) → (lane.log.done ≡ 0 → lane.log.stored < lane.log.shape.segments) → write_step lane ≡ log_flushed lane flushed.Wrote (moved_on lane.log)
writes lane below = elim (cases_Bool (eqb lane.log.done 0)) [
  | inl none ↦
      let less = below (eqb-true lane.log.done 0 none) in
      let other : eqb lane.log.stored lane.log.shape.segments ≡ false = other_eqb lane.log.stored lane.log.shape.segments less in
      rw (none, other) refl
  | inr some ↦ rw some refl
]

fills : (lane : LaneState) → lane.log.done ≡ 0 → lane.log.stored ≡ lane.log.shape.segments → write_step lane ≡ log_flushed lane flushed.LogFull lane.log
fills lane none all = rw (eq-eqb lane.log.done 0 none, eq-eqb lane.log.stored lane.log.shape.segments all) refl

filling_seals : (lane : LaneState) → lane.log.filling ≢ [] → seal_step lane lane.log.filling ≡ log_flushed lane flushed.Sealed (sealed lane.log)
filling_seals lane some = seals lane lane.log.filling some

-- a flush step that lost no page is its function
pub flush_is_step : (old new : LaneState) (answer : Flushed) → is_page_lost answer ≡ false → LaneFlushes old answer new → IsStep (flush_step old) answer new
flush_is_step old new flushed.Nothing unfailed gives =
    let is : flush_step old ≡ log_flushed old flushed.Nothing old.log = rw (gives.0.idle, gives.0.empty) refl in
    (ap (λ (s : Step Flushed). s.reply) (sym is), gives.1 ∙ ap (λ k. record old { log = k }) gives.0.same ∙ ap (λ (s : Step Flushed). s.lane) (sym is))
flush_is_step old new flushed.Sealed unfailed gives =
    let is : flush_step old ≡ log_flushed old flushed.Sealed (sealed old.log) = ap (λ flushing. if flushing then write_step old else seal_step old old.log.filling) gives.0.idle ∙ filling_seals old gives.0.some in
    (ap (λ (s : Step Flushed). s.reply) (sym is), gives.1 ∙ ap (λ k. record old { log = k }) gives.0.left ∙ ap (λ (s : Step Flushed). s.lane) (sym is))
flush_is_step old new flushed.LogFull unfailed gives =
    let is : flush_step old ≡ log_flushed old flushed.LogFull old.log = ap (λ flushing. if flushing then write_step old else seal_step old old.log.filling) gives.0.flushing ∙ fills old gives.0.first gives.0.full in
    (ap (λ (s : Step Flushed). s.reply) (sym is), gives.1 ∙ ap (λ k. record old { log = k }) gives.0.same ∙ ap (λ (s : Step Flushed). s.lane) (sym is))
flush_is_step old new flushed.Wrote unfailed gives =
    let is : flush_step old ≡ log_flushed old flushed.Wrote (moved_on old.log) = ap (λ flushing. if flushing then write_step old else seal_step old old.log.filling) gives.0.0.0 ∙ writes old gives.0.0.1 in
    (ap (λ (s : Step Flushed). s.reply) (sym is), gives.1 ∙ ap (λ k. record old { log = k }) gives.0.1 ∙ ap (λ (s : Step Flushed). s.lane) (sym is))
flush_is_step old new flushed.PageLost unfailed gives = cc

-- a move that lost no page and wrote its set is its function
pub move_is_step : (size least : ℕ) (plan_of : Job → List Choice) (old new : LaneState) (answer : MovedWhole) → is_failed (Ok answer) ≡ false → MoveGives size least plan_of old answer new → IsStep (move_step size least plan_of old) answer new
move_is_step size least plan_of old new moved.Nothing unfailed gives = gives
move_is_step size least plan_of old new moved.Busy unfailed gives = gives
move_is_step size least plan_of old new moved.Freed unfailed gives = gives
move_is_step size least plan_of old new moved.Readmitted unfailed gives = gives
move_is_step size least plan_of old new moved.Dropped unfailed gives = gives
move_is_step size least plan_of old new moved.Written unfailed gives = gives
move_is_step size least plan_of old new moved.PageLost unfailed gives = cc
move_is_step size least plan_of old new moved.Forgotten unfailed gives = cc
