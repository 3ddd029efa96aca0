-- What a lane has of a key that a get says is absent: nothing.
use Rattle.std.proofs.Common.{◌≡◌, ℕ, List, Option, Some, None, refl, sym, ap, subst}
use Rattle.std.specs.Option.{option_map}
use Rattle.std.specs.Prelude.{Result, Ok}
use Rattle.std.specs.declared.alloc.AllocError.{AllocError}
use Rattle.record_pages.specs.Expiry.{value_at}
use Rattle.record_pages.specs.Recs.{Rec}
use Rattle.record_pages.specs.declared.answer.Answer.{Answer}
use Rattle.record_pages.specs.declared.answer.Answer.TheVariants.{Miss}
use Rattle.record_pages.specs.declared.miss_cause.MissCause.TheVariants.{Absent}
use Rattle.record_pages.specs.declared.tier.Tier.{Tier}
use Rattle.record_pages.specs.declared.tier.Tier.TheVariants.{Memory, Log, Set}
use Rattle.record_pages.specs.declared.timed_value.TimedValue.{TimedValue}
use Rattle.memory_cache.specs.MemoryList.{value_in, after_get}
use Rattle.klog.specs.Shown.{newest_with, place_in}
use Rattle.kset.specs.Sets.{hit_in}
use Rattle.kset.specs.Shown.{first_visible}
use Rattle.mover.specs.Get.{GetGives, found_step, set_step, log_step, memory_step, lane_lowered, answer_of}
use Rattle.mover.specs.Lane.{LaneState}
use Rattle.mover.specs.Timed.{first_timed, log_timed, memory_timed}
use Rattle.mover.specs.declared.answer_kind.AnswerKind.{AnswerKind}
use Rattle.mover.specs.declared.answer_kind.AnswerKind.TheVariants as seen

pub ok_same : {A : Type 0} {x y : A} → ◌≡◌ {A = Result A AllocError} (Ok x) (Ok y) → x ≡ y
ok_same same = cc

-- what is found is not said to be absent
not_absent : (found : Option (List ℕ)) (tier : Tier) (lane after : LaneState) → (found_step found tier lane after).reply ≡ Miss Absent → ⊥
not_absent (Some value) tier lane after is = cc
not_absent None tier lane after is = cc

set_has_none : (n moment : ℕ) (lane : LaneState) (found : Option (ℕ × Rec)) → (set_step n moment lane found).reply ≡ Miss Absent → option_map (λ (x : ℕ × Rec). x.1.value) found ≡ None
set_has_none n moment lane None is = refl
set_has_none n moment lane (Some x) is = absurd (not_absent (value_at moment x.1.value) Set lane (record lane { sets = hit_in lane.sets n x.0 }) is)

log_has_none : (key : List ℕ) (moment : ℕ) (lane : LaneState) (found : Option (_ × Rec)) → (log_step key moment lane found).reply ≡ Miss Absent → log_timed key lane found ≡ None
log_has_none key moment lane None is = set_has_none (place_in lane.log.shape key).set moment lane (first_visible (lane.visible (place_in lane.log.shape key).set) key) is
log_has_none key moment lane (Some x) is = absurd (not_absent (value_at moment x.1.value) Log lane (lane_lowered lane x.0) is)

memory_has_none : (key : List ℕ) (moment : ℕ) (lane : LaneState) (found : Option TimedValue) → (memory_step key moment lane found).reply ≡ Miss Absent → memory_timed key lane found ≡ None
memory_has_none key moment lane None is = log_has_none key moment lane (newest_with lane.live key) is
memory_has_none key moment lane (Some v) is = absurd (not_absent (value_at moment v) Memory lane (record lane { memory = after_get key lane.memory }) is)

pub absent_is_nowhere : (key : List ℕ) (moment : ℕ) (answer : Answer) (old new : LaneState) → GetGives key moment old answer new → answer ≡ Miss Absent → first_timed key old ≡ None
absent_is_nowhere key moment answer old new gives is =
    let told : GetGives key moment old (Miss Absent) new = subst (λ (a : Answer). GetGives key moment old a new) is gives in
    memory_has_none key moment old (value_in key old.memory.pairs) (sym told.0)

-- the same of a get into a buffer
pub absent_into_is_nowhere : (key : List ℕ) (moment : ℕ) (answer : AnswerKind) (buffer : List ℕ) (old new : LaneState) → GetGives key moment old (answer_of answer buffer) new → answer ≡ seen.Miss Absent → first_timed key old ≡ None
absent_into_is_nowhere key moment answer buffer old new gives is = absent_is_nowhere key moment (answer_of answer buffer) old new gives (ap (λ (a : AnswerKind). answer_of a buffer) is)
