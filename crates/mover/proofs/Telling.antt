-- What the log tells of a key ends a get, or its set is asked.
use Rattle.std.proofs.Common.{◌∙◌, ap, sym, ◌≡◌, ℕ, true, false, List, Option, Some, None, refl, subst}
use Rattle.std.specs.Prelude.{Ok}
use Rattle.set_hash.specs.declared.placed.Placed.{Placed}
use Rattle.record_pages.specs.Expiry.{value_at}
use Rattle.record_pages.specs.Recs.{Rec}
use Rattle.record_pages.specs.declared.answer.Answer.{Answer}
use Rattle.record_pages.specs.declared.answer.Answer.TheVariants.{Hit, Miss}
use Rattle.record_pages.specs.declared.miss_cause.MissCause.TheVariants.{Expired, Fault, Damaged}
use Rattle.record_pages.specs.declared.tier.Tier.TheVariants.{Log}
use Rattle.klog_index.specs.declared.entry.Entry.{Entry}
use Rattle.record_pages.specs.declared.looked.Looked.TheVariants as look
use Rattle.record_pages.specs.declared.looked.Looked.{Looked}
use Rattle.klog.specs.Look.{is_log_fault, IsInBuffers}
use Rattle.klog.specs.Shown.{place_in}
use Rattle.mover.specs.Asking.{LogLeaves, GetLeaves}
use Rattle.mover.specs.Calls.{AnswersFromBuffers, AnswersRecord, TellsRecord}
use Rattle.mover.specs.Get.{LogTells, NeedsFlashPage, StepGives, answer_of_log, ask_log, is_fault}
use Rattle.mover.specs.Lane.{LaneState}
use Rattle.mover.specs.Store.{StoreState}
use Rattle.mover.proofs.Getting.{hit_leaves, log_expired_gives, log_hit_gives, log_fault_gives}

abbrev given : Answer → Option Answer
given answer = Some answer

same_answer : (a b : Answer) → given a ≡ given b → a ≡ b
same_answer a b is = cc

-- a fault of the log is the answer's
pub log_faulty : (looked : Looked) (answer : Answer) → answer_of_log looked ≡ Some answer → is_log_fault (Ok looked) ≡ is_fault (Ok answer)
log_faulty (look.Hit value) answer is = subst (λ a. false ≡ is_fault (Ok a)) (same_answer (Hit value Log) answer is) refl
log_faulty look.Absent answer is = absurd cc
log_faulty look.Expired answer is = subst (λ a. false ≡ is_fault (Ok a)) (same_answer (Miss Expired) answer is) refl
log_faulty look.Fault answer is = subst (λ a. true ≡ is_fault (Ok a)) (same_answer (Miss Fault) answer is) refl
log_faulty look.Damaged answer is = subst (λ a. false ≡ is_fault (Ok a)) (same_answer (Miss Damaged) answer is) refl

-- what the log leaves is left by a get that it ends
pub ended_leaves : {D : Type 0} (key : List ℕ) (old mid : StoreState D) (at : Placed) → at ≡ place_in old.log.shape key → (looked : Looked) (answer : Answer) → answer_of_log looked ≡ Some answer → LogLeaves at looked old mid → GetLeaves key answer old mid
ended_leaves key old mid at placed (look.Hit value) answer is leaves =
    subst (λ a. GetLeaves key a old mid) (same_answer (Hit value Log) answer is) (hit_leaves key old mid at placed value (look.Hit value) refl leaves)
ended_leaves key old mid at placed look.Absent answer is leaves = absurd cc
ended_leaves key old mid at placed look.Expired answer is leaves = subst (λ a. GetLeaves key a old mid) (same_answer (Miss Expired) answer is) leaves
ended_leaves key old mid at placed look.Fault answer is leaves = subst (λ a. GetLeaves key a old mid) (same_answer (Miss Fault) answer is) leaves
ended_leaves key old mid at placed look.Damaged answer is leaves = subst (λ a. GetLeaves key a old mid) (same_answer (Miss Damaged) answer is) leaves

-- what ends a get is the answer of the tiers below memory
pub ended_gives : (key : List ℕ) (moment : ℕ) (old new : LaneState) (looked : Looked) (answer : Answer) → answer_of_log looked ≡ Some answer → LogTells key moment old looked new → StepGives (ask_log key moment old) (NeedsFlashPage key old) old answer new
ended_gives key moment old new (look.Hit value) answer is tells =
    subst (λ a. StepGives (ask_log key moment old) (NeedsFlashPage key old) old a new) (same_answer (Hit value Log) answer is) (log_hit_gives key moment value old new tells)
ended_gives key moment old new look.Expired answer is tells =
    subst (λ a. StepGives (ask_log key moment old) (NeedsFlashPage key old) old a new) (same_answer (Miss Expired) answer is) (log_expired_gives key moment old new tells)
ended_gives key moment old new look.Absent answer is tells = absurd cc
ended_gives key moment old new look.Fault answer is tells =
    subst (λ a. StepGives (ask_log key moment old) (NeedsFlashPage key old) old a new) (same_answer (Miss Fault) answer is) (log_fault_gives key moment old new tells)
ended_gives key moment old new look.Damaged answer is tells = absurd tells

-- what the buffers tell of a key is answered
module _ {D : Type 0} (size : ℕ) (key : List ℕ) (moment : ℕ) (old mid : StoreState D) (at : Placed) (placed : at ≡ place_in old.log.shape key) (looked : Looked)
    (tells : (e : Entry) (r : Rec) → IsInBuffers size old.log at.set at.tag key e r → TellsRecord (value_at moment r.value) at.set e old looked mid) where
  its : (e : Entry) (r : Rec) → IsInBuffers size old.log (place_in old.log.shape key).set (place_in old.log.shape key).tag key e r → TellsRecord (value_at moment r.value) (place_in old.log.shape key).set e old looked mid
  its e r here = subst (λ (p : Placed). TellsRecord (value_at moment r.value) p.set e old looked mid) placed (tells e r (subst (λ (p : Placed). IsInBuffers size old.log p.set p.tag key e r) (sym placed) here))

  pub ended_in_buffers : (answer : Answer) → answer_of_log looked ≡ Some answer → (e : Entry) (r : Rec) → IsInBuffers size old.log (place_in old.log.shape key).set (place_in old.log.shape key).tag key e r → AnswersFromBuffers key moment e r old answer mid
  ended_in_buffers answer is e r here = told (value_at moment r.value) (its e r here)
    where
      told : (o : Option (List ℕ)) → TellsRecord o (place_in old.log.shape key).set e old looked mid → AnswersRecord o (place_in old.log.shape key).set e old answer mid
      told (Some value) tells = (sym (same_answer (Hit value Log) answer (sym (ap answer_of_log tells.0) ∙ is)), tells.1)
      told None tells = (sym (same_answer (Miss Expired) answer (sym (ap answer_of_log tells.0) ∙ is)), tells.1)

  -- if the set is asked the buffers tell of none
  pub not_in_buffers : answer_of_log looked ≡ None → (answer : Answer) (new : StoreState D) (e : Entry) (r : Rec) → IsInBuffers size old.log (place_in old.log.shape key).set (place_in old.log.shape key).tag key e r → AnswersFromBuffers key moment e r old answer new
  not_in_buffers is answer new e r here = absurd (told (value_at moment r.value) (its e r here))
    where
      not_both : (a : Answer) → None ≡ given a → ⊥
      not_both a is = absurd cc

      told : (o : Option (List ℕ)) → TellsRecord o (place_in old.log.shape key).set e old looked mid → ⊥
      told (Some value) tells = not_both (Hit value Log) (sym is ∙ ap answer_of_log tells.0)
      told None tells = not_both (Miss Expired) (sym is ∙ ap answer_of_log tells.0)
