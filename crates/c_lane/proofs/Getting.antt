-- What a get of a lane is to callers in C.
use Rattle.std.proofs.Common.{◌≡◌, ℕ, List, Bool, true, false, cond, refl, sym, ap, ◌∙◌}
use Rattle.mover.specs.Get.{answer_of}
use Rattle.mover.specs.declared.answer_kind.AnswerKind.{AnswerKind}
use Rattle.mover.specs.declared.answer_kind.AnswerKind.TheVariants.{Hit, Miss}
use Rattle.record_pages.specs.declared.miss_cause.MissCause.{MissCause}
use Rattle.record_pages.specs.declared.miss_cause.MissCause.TheVariants.{Absent, Expired, Fault, Damaged}
use Rattle.service_lane.specs.Counting.{counts_lease}
use Rattle.service_lane.specs.Leases.{lease_for}
use Rattle.service_lane.specs.declared.lease.Lease.{Lease}
use Rattle.std.specs.Prelude.{length, nat_le}
use Rattle.c_lane.specs.declared.hit.Hit.{Hit as Told}
use Rattle.c_lane.specs.declared.status.Status.{Status}
use Rattle.c_lane.specs.declared.status.Status.TheVariants.{Done, ShortBuffer}
use Rattle.c_lane.specs.Getting.{Answers, AnswersOrLeases, TellsAnswer, LaneGets, LaneTells}
use Rattle.c_lane.specs.Lane.{LaneState, Laws}
use Rattle.c_lane.specs.Statuses.{is_miss_status, status_of_miss}

-- a copied value is no miss
copy_is_no_miss : (fits : Bool) → is_miss_status (cond fits Done ShortBuffer) ≡ true → ⊥
copy_is_no_miss true is = absurd (cc)
copy_is_no_miss false is = absurd (cc)

-- a miss is one
miss_is_miss : (cause : MissCause) → is_miss_status (status_of_miss cause) ≡ false → ⊥
miss_is_miss Absent is = absurd (cc)
miss_is_miss Expired is = absurd (cc)
miss_is_miss Fault is = absurd (cc)
miss_is_miss Damaged is = absurd (cc)

module _ {D : Type 0} (laws : Laws D) (key : List ℕ) (moment : ℕ) (buffer : List ℕ) (old : LaneState D) (status : Status) (mid : LaneState D) (into : List ℕ) (hit : Told) (before : Lease) where
  -- a get that missed, and the lease after it
  pub leased : (new : LaneState D) (lease : Lease) → Answers laws key moment buffer old status mid into hit → is_miss_status status ≡ true →
      new.serving ≡ record mid.serving { counts = counts_lease mid.serving.counts } → lease ≡ lease_for mid.serving.slots key → new.words ≡ mid.words →
      AnswersOrLeases laws key moment buffer before old status new into hit lease
  leased new lease answers misses given lease_is words_stay = by_kind answers.kind answers.value answers.gets answers.expires answers.tells
    where
      by_kind : (kind : AnswerKind) (value : List ℕ) → LaneGets laws key moment (answer_of kind value) old.serving mid.serving → LaneTells laws key value kind old.serving → TellsAnswer kind value buffer status into hit →
          AnswersOrLeases laws key moment buffer before old status new into hit lease
      by_kind (Hit tier expires) value gets told tells =
          absurd (copy_is_no_miss (nat_le (length value) (length buffer)) (sym (ap is_miss_status tells.status_is) ∙ misses))
      by_kind (Miss cause) value gets told tells =
          record { kind = Miss cause; value = value; between = mid.serving; gets = gets; expires = told; leased = (given, lease_is); words = words_stay ∙ answers.words; tells = tells }

  -- a get that did not miss
  pub unleased : Answers laws key moment buffer old status mid into hit → is_miss_status status ≡ false →
      AnswersOrLeases laws key moment buffer before old status mid into hit before
  unleased answers hits = by_kind answers.kind answers.value answers.gets answers.expires answers.tells
    where
      by_kind : (kind : AnswerKind) (value : List ℕ) → LaneGets laws key moment (answer_of kind value) old.serving mid.serving → LaneTells laws key value kind old.serving → TellsAnswer kind value buffer status into hit →
          AnswersOrLeases laws key moment buffer before old status mid into hit before
      by_kind (Hit tier expires) value gets told tells =
          record { kind = Hit tier expires; value = value; between = mid.serving; gets = gets; expires = told; leased = (refl, refl); words = answers.words; tells = tells }
      by_kind (Miss cause) value gets told tells =
          absurd (miss_is_miss cause (sym (ap is_miss_status tells.status_is) ∙ hits))
