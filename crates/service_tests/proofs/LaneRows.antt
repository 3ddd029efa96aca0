-- What a hit can be after a put or a removal of its key, and that no lease outlives either.
use Rattle.std.proofs.Common.{◌≡◌, ◌≤◌, ◌<◌, ◌+◌, ◌/◌, ◌^◌, ◌∙◌, ℕ, Bool, true, false, List, [], ◌∷◌, ◌++◌, length, Option, Some, None, Result, Ok, sym, ap, refl, subst, cond, arith, get_or, set, ltb}
use Rattle.std.specs.Prelude.{IsTrue, option_and_then}
use Rattle.std.specs.Str.{bytes_eq}
use Rattle.std.specs.Cmp.Lexicographic.{bytes_decides}
use Rattle.std.proofs.lemmas.Bool.{ltb-false, false≢true}
use Rattle.std.proofs.lemmas.List.{get_or-set_same, length-set}
use Rattle.std.proofs.lemmas.Nat.{mod_below}
use Rattle.record_pages.specs.Expiry.{timed, is_live}
use Rattle.record_pages.specs.declared.tier.Tier.{Tier}
use Rattle.record_pages.specs.declared.tier.Tier.TheVariants.{Memory, Log, Set}
use Rattle.record_pages.specs.declared.timed_value.TimedValue.{TimedValue}
use Rattle.policy_laws.specs.declared.choice.Choice.{Choice}
use Rattle.policy_laws.specs.declared.job.Job.{Job}
use Rattle.trace_file.specs.declared.act.Act.TheVariants.{Put, Remove}
use Rattle.certificate_checker.specs.Deeds.{Deed}
use Rattle.certificate_checker.specs.Current.{current}
use Rattle.certificate_checker.specs.Latest.{IsLive}
use Rattle.certificate_checker.specs.Laws.{LatestIsCurrent}
use Rattle.certificate_checker.proofs.public_laws.LatestLemmas.{current-push}
use Rattle.deeds.proofs.public_laws.Sounding.{put_gives, none_some}
use Rattle.mover.specs.Get.{answer_of}
use Rattle.mover.specs.declared.answer_kind.AnswerKind.{AnswerKind}
use Rattle.mover.specs.declared.answer_kind.AnswerKind.TheVariants.{Hit}
use Rattle.mover.specs.declared.copy_fate.CopyFate.{CopyFate}
use Rattle.mover.specs.declared.copy_fate.CopyFate.TheVariants as fates
use Rattle.mover.proofs.public_laws.Showing.{some_same}
use Rattle.service_lane.specs.Asked.{IsLiveHit}
use Rattle.service_lane.specs.declared.lease.Lease.{Lease}
use Rattle.service_lane.specs.Leases.{LeaseSlots, hash_by, slot_of, slot_for, writes_for, lease_for, with_write, one_more, most_writes, HoldsLease}
use Rattle.service_lane.specs.Serving.{Serving}
use Rattle.klog.specs.declared.flushed.Flushed.{Flushed}
use Rattle.service_lane.specs.Counters.{number, place_of, with_one_if}
use Rattle.service_lane.specs.Counting.{counts_answer, counts_get, counter_of_copied, counter_of_fate, fate_after}
use Rattle.service_lane.specs.declared.copied.Copied.{Copied}
use Rattle.service_lane.specs.declared.copied.Copied.TheVariants.{Nothing, Answered, Made}
use Rattle.service_lane.specs.declared.counter.Counter.{Counter}
use Rattle.service_lane.specs.declared.counter.Counter.TheVariants as counter
use Rattle.service_lane.specs.declared.counts.Counts.{Counts}
use Rattle.service_lane.proofs.public_laws.Numbers.{more_other}
use Rattle.service_lane.specs.Upkeep.{Flushes, IsPageDone, Upkeeps}
use Rattle.service_lane.specs.declared.upkept.Upkept.{Upkept}
use Rattle.service_lane.specs.declared.upkept.Upkept.TheVariants as upkept

-- the value of an answer is one
pub ok_same : {X E : Type 0} (x y : X) → ◌≡◌ {A = Result X E} (Ok x) (Ok y) → x ≡ y
ok_same x y is = cc

-- ---- hits

-- after a put of its key a live value is the one that was put
pub put_is_live : LatestIsCurrent → (before after : List Deed) (key value other : List ℕ) (expires moment : ℕ) → after ≡ before ++ record { key = key; act = Put value expires } ∷ [] → IsLive after key other moment → other ≡ value
put_is_live law before after key value other expires moment more live =
    let now : current after key ≡ Some (timed other live.expires) = (law after key (timed other live.expires)).0 live.latest in
    let put : current after key ≡ Some (timed value expires) = ap (λ ds. current ds key) more ∙ put_gives before (record { key = key; act = Put value expires }) key value expires refl refl in
    ap (λ (t : TimedValue). t.value) (some_same (sym now ∙ put))

-- after a put of its key that has expired no value is live
pub put_is_expired : LatestIsCurrent → (before after : List Deed) (key value other : List ℕ) (expires moment : ℕ) → after ≡ before ++ record { key = key; act = Put value expires } ∷ [] → is_live expires moment ≡ false → IsLive after key other moment → ⊥
put_is_expired law before after key value other expires moment more dead live =
    let now : current after key ≡ Some (timed other live.expires) = (law after key (timed other live.expires)).0 live.latest in
    let put : current after key ≡ Some (timed value expires) = ap (λ ds. current ds key) more ∙ put_gives before (record { key = key; act = Put value expires }) key value expires refl refl in
    let same : live.expires ≡ expires = ap (λ (t : TimedValue). t.expires) (some_same (sym now ∙ put)) in
    false≢true (sym dead ∙ subst (λ e. is_live e moment ≡ true) same live.live)

-- after a removal of its key no value is live
pub removed_is_not_live : LatestIsCurrent → (before after : List Deed) (key other : List ℕ) (moment : ℕ) → after ≡ before ++ record { key = key; act = Remove } ∷ [] → IsLive after key other moment → ⊥
removed_is_not_live law before after key other moment more live =
    let now : current after key ≡ Some (timed other live.expires) = (law after key (timed other live.expires)).0 live.latest in
    let same : bytes_eq key key ≡ true = (bytes_decides key key).1 refl in
    let gone : current after key ≡ None = ap (λ ds. current ds key) more ∙ current-push key before (record { key = key; act = Remove }) ∙ rw same refl in
    none_some (sym gone ∙ now)

-- a hit in memory is live
pub in_memory : {D : Type 0} (honest : D → Bool) (device : D) (deeds : List Deed) (key found : List ℕ) (moment : ℕ) (seen : AnswerKind) (told : ℕ) → seen ≡ Hit Memory told → IsLiveHit (IsTrue (honest device)) deeds key moment (answer_of seen found) → IsLive deeds key found moment
in_memory honest device deeds key found moment seen told is live = subst (λ s. IsLiveHit (IsTrue (honest device)) deeds key moment (answer_of s found)) is live

-- and if all devices are honest each is
pub in_any : {D : Type 0} (honest : D → Bool) (device : D) (deeds : List Deed) (key found : List ℕ) (moment : ℕ) (seen : AnswerKind) (tier : Tier) (told : ℕ) → ((d : D) → IsTrue (honest d)) → seen ≡ Hit tier told → IsLiveHit (IsTrue (honest device)) deeds key moment (answer_of seen found) → IsLive deeds key found moment
in_any honest device deeds key found moment seen Memory told all is live = in_memory honest device deeds key found moment seen told is live
in_any honest device deeds key found moment seen Log told all is live = subst (λ s. IsLiveHit (IsTrue (honest device)) deeds key moment (answer_of s found)) is live (all device)
in_any honest device deeds key found moment seen Set told all is live = subst (λ s. IsLiveHit (IsTrue (honest device)) deeds key moment (answer_of s found)) is live (all device)

-- a step of upkeep adds no deed
pub upkept_adds_none : {D : Type 0} (size : ℕ) (honest : D → Bool) (failures : D → ℕ) (held : D → ℕ → Option (List ℕ)) (plan_of : Job → List Choice) (old : Serving D) (did : Upkept) (new : Serving D) → Upkeeps size honest failures held plan_of old did new → new.deeds ≡ old.deeds
upkept_adds_none size honest failures held plan_of old upkept.Idle new done = ap (λ (s : Serving _). s.deeds) done.1
upkept_adds_none size honest failures held plan_of old (upkept.Flushed answer) new done = ap (λ (s : Serving _). s.deeds) done.rest
upkept_adds_none size honest failures held plan_of old (upkept.Moved answer) new done = ap (λ (s : Serving _). s.deeds) done.rest
upkept_adds_none size honest failures held plan_of old upkept.OutOfMemory new done = ap (λ (s : Serving _). s.deeds) done.rest

-- ---- leases

-- one more is more, if it is not the most
grows : (n : ℕ) (b : Bool) → ltb n most_writes ≡ b → n < most_writes → cond b (n + 1) n ≡ n → ⊥
grows n true is few same = omega (arith, same)
grows n false is few same =
    let most = ltb-false n most_writes is in
    absurd (omega (arith, few, most))

-- a lease of a key does not hold after one more write of it
pub lease_ended : (slots after : LeaseSlots) (key : List ℕ) (lease : Lease) → 1 ≤ length slots.writes → lease ≡ lease_for slots key → after ≡ with_write slots key → HoldsLease after key lease → ⊥
lease_ended slots after key lease some leased written holds =
    let slot = slot_for slots key in
    let n = get_or slots.writes slot 0 in
    let seen = one_more n in
    let within : slot < length slots.writes = mod_below (hash_by slots.seed key / 2 ^ 32) (length slots.writes) some in
    let shows : writes_for after key ≡ seen =
    ap (λ (s : LeaseSlots). writes_for s key) written ∙ ap (λ count. get_or (set slots.writes slot seen) (slot_of slots.seed count key) 0) (length-set slots.writes slot seen) ∙ get_or-set_same slots.writes slot seen 0 within in
    let was : lease.writes ≡ n = ap (λ (l : Lease). l.writes) leased in
    grows n (ltb n most_writes) refl (subst (λ w. w < most_writes) was holds.few) (sym shows ∙ ap (λ (l : Lease). l.writes) holds.same ∙ was)

-- ---- counters and upkeep

-- what a get did with copies is counted apart from the hits in tiers
copied_apart : (copied : Copied) (c : Counter) (counts : Counts) → place_of c < 3 → number c (with_one_if (counter_of_copied copied) counts) ≡ number c counts
copied_apart Nothing c counts few = refl
copied_apart Answered c counts few = more_other 1 counter.CopyHits c counts (λ same. omega (arith, few, same))
copied_apart (Made fate) c counts few = more_other 1 counter.BroughtBack c counts (λ same. omega (arith, few, same))

-- and so is what became of the copy that it pushed out
fate_apart : (fate : Option CopyFate) (c : Counter) (counts : Counts) → place_of c < 3 → number c (with_one_if (option_and_then counter_of_fate fate) counts) ≡ number c counts
fate_apart None c counts few = refl
fate_apart (Some fates.Known) c counts few = more_other 1 counter.PushedCopies c counts (λ same. omega (arith, few, same))
fate_apart (Some fates.TooLarge) c counts few = refl
fate_apart (Some fates.Logged) c counts few = more_other 1 counter.Logged c counts (λ same. omega (arith, few, same))
fate_apart (Some fates.Full) c counts few = more_other 1 counter.LogFull c counts (λ same. omega (arith, few, same))
fate_apart (Some fates.IndexFull) c counts few = more_other 1 counter.IndexFull c counts (λ same. omega (arith, few, same))

-- the number of a tier's hits after a hit
pub counted_hit : {D : Type 0} (old new : Serving D) (found : List ℕ) (seen : AnswerKind) (tier : Tier) (told : ℕ) (copied : Copied) (c : Counter) → place_of c < 3 → seen ≡ Hit tier told → new.counts ≡ counts_get copied (answer_of seen found) old.counts → number c new.counts ≡ number c (counts_answer (answer_of (Hit tier told) found) old.counts)
counted_hit old new found seen tier told copied c few is counts =
    ap (number c) (subst (λ s. new.counts ≡ counts_get copied (answer_of s found) old.counts) is counts)
    ∙ fate_apart (fate_after copied) c (with_one_if (counter_of_copied copied) (counts_answer (answer_of (Hit tier told) found) old.counts)) few ∙ copied_apart copied c (counts_answer (answer_of (Hit tier told) found) old.counts) few

-- a step that flushes has done a page
pub page_done : {D : Type 0} (size : ℕ) (honest : D → Bool) (failures : D → ℕ) (held : D → ℕ → Option (List ℕ)) (plan_of : Job → List Choice) (old : Serving D) (did : Upkept) (new : Serving D) (answer : Flushed) → did ≡ upkept.Flushed answer → Upkeeps size honest failures held plan_of old did new → IsPageDone answer
page_done size honest failures held plan_of old did new answer is done =
    let flushes : Flushes honest failures held old answer new = subst (λ d. Upkeeps size honest failures held plan_of old d new) is done in
    flushes.done
