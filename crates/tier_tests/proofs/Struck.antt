-- What a get and a commit show after a strike of a key.
use Rattle.std.proofs.Common.{◌≡◌, ℕ, List, Some, None, inl, ⊎_elim, refl, sym, ap, subst}
use Rattle.std.proofs.lemmas.Bool.{false≢true}
use Rattle.std.proofs.lemmas.Option.{none-some}
use Rattle.std.specs.Prelude.{IsTrue, IsOk, IfOk, Result, Ok, Err}
use Rattle.record_pages.specs.Expiry.{is_live, timed}
use Rattle.record_pages.specs.declared.timed_value.TimedValue.{TimedValue}
use Rattle.record_pages.specs.declared.answer.Answer.{Answer}
use Rattle.record_pages.specs.declared.answer.Answer.TheVariants.{Hit}
use Rattle.record_pages.specs.declared.tier.Tier.{Tier}
use Rattle.record_pages.specs.declared.pushed.Pushed.{Pushed}
use Rattle.record_pages.specs.declared.put_fault.PutFault.{PutFault}
use Rattle.memory_cache.specs.declared.pair.Pair.{Pair}
use Rattle.policy_laws.specs.declared.choice.Choice.{Choice}
use Rattle.mover.specs.declared.committed.Committed.{Committed}
use Rattle.mover.specs.Lane.{LaneState}
use Rattle.mover.specs.Visible.{IsShown, TellsVisible}
use Rattle.mover.specs.Laws.{IsInOrder, StepsInOrder, GetShows, RemovalShows, PutShows, CommitShows}
use Rattle.mover.specs.Get.{GetGives}
use Rattle.mover.specs.Put.{put_step, IsStep}
use Rattle.mover.specs.Strike.{removed}
use Rattle.mover.specs.Commit.{CommitGives}

some_same : {X : Type 0} {x y : X} → Some x ≡ Some y → x ≡ y
some_same is = cc

-- no pair of a key that was struck is shown
pub struck_is_hidden : (key : List ℕ) (value : TimedValue) (old new : LaneState) → StepsInOrder (Some key) None old new → IsShown new (record { key = key; value = value }) → ⊥
struck_is_hidden key value old new step here =
    ⊎_elim (λ was. was.1 refl) (λ put. none-some _ put) (step.shows (record { key = key; value = value }) here)

-- of a key that was put only that pair is shown
pub put_is_told : (key : List ℕ) (value told : TimedValue) (old new : LaneState) → StepsInOrder (Some key) (Some (record { key = key; value = value })) old new →
    IsShown new (record { key = key; value = told }) → told ≡ value
put_is_told key value told old new step here =
    ⊎_elim (λ was. absurd (was.1 refl)) (λ put. sym (ap (λ (p : Pair). p.value) (some_same put))) (step.shows (record { key = key; value = told }) here)

-- a get after a removal of its key is no hit
pub removed_is_missed : (key : List ℕ) (moment : ℕ) (value : List ℕ) (tier : Tier) (answer : Answer) (old between new : LaneState) → RemovalShows → GetShows → IsInOrder old →
    between ≡ removed key old → GetGives key moment between answer new → answer ≡ Hit value tier → ⊥
removed_is_missed key moment value tier answer old between new removal get order is gives told =
    let struck = removal key old between order is in
    let seen : TellsVisible key moment between (Hit value tier) = subst (TellsVisible key moment between) told (get key moment between new answer struck.order gives).1 in
    struck_is_hidden key (timed value seen.expires) old between struck (inl seen.visible)

-- a hit after a put of its key is the value that was put, and live
pub put_is_hit : (size admit word : ℕ) (key value : List ℕ) (expires moment : ℕ) (told : List ℕ) (tier : Tier) (pushed : Pushed) (answer : Answer) (old between new : LaneState) → PutShows → GetShows → IsInOrder old →
    IsStep (put_step size admit (record { key = key; value = timed value expires }) word old) pushed between → GetGives key moment between answer new → answer ≡ Hit told tier → (told ≡ value) × IsTrue (is_live expires moment)
put_is_hit size admit word key value expires moment told tier pushed answer old between new put get order is gives hit =
    let stored = put size admit word (record { key = key; value = timed value expires }) old between pushed order is in
    let seen : TellsVisible key moment between (Hit told tier) = subst (TellsVisible key moment between) hit (get key moment between new answer stored.order gives).1 in
    let same = put_is_told key (timed value expires) (timed told seen.expires) old between stored (inl seen.visible) in (
      ap (λ (v : TimedValue). v.value) same,
      subst (λ n. IsTrue (is_live n moment)) (ap (λ (v : TimedValue). v.expires) same) seen.live,
    )

-- a commit after a removal shows nothing of its key
pub removed_is_not_written : (size : ℕ) (plan : List Choice) (number : ℕ) (key : List ℕ) (value : TimedValue) (committed : Committed) (old between new : LaneState) → RemovalShows → CommitShows → IsInOrder old →
    between ≡ removed key old → CommitGives size plan number between committed new → IsShown new (record { key = key; value = value }) → ⊥
removed_is_not_written size plan number key value committed old between new removal commit order is gives here =
    let struck = removal key old between order is in
    ⊎_elim (λ was. struck_is_hidden key value old between struck was.0) (λ put. none-some _ put)
    ((commit size plan number between new committed struck.order gives).shows (record { key = key; value = value }) here)

-- a commit shows nothing that was not shown
pub nothing_new_is_written : (size : ℕ) (plan : List Choice) (number : ℕ) (p : Pair) (committed : Committed) (old new : LaneState) → CommitShows → IsInOrder old →
    CommitGives size plan number old committed new → IsShown new p → IsShown old p
nothing_new_is_written size plan number p committed old new commit order gives here =
    ⊎_elim (λ was. was.0) (λ put. absurd (none-some _ put)) ((commit size plan number old new committed order gives).shows p here)

-- a put that is not refused leaves no other pair of its key to be shown
pub put_is_alone : (size admit word : ℕ) (p : Pair) (told : TimedValue) (old new : LaneState) (result : Result Pushed PutFault) → PutShows → IsInOrder old → IsOk result →
    IfOk result (λ pushed. IsStep (put_step size admit p word old) pushed new) → IsShown new (record { key = p.key; value = told }) → told ≡ p.value
put_is_alone size admit word p told old new (Ok pushed) put order ok gives here = put_is_told p.key p.value told old new (put size admit word p old new pushed order gives) here
put_is_alone size admit word p told old new (Err e) put order ok gives here = absurd (false≢true ok)
