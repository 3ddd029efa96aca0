-- Each step of a lane keeps it sound, if deeds give a key what is put and leave what is not struck.
use Rattle.std.proofs.Common.{◌≡◌, ◌≢◌, ◌⊎◌, ℕ, true, List, [], ◌∷◌, ◌++◌, Option, Some, None, sym, ap, ◌∙◌, refl, subst, inl, inr}
use Rattle.std.specs.Prelude.{Result, Ok, Err, IfOk, OnErr}
use Rattle.std.specs.Str.{bytes_eq}
use Rattle.std.specs.Cmp.Lexicographic.{bytes_decides}
use Rattle.record_pages.specs.Expiry.{is_live, timed}
use Rattle.record_pages.specs.declared.answer.Answer.{Answer}
use Rattle.record_pages.specs.declared.answer.Answer.TheVariants as answers
use Rattle.memory_cache.specs.declared.pair.Pair.{Pair}
use Rattle.trace_file.specs.declared.act.Act.TheVariants.{Put, Hit, Miss}
use Rattle.certificate_checker.specs.Deeds.{Deed}
use Rattle.certificate_checker.specs.Current.{current, given_at}
use Rattle.certificate_checker.specs.Latest.{IsWrite}
use Rattle.certificate_checker.proofs.public_laws.LatestLemmas.{current-push, deed_kept}
use Rattle.mover.specs.Begin.{lane_counted, begin_step, BeginGives}
use Rattle.mover.specs.Whole.{MoveGives}
use Rattle.mover.specs.Laws.{IsInOrder, StepsInOrder, BeginShows, WholeMoveShows, IsPlannedFor, AreCounted}
use Rattle.mover.specs.declared.begin.Begin.{Begin}
use Rattle.mover.specs.declared.moved_whole.MovedWhole.{MovedWhole}
use Rattle.policy_laws.specs.declared.choice.Choice.{Choice}
use Rattle.policy_laws.specs.declared.job.Job.{Job}
use Rattle.std.specs.declared.alloc.AllocError.{AllocError}
use Rattle.mover.specs.Lane.{LaneState}
use Rattle.mover.specs.Visible.{ShowsFrom, TellsVisible}
use Rattle.mover.proofs.public_laws.Showing.{no_more, sees_no_more}
use Rattle.deeds.specs.Sound.{act_of, IsSound}

-- no deed is among none
pub no_deed : (before after : List Deed) (deed : Deed) → [] ≡ before ++ deed ∷ after → ⊥
no_deed [] after deed split = cc
no_deed (x ∷ before) after deed split = cc

-- ---- what a lane shows is what its keys have

-- The law of every step. What a step shows was shown and not struck, or is what it put: if deeds give a key what was
-- put, and leave what was not struck, the lane is sound after them.
pub sound_by : (struck : Option (List ℕ)) (put : Option Pair) (before after : List Deed) (old new : LaneState) → ((p : Pair) → put ≡ Some p → current after p.key ≡ Some p.value) → ((p : Pair) → (struck ≢ Some p.key) → current after p.key ≡ current before p.key) → IsSound old before → ShowsFrom struck put old new → IsSound new after
sound_by struck put before after old new puts stays sound shows = λ p shown. elim (shows p shown) [
  | inl was ↦ stays p was.1 ∙ sound p was.0
  | inr is ↦ puts p is
]

-- a deed that does not write a key leaves what it has
deed_leaves : (deeds : List Deed) (d : Deed) (key : List ℕ) → ((d.key ≡ key) → IsWrite d.act → ⊥) → current (deeds ++ d ∷ []) key ≡ current deeds key
deed_leaves deeds d key other = current-push key deeds d ∙ deed_kept key (current deeds key) d (λ w. other w.0 w.1)

-- a put gives its key its value
pub put_gives : (deeds : List Deed) (d : Deed) (key value : List ℕ) (expires : ℕ) → d.key ≡ key → d.act ≡ Put value expires → current (deeds ++ d ∷ []) key ≡ Some (timed value expires)
put_gives deeds d key value expires at put =
    let same : bytes_eq d.key key ≡ true = (bytes_decides d.key key).1 at in
    current-push key deeds d ∙ rw (same, put) refl

-- an answer writes nothing
pub reads : (moment : ℕ) (answer : Answer) → IsWrite (act_of moment answer) → ⊥
reads moment (answers.Hit value tier) w = w
reads moment (answers.Miss cause) w = w

pub none_some : {X : Type 0} {x : X} → None ≡ Some x → ⊥
none_some is = cc

pub some_same : {X : Type 0} {x y : X} → Some x ≡ Some y → x ≡ y
some_same is = cc

-- after an answer
pub sound_read : (deeds : List Deed) (d : Deed) (moment : ℕ) (answer : Answer) (old new : LaneState) → d.act ≡ act_of moment answer → IsSound old deeds → ShowsFrom None None old new → IsSound new (deeds ++ d ∷ [])
sound_read deeds d moment answer old new act = sound_by None None deeds (deeds ++ d ∷ []) old new (λ p no. absurd (none_some no)) (λ p other. deed_leaves deeds d p.key (λ same w. reads moment answer (subst IsWrite act w)))

-- after a put
pub sound_put : (deeds : List Deed) (d : Deed) (key value : List ℕ) (expires : ℕ) (old new : LaneState) → d.key ≡ key → d.act ≡ Put value expires → IsSound old deeds → ShowsFrom (Some key) (Some (record { key = key; value = timed value expires })) old new → IsSound new (deeds ++ d ∷ [])
sound_put deeds d key value expires old new at act =
    sound_by (Some key) (Some (record { key = key; value = timed value expires })) deeds (deeds ++ d ∷ []) old new (λ p is. subst (λ (x : Pair). current (deeds ++ d ∷ []) x.key ≡ Some x.value) (some_same is) (put_gives deeds d key value expires at act))
    (λ p other. deed_leaves deeds d p.key (λ same w. other (ap Some (sym at ∙ same))))

-- after a removal
pub sound_remove : (deeds : List Deed) (d : Deed) (key : List ℕ) (old new : LaneState) → d.key ≡ key → IsSound old deeds → ShowsFrom (Some key) None old new → IsSound new (deeds ++ d ∷ [])
sound_remove deeds d key old new at = sound_by (Some key) None deeds (deeds ++ d ∷ []) old new (λ p no. absurd (none_some no)) (λ p other. deed_leaves deeds d p.key (λ same w. other (ap Some (sym at ∙ same))))

-- a live value is given
live_gives : (value : List ℕ) (expires moment : ℕ) → is_live expires moment ≡ true → given_at moment (Some (timed value expires)) ≡ Some value
live_gives value expires moment live = rw live refl

-- a hit that tells a visible pair is its key's value, live at its moment
pub hit_is : (deeds : List Deed) (key value : List ℕ) (moment asked : ℕ) (lane : LaneState) (answer : Answer) → IsSound lane deeds → TellsVisible key moment lane answer → act_of moment answer ≡ Hit value asked → given_at asked (current deeds key) ≡ Some value
hit_is deeds key value moment asked lane (answers.Hit found tier) sound tells hit =
    let both : Hit found moment ≡ Hit value asked = hit in
    let same : found ≡ value = cc in
    let as_asked : moment ≡ asked = cc in
    let has : current deeds key ≡ Some (timed found tells.expires) = sound (record { key = key; value = timed found tells.expires }) (inl tells.visible) in
    let gives : given_at moment (current deeds key) ≡ Some found = ap (given_at moment) has ∙ live_gives found tells.expires moment tells.live in
    subst (λ (m : ℕ). given_at m (current deeds key) ≡ Some value) as_asked (gives ∙ ap (λ (v : List ℕ). Some v) same)
hit_is deeds key value moment asked lane (answers.Miss cause) sound tells hit = let no : Miss ≡ Hit value asked = hit in absurd (cc)

-- ---- lanes that stay

-- a lane that stays, and stays in order
pub still_in_order : (old new : LaneState) → IsInOrder old → new ≡ old → StepsInOrder None None old new
still_in_order old new was same = subst (StepsInOrder None None old) (sym same) (record { shows = λ p shown. inl (shown, λ no. none_some no); order = was; shape = refl })

-- one move more was counted
pub counted_in_order : (old new : LaneState) → IsInOrder old → new ≡ lane_counted old → StepsInOrder None None old new
counted_in_order old new was same = subst (StepsInOrder None None old) (sym same) (record {
  shows = no_more old (lane_counted old) (sees_no_more old (lane_counted old) refl (λ p visible. visible));
  order = record { placed = record { log = was.placed.log; sets = was.placed.sets; flight = was.placed.flight }; marked = was.marked };
  shape = refl;
})

-- a move began, or memory was refused
pub begun_in_order : BeginShows → (size least : ℕ) (old new : LaneState) (result : Result Begin AllocError) → IsInOrder old → IfOk result (λ begun. BeginGives size least old begun new) → OnErr result (new ≡ old) → StepsInOrder None None old new
begun_in_order law size least old new (Ok begun) was gives stays = law size least old new begun was gives
begun_in_order law size least old new (Err e) was gives stays = still_in_order old new was stays

-- a whole move was made, or memory was refused
pub moved_in_order : WholeMoveShows → (size least : ℕ) (plan_of : Job → List Choice) (old new : LaneState) (result : Result MovedWhole AllocError) → IsInOrder old → AreCounted old → IfOk result (λ moved. IsPlannedFor plan_of moved (begin_step size least old).reply) →
    IfOk result (λ moved. MoveGives size least plan_of old moved new) → OnErr result ((new ≡ old) ⊎ (new ≡ lane_counted old)) → StepsInOrder None None old new
moved_in_order law size least plan_of old new (Ok moved) was numbered planned gives stays = law size least plan_of old new moved was numbered planned gives
moved_in_order law size least plan_of old new (Err e) was numbered planned gives (inl same) = still_in_order old new was same
moved_in_order law size least plan_of old new (Err e) was numbered planned gives (inr counted) = counted_in_order old new was counted
