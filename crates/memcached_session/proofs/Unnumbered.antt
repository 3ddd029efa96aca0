-- A step whose item gets no number is the same whatever number the server gives.
use Rattle.std.proofs.Common.{◌≡◌, ℕ, Bool, true, false, cond, List, Option, Some, None, refl, subst, arith}
use Rattle.std.specs.Prelude.{is_some}
use Rattle.std.specs.Option.{option_map}
use Rattle.service_lane.specs.Serving.{Serving}
use Rattle.item_lane.specs.declared.command_turn.CommandTurn.{CommandTurn}
use Rattle.item_lane.specs.declared.meta_deleting.MetaDelete.{MetaDelete}
use Rattle.item_lane.specs.declared.meta_getting.MetaGet.{MetaGet}
use Rattle.item_lane.specs.Cells.{kept_shown}
use Rattle.item_lane.specs.Doing.{Does, DoesAndGives}
use Rattle.item_lane.specs.Meta.{meta_get_plan, meta_delete_plan}
use Rattle.memcached_text.specs.Meta.{token_at, exptime_at}
use Rattle.memcached_text.specs.declared.reader_state.ReaderState.{ReaderState}
use Rattle.memcached_text.specs.declared.reader_state.ReaderState.TheVariants.{Line, Keys, SkipLine, SkipData, Closed}
use Rattle.memcached_text.specs.Steps.{Told, Outcome, passing, decided, step_of}
use Rattle.memcached_session.specs.declared.done.SessionDone.{SessionDone}
use Rattle.memcached_session.specs.declared.session.Session.{Session}
use Rattle.memcached_session.specs.Doing.{DoesKeyed}
use Rattle.memcached_session.specs.Framing.{Frame, frame_of}
use Rattle.memcached_session.specs.Keyed.{KeyAsked, KeyGet, KeyGetAndTouch, KeyStore, KeyTooLarge, KeyDelete, KeyDelta, KeyTouch, KeyMetaGet, KeyMetaSet, KeyMetaDelete, KeyMetaDelta, gives_number, keyed_of}
use Rattle.memcached_session.specs.MetaDoing.{MetaSays, outcome_of_item}
use Rattle.memcached_session.specs.MetaReading.{has_flag, meta_get_in, meta_delete_in}
use Rattle.memcached_session.specs.MetaSaying.{get_said}
use Rattle.memcached_session.specs.Saying.{Said}
use Rattle.memcached_session.specs.Standing.{state_of}
use Rattle.memcached_session.specs.Stepping.{LaneStepsBy, LaneSteps, DoesAndAnswers}
use Rattle.memcached_session.specs.Wanting.{WantAlone, want_by, want_at, is_closed, draws}
use Rattle.memcached_session.specs.declared.want.Need.TheVariants as needs

none_there : (token : Option (List ℕ)) → is_some token ≡ false → token ≡ None
none_there None none = refl
none_there (Some token) none = absurd (grind arith)

no_moment : (letter : ℕ) (flags : List ℕ) → has_flag letter flags ≡ false → exptime_at letter flags ≡ None
unfolding exptime_at
no_moment letter flags none = rw (none_there (token_at letter flags) none) refl

same_get : (moment cas other : ℕ) (flags : List ℕ) → has_flag 78 flags ≡ false → meta_get_in moment cas flags ≡ meta_get_in moment other flags
same_get moment cas other flags none = rw (no_moment 78 flags none) refl

same_delete : (moment cas other : ℕ) (flags : List ℕ) → has_flag 73 flags ≡ false → meta_delete_in moment cas flags ≡ meta_delete_in moment other flags
same_delete moment cas other flags none = rw none refl

module _ {D : Type 0} (size : ℕ) (honest : D → Bool) (failures : D → ℕ) (held : D → ℕ → Option (List ℕ)) (turn : CommandTurn) (cas other : ℕ) where
  frame : ℕ → Frame D
  frame n = frame_of size honest failures held turn n

  does_same : (asked : KeyAsked) (old : Serving D) (said : Said) (new : Serving D) → gives_number asked ≡ false → DoesKeyed (frame_of size honest failures held turn cas) asked old said new → DoesKeyed (frame_of size honest failures held turn other) asked old said new
  does_same (KeyGet key with_cas) old said new none does = record { item = does.item; looks = does.looks; said_is = does.said_is }
  does_same (KeyGetAndTouch key exptime with_cas) old said new none does = record { item = does.item; result = does.result; does_it = does.does_it; said_is = does.said_is }
  does_same (KeyStore store block) old said new none does = absurd (grind arith)
  does_same (KeyTooLarge key noreply) old said new none does = does
  does_same (KeyDelete key noreply) old said new none does = does
  does_same (KeyDelta delta) old said new none does = absurd (grind arith)
  does_same (KeyTouch key exptime noreply) old said new none does = does
  does_same (KeyMetaGet meta) old said new none does =
      let same = same_get turn.moment cas other meta.flags none in
      record {
        item = does.item;
        result = does.result;
        does_it = subst (λ (g : MetaGet). DoesAndGives size honest failures held meta.key turn (meta_get_plan g) old does.item does.result new) same does.does_it;
        says = subst (λ (g : MetaGet). MetaSays meta (get_said turn.moment meta.flags g (option_map kept_shown does.item) does.result) (outcome_of_item (option_map kept_shown does.item) does.result) said) same does.says;
      }
  does_same (KeyMetaSet meta block) old said new none does = absurd (grind arith)
  does_same (KeyMetaDelete meta) old said new none does =
      let same = same_delete turn.moment cas other meta.flags none in
      record {
        result = does.result;
        does_it = subst (λ (g : MetaDelete). Does size honest failures held meta.key turn (meta_delete_plan g) old does.result new) same does.does_it;
        says = does.says;
      }
  does_same (KeyMetaDelta meta) old said new none does = absurd (grind arith)

  steps_same : (asked : Option KeyAsked) (o : Outcome) (session : Session) (room : List ℕ) (old : Serving D) (done : SessionDone) (new_session : Session) (new_room : List ℕ) (new : Serving D) → draws (want_by asked o.taken o.told) ≡ false → LaneStepsBy asked (frame_of size honest failures held turn cas) o session room old done new_session new_room new → LaneStepsBy asked (frame_of size honest failures held turn other) o session room old done new_session new_room new
  steps_same None o session room old done new_session new_room new none steps = steps
  steps_same (Some asked) o session room old done new_session new_room new none steps =
      record { said = steps.said; does_it = does_same asked old steps.said new none steps.does_it; settles = steps.settles }

-- what was asked of a lane was done by the step
pub steps_made : {D : Type 0} (f : Frame D) (session : Session) (bytes room : List ℕ) (old : Serving D) (done : SessionDone) (new_session : Session) (new_room : List ℕ) (new : Serving D) (o : Outcome) (asked : KeyAsked) → o ≡ step_of 2039 (state_of session) bytes → Some asked ≡ keyed_of o.told → DoesAndAnswers f asked o room old done new_session new_room new → LaneSteps f session bytes room old done new_session new_room new
steps_made f session bytes room old done new_session new_room new o asked is keyed does =
    subst (λ (p : Outcome). LaneStepsBy (keyed_of p.told) f p session room old done new_session new_room new) is
    (subst (λ (k : Option KeyAsked). LaneStepsBy k f o session room old done new_session new_room new) keyed does)

-- nothing is asked of a lane at the end
closed_more : (state : ReaderState) (bytes : List ℕ) → is_closed state ≡ true → keyed_of (step_of 2039 state bytes).told ≡ None
unfolding step_of passing decided
closed_more Line bytes is = absurd (grind arith)
closed_more (Keys exptime cas) bytes is = absurd (grind arith)
closed_more SkipLine bytes is = absurd (grind arith)
closed_more (SkipData n) bytes is = absurd (grind arith)
closed_more Closed bytes is = refl

draws_open : (closed : Bool) (asked : Option KeyAsked) (taken : ℕ) (told : Told) → (closed ≡ true → asked ≡ None) → draws (cond closed (WantAlone needs.Close) (want_by asked taken told)) ≡ false → draws (want_by asked taken told) ≡ false
draws_open false asked taken told none given = given
draws_open true asked taken told none given = rw (none refl) refl

pub unnumbered : {D : Type 0} (size : ℕ) (honest : D → Bool) (failures : D → ℕ) (held : D → ℕ → Option (List ℕ)) (turn : CommandTurn) (cas other : ℕ) (session : Session) (bytes room : List ℕ) (old : Serving D) (done : SessionDone) (new_session : Session) (new_room : List ℕ) (new : Serving D) → draws (want_at (state_of session) (step_of 2039 (state_of session) bytes)) ≡ false → LaneSteps (frame_of size honest failures held turn cas) session bytes room old done new_session new_room new → LaneSteps (frame_of size honest failures held turn other) session bytes room old done new_session new_room new
unnumbered size honest failures held turn cas other session bytes room old done new_session new_room new none steps =
    let o = step_of 2039 (state_of session) bytes in
    steps_same size honest failures held turn cas other (keyed_of o.told) o session room old done new_session new_room new
    (draws_open (is_closed (state_of session)) (keyed_of o.told) o.taken o.told (closed_more (state_of session) bytes) none) steps
