-- What the script sees of its lane after each call, and what is then true of it.
use Rattle.std.proofs.Common.{◌≡◌, ℕ, ◌+◌, ◌*◌, List, [], ◌∷◌, ◌++◌, length, slice_index_or, Bool, true, Ok, refl, sym, ap, ◌∙◌, subst, inl, inr, arith}
use Rattle.std.proofs.Math.ListN.{get_or-append}
use Rattle.std.proofs.Math.Seq.{get_or-append_seam}
use Rattle.std.proofs.lemmas.Bool.{cases_lt}
use Rattle.std.proofs.lemmas.List.{length_push}
use Rattle.record_pages.specs.declared.answer.Answer.{Answer}
use Rattle.record_pages.specs.declared.layout.Layout.{Layout}
use Rattle.trace_file.specs.declared.act.Act.{Act}
use Rattle.klog.specs.declared.flushed.Flushed.{Flushed}
use Rattle.klog.specs.Flush.{is_page_lost}
use Rattle.policy_laws.specs.declared.choice.Choice.{Choice}
use Rattle.policy_laws.specs.declared.job.Job.{Job}
use Rattle.mover.specs.declared.moved_whole.MovedWhole.{MovedWhole}
use Rattle.mover.specs.Lane.{LaneState, lane_of}
use Rattle.mover.specs.Get.{get_step, is_fault, NeedsPage}
use Rattle.mover.specs.Store.{StoreState}
use Rattle.mover.specs.Flush.{flush_step}
use Rattle.mover.specs.Whole.{move_step, is_failed}
use Rattle.recorded_lane.specs.declared.noted.Noted.{Noted}
use Rattle.recorded_lane.specs.Lane.{Lane, act_of}
use Rattle.mover.specs.Calls.{StoreGets, StoreFlushes, StoreMoves}
use Rattle.recorded_lane.specs.Answering.{MayHaveGot}
use Rattle.scripts.specs.Own.{Pages, Opened, held_by, seen_of, noted, after_call, with_lane, HasStamps, IsOfScript}
use Rattle.scripts.proofs.Lanes.{none_failed, get_is_step, flush_is_step, move_is_step}

-- a device in memory is honest, and fails in no call
abbrev honest : Pages → Bool
honest pages = true

abbrev failures : Pages → ℕ
failures pages = 0

abbrev opened_from : Layout → LaneState → List Noted → Opened
opened_from l lane calls = record { admit = l.admit; threshold = l.threshold; lane = lane; calls = calls }

seen_by : (new : Lane Pages) (layout : Layout) (lane : LaneState) (calls : List Noted) → new.store.layout ≡ layout → lane_of held_by new.store ≡ lane → new.calls ≡ calls → opened_from new.store.layout (lane_of held_by new.store) new.calls ≡ opened_from layout lane calls
seen_by new layout lane calls same holds are =
    ap (λ l. opened_from l (lane_of held_by new.store) new.calls) same
    ∙ ap (λ s. opened_from layout s new.calls) holds
    ∙ ap (opened_from layout lane) are

-- a call was recorded
pub called : (old new : Lane Pages) (key : List ℕ) (act : Act) (lane : LaneState) →
    new ≡ record old { store = new.store; calls = old.calls ++ noted (length old.calls) key act ∷ [] } →
    new.store.layout ≡ old.store.layout → lane_of held_by new.store ≡ lane →
    seen_of new ≡ after_call (seen_of old) lane key act
called old new key act lane whole layout holds =
    seen_by new old.store.layout lane (old.calls ++ noted (length old.calls) key act ∷ []) layout holds (ap (λ (l : Lane Pages). l.calls) whole)

-- no call was recorded
pub uncalled : (old new : Lane Pages) (lane : LaneState) → new ≡ record old { store = new.store } →
    new.store.layout ≡ old.store.layout → lane_of held_by new.store ≡ lane → seen_of new ≡ with_lane (seen_of old) lane
uncalled old new lane whole layout holds = seen_by new old.store.layout lane old.calls layout holds (ap (λ (l : Lane Pages). l.calls) whole)

-- a get answers and leaves what its step does
pub got : (size : ℕ) (old new : Lane Pages) (key : List ℕ) (moment : ℕ) (answer : Answer) →
    new ≡ record old { store = new.store; calls = old.calls ++ noted (length old.calls) key (act_of moment answer) ∷ [] } →
    StoreGets size honest failures held_by key moment old.store (Ok answer) new.store →
    (answer ≡ (get_step key moment (seen_of old).lane).reply)
    × (seen_of new ≡ after_call (seen_of old) (get_step key moment (seen_of old).lane).lane key (act_of moment answer))
got size old new key moment answer whole told =
    let unfailed = none_failed (is_fault (Ok answer)) told.reads.failed_once in
    let step = get_is_step (get_step key moment (lane_of held_by old.store)) (NeedsPage key (lane_of held_by old.store)) (lane_of held_by old.store) (lane_of held_by new.store) answer unfailed (told.gives refl) in
    (step.0, called old new key (act_of moment answer) (get_step key moment (lane_of held_by old.store)).lane whole told.reads.layout step.1)

-- a flush step answers and leaves what its function does
pub flushed : (old new : Lane Pages) (answer : Flushed) → new ≡ record old { store = new.store } → StoreFlushes honest failures held_by old.store answer new.store →
    (answer ≡ (flush_step (seen_of old).lane).reply) × (seen_of new ≡ with_lane (seen_of old) (flush_step (seen_of old).lane).lane)
flushed old new answer whole flushes =
    let layout = ap (λ (s : StoreState Pages). s.layout) flushes.rest in
    let step = flush_is_step (lane_of held_by old.store) (lane_of held_by new.store) answer (none_failed (is_page_lost answer) flushes.faults) (flushes.gives refl) in
    (step.0, uncalled old new (flush_step (lane_of held_by old.store)).lane whole layout step.1)

-- a whole move answers and leaves what its function does
pub moved : (size : ℕ) (plan_of : Job → List Choice) (old new : Lane Pages) (answer : MovedWhole) → new ≡ record old { store = new.store } →
    StoreMoves size honest failures held_by plan_of old.store (Ok answer) new.store →
    (answer ≡ (move_step size old.store.layout.threshold plan_of (seen_of old).lane).reply)
    × (seen_of new ≡ with_lane (seen_of old) (move_step size old.store.layout.threshold plan_of (seen_of old).lane).lane)
moved size plan_of old new answer whole moves =
    let step = move_is_step size old.store.layout.threshold plan_of (lane_of held_by old.store) (lane_of held_by new.store) answer (none_failed (is_failed (Ok answer)) (moves.faults refl)) (moves.gives refl) in
    (step.0, uncalled old new (move_step size old.store.layout.threshold plan_of (lane_of held_by old.store)).lane whole moves.layout step.1)

-- a lane of a script stays one if no call is recorded
pub stays : (old new : Lane Pages) → IsOfScript old → new ≡ record old { store = new.store } → new.store.layout ≡ old.store.layout → IsOfScript new
stays old new its whole layout =
    let calls = ap (λ (l : Lane Pages). l.calls) whole in
    record {
      stamps = subst HasStamps (sym calls) its.stamps;
      one = ap (λ (l : Layout). l.lanes) layout ∙ its.one;
      first = ap (λ (l : Lane Pages). l.lane) whole ∙ its.first;
    }

kept_layout : (size : ℕ) (key : List ℕ) (moment : ℕ) (old new : Lane Pages) → MayHaveGot size honest failures held_by key moment old.store new.store → new.store.layout ≡ old.store.layout
kept_layout size key moment old new (inl same) = ap (λ (s : StoreState Pages). s.layout) same
kept_layout size key moment old new (inr got) = got.1.reads.layout

-- also if a get was refused
pub stays_refused : (size : ℕ) (key : List ℕ) (moment : ℕ) (old new : Lane Pages) → IsOfScript old → new ≡ record old { store = new.store } → MayHaveGot size honest failures held_by key moment old.store new.store → IsOfScript new
stays_refused size key moment old new its whole kept = stays old new its whole (kept_layout size key moment old new kept)

one_more : (calls : List Noted) (key : List ℕ) (act : Act) → HasStamps calls → HasStamps (calls ++ noted (length calls) key act ∷ [])
one_more calls key act stamps i d within =
    let n = noted (length calls) key act in
    elim (cases_lt i (length calls)) [
      | inl before ↦
          let same : slice_index_or (calls ++ n ∷ []) i d ≡ slice_index_or calls i d = get_or-append calls (n ∷ []) d i before in
          subst (λ (m : Noted). (m.start ≡ 3 * i + 1) × (m.point ≡ 3 * i + 2) × (m.caller ≡ 0)) (sym same) (stamps i d before)
      | inr past ↦
          let last : i ≡ length calls = omega (arith, length_push calls n, within, past) in
          let here : slice_index_or (calls ++ n ∷ []) i d ≡ n = ap (λ j. slice_index_or (calls ++ n ∷ []) j d) last ∙ get_or-append_seam calls n [] d in
          subst (λ (m : Noted). (m.start ≡ 3 * i + 1) × (m.point ≡ 3 * i + 2) × (m.caller ≡ 0)) (sym here) (omega (arith, last), omega (arith, last), refl)
    ]

-- and if a call with the next number is
pub goes_on : (old new : Lane Pages) (key : List ℕ) (act : Act) → IsOfScript old →
    new ≡ record old { store = new.store; calls = old.calls ++ noted (length old.calls) key act ∷ [] } →
    new.store.layout ≡ old.store.layout → IsOfScript new
goes_on old new key act its whole layout =
    let calls = ap (λ (l : Lane Pages). l.calls) whole in
    record {
      stamps = subst HasStamps (sym calls) (one_more old.calls key act its.stamps);
      one = ap (λ (l : Layout). l.lanes) layout ∙ its.one;
      first = ap (λ (l : Lane Pages). l.lane) whole ∙ its.first;
    }
