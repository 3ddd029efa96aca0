-- What the steps of a recorded lane are to those who play it.
use Rattle.std.proofs.Common.{◌≡◌, ◌<◌, ◌≤◌, ◌⊎◌, ◌↔◌, ℕ, Bool, List, [], ◌∷◌, ◌++◌, length, Option, Some, None, sym, ap, ◌∙◌, refl, arith, inl, inr}
use Rattle.std.specs.Prelude.{IsTrue, Result, Ok, Err, IfOk, OnErr}
use Rattle.std.proofs.lemmas.Bool.{cases_lt}
use Rattle.record_pages.specs.Expiry.{timed}
use Rattle.record_pages.specs.Sizes.{object_size, room}
use Rattle.record_pages.specs.declared.answer.Answer.{Answer}
use Rattle.record_pages.specs.declared.layout.Layout.{Layout}
use Rattle.record_pages.specs.declared.pushed.Pushed.{Pushed}
use Rattle.klog.specs.declared.flushed.Flushed.{Flushed}
use Rattle.trace_file.specs.declared.act.Act.{Act}
use Rattle.trace_file.specs.declared.act.Act.TheVariants as acts
use Rattle.mover.specs.Lane.{LaneState, lane_of}
use Rattle.mover.specs.Get.{GetGives}
use Rattle.mover.specs.Store.{StoreState}
use Rattle.mover.proofs.public_laws.Beginning.{same_lane_held}
use Rattle.mover.specs.Calls.{StoreGets, StorePuts, StoreRemoves, StoreFlushes, StoreBegins, StoreCommits, StoreAborts}
use Rattle.mover.specs.Begin.{BeginGives}
use Rattle.mover.specs.Commit.{after_abort}
use Rattle.mover.specs.declared.aborted.Aborted.{Aborted}
use Rattle.mover.specs.declared.aborted.Aborted.TheVariants as aborted
use Rattle.mover.specs.declared.begin.Begin.{Begin}
use Rattle.mover.specs.declared.committed.Committed.{Committed}
use Rattle.policy_laws.specs.declared.choice.Choice.{Choice}
use Rattle.std.specs.declared.alloc.AllocError.{AllocError}
use Rattle.recorded_lane.proofs.public_laws.Ending.{commit_keeps_layout, abort_keeps_layout}
use Rattle.recorded_lane.specs.declared.noted.Noted.{Noted}
use Rattle.recorded_lane.specs.declared.record_fault.RecordFault.{RecordFault}
use Rattle.recorded_lane.specs.declared.record_fault.RecordFault.TheVariants as faults
use Rattle.recorded_lane.specs.declared.record_put_fault.RecordPutFault.{RecordPutFault}
use Rattle.recorded_lane.specs.declared.record_put_fault.RecordPutFault.TheVariants as put_faults
use Rattle.recorded_lane.specs.Lane.{Lane, IsRecorded, act_of, max_calls}
use Rattle.recorded_lane.specs.Answering.{MayHaveGot}
use Rattle.history_recorder.specs.declared.event.Event.TheVariants as events
use Rattle.history_recorder.specs.declared.operation.Operation.TheVariants as operations
use Rattle.history_recorder.specs.declared.reply.Reply.TheVariants as replies
use Rattle.history_recorder.specs.Operations.{AnswersAt, FitsAlone, HasRoomFor}
use Rattle.history_recorder.specs.Commands.{IsOperation, IsBackground}
use Rattle.history_recorder.specs.Game.{IsWellKept, LaneActs, LaneSteps}

-- ---- when an act is refused

-- the history is full exactly if there is no room for a call
has_room : {X : Type 0} (result : Result X RecordFault) (count : ℕ) → ((result ≡ Err faults.HistoryFull) ↔ (max_calls ≤ count)) → ((result ≡ Err faults.HistoryFull) → ⊥) → HasRoomFor count
has_room result count full not = elim (cases_lt count max_calls) [ inl less ↦ less | inr past ↦ absurd (not (full.1 past)) ]

other_fault : {X : Type 0} (result : Result X RecordFault) → result ≡ Err faults.OutOfMemory → result ≡ Err faults.HistoryFull → ⊥
other_fault result is same = cc

no_fault : {X : Type 0} (result : Result X RecordFault) (x : X) (fault : RecordFault) → result ≡ Ok x → result ≡ Err fault → ⊥
no_fault result x fault is same = cc

refused_get : {X : Type 0} (size count : ℕ) (key : List ℕ) (moment : ℕ) (result : Result X RecordFault) (fault : RecordFault) → result ≡ Err fault → ((result ≡ Err faults.HistoryFull) ↔ (max_calls ≤ count)) → AnswersAt size count (operations.Get key moment) (replies.Got (Err fault))
refused_get size count key moment result faults.HistoryFull is full = λ less. let past = full.0 is in omega (arith, less, past)
refused_get {X} size count key moment result faults.OutOfMemory is full = has_room result count full (λ same. other_fault result is same)

refused_removal : {X : Type 0} (size count : ℕ) (key : List ℕ) (result : Result X RecordFault) (fault : RecordFault) → result ≡ Err fault → ((result ≡ Err faults.HistoryFull) ↔ (max_calls ≤ count)) → AnswersAt size count (operations.Remove key) (replies.Removed (Err fault))
refused_removal size count key result faults.HistoryFull is full = λ less. let past = full.0 is in omega (arith, less, past)
refused_removal {X} size count key result faults.OutOfMemory is full = has_room result count full (λ same. other_fault result is same)

module _ {X : Type 0} (size count : ℕ) (key value : List ℕ) (result : Result X RecordPutFault) (large : (result ≡ Err put_faults.TooLarge) ↔ (room size < object_size key value)) (full : (result ≡ Err put_faults.HistoryFull) ↔ ((object_size key value ≤ room size) × (max_calls ≤ count))) where
  fits_alone : ((result ≡ Err put_faults.TooLarge) → ⊥) → FitsAlone size key value
  fits_alone not = elim (cases_lt (room size) (object_size key value)) [ inl over ↦ absurd (not (large.1 over)) | inr within ↦ within ]

  put_room : FitsAlone size key value → ((result ≡ Err put_faults.HistoryFull) → ⊥) → HasRoomFor count
  put_room fits not = elim (cases_lt count max_calls) [ inl less ↦ less | inr past ↦ absurd (not (full.1 (fits, past))) ]

no_put_fault : {X : Type 0} (result : Result X RecordPutFault) (x : X) (fault : RecordPutFault) → result ≡ Ok x → result ≡ Err fault → ⊥
no_put_fault result x fault is same = cc

not_large : {X : Type 0} (result : Result X RecordPutFault) → result ≡ Err put_faults.OutOfMemory → result ≡ Err put_faults.TooLarge → ⊥
not_large result is same = cc

not_full : {X : Type 0} (result : Result X RecordPutFault) → result ≡ Err put_faults.OutOfMemory → result ≡ Err put_faults.HistoryFull → ⊥
not_full result is same = cc

refused_put : {X : Type 0} (size count : ℕ) (key value : List ℕ) (word expires : ℕ) (result : Result X RecordPutFault) (fault : RecordPutFault) → result ≡ Err fault → ((result ≡ Err put_faults.TooLarge) ↔ (room size < object_size key value)) → ((result ≡ Err put_faults.HistoryFull) ↔ ((object_size key value ≤ room size) × (max_calls ≤ count))) → AnswersAt size count (operations.Put key value word expires) (replies.Stored (Err fault))
refused_put size count key value word expires result put_faults.TooLarge is large full = λ within. let over = large.0 is in omega (arith, within, over)
refused_put size count key value word expires result put_faults.HistoryFull is large full = ((full.0 is).0, λ less. let past = (full.0 is).1 in omega (arith, less, past))
refused_put size count key value word expires result put_faults.OutOfMemory is large full =
    let fits = fits_alone size count key value result large full (not_large result is) in
    (fits, put_room size count key value result large full fits (not_full result is))

-- ---- the steps

module _ {D : Type 0} (honest : D → Bool) (failures : D → ℕ) (held : D → ℕ → Option (List ℕ)) (old new : Lane D) (r : IsRecorded honest held new) where
  well_kept : IsWellKept new.store.layout new.lane (honest new.store.device) new.calls (lane_of held new.store)
  well_kept = record { starts = r.starts; points = r.points; few = r.few; its = r.keys; lawful = r.lawful; sound = r.sound }

  module _ (size caller start point : ℕ) (key : List ℕ) where
    -- the call that is recorded of an act
    abbrev called : Act → Noted
    called act = record { caller = caller; start = start; point = point; key = key; act = act }

    module _ (moment : ℕ) where
      pub got_ok : (result : Result Answer RecordFault) (answer : Answer) (n : Noted) → result ≡ Ok answer → n ≡ called (act_of moment answer) → new ≡ record old { store = new.store; calls = old.calls ++ called (act_of moment answer) ∷ [] } → StoreGets size honest failures held key moment old.store (Ok answer) new.store → ((result ≡ Err faults.HistoryFull) ↔ (max_calls ≤ length old.calls)) → LaneActs honest held size caller start point (operations.Get key moment) old (record { reply = replies.Got (Ok answer); noted = Some n }) new
      got_ok result answer n is noted recorded gets full = record {
        layout = gets.reads.layout;
        lane = ap (λ (l : Lane D). l.lane) recorded;
        honesty = gets.reads.honesty;
        kind = tt;
        refused = has_room result (length old.calls) full (no_fault result answer faults.HistoryFull is);
        noted = ap Some noted;
        recorded = ap (λ (l : Lane D). l.calls) recorded ∙ ap (λ (m : Noted). old.calls ++ m ∷ []) (sym noted);
        kept = well_kept;
        step = gets.gives;
      }

      -- what is given of a lane by an answer, or if memory was refused
      given_lane : (given : Result Answer AllocError) → StoreGets size honest failures held key moment old.store given new.store → IsTrue (honest old.store.device) → (lane_of held new.store ≡ lane_of held old.store) ⊎ ((answer : Answer) × GetGives key moment (lane_of held old.store) answer (lane_of held new.store))
      given_lane (Ok answer) gets h = inr (answer, gets.gives h)
      given_lane (Err e) gets h = inl (same_lane_held held old.store new.store gets.out_of_memory (gets.reads.same h))

      same_lane : MayHaveGot size honest failures held key moment old.store new.store → IsTrue (honest old.store.device) → (lane_of held new.store ≡ lane_of held old.store) ⊎ ((answer : Answer) × GetGives key moment (lane_of held old.store) answer (lane_of held new.store))
      same_lane (inl same) h = inl (ap (lane_of held) same)
      same_lane (inr got) h = given_lane got.0 got.1 h

      kept_layout : MayHaveGot size honest failures held key moment old.store new.store → new.store.layout ≡ old.store.layout
      kept_layout (inl same) = ap (λ (s : StoreState D). s.layout) same
      kept_layout (inr got) = got.1.reads.layout

      kept_honest : MayHaveGot size honest failures held key moment old.store new.store → honest new.store.device ≡ honest old.store.device
      kept_honest (inl same) = ap (λ (s : StoreState D). honest s.device) same
      kept_honest (inr got) = got.1.reads.honesty

      refused_step : {X : Type 0} (result : Result X RecordFault) (fault : RecordFault) → result ≡ Err fault → (result ≡ Err faults.HistoryFull → new ≡ old) → MayHaveGot size honest failures held key moment old.store new.store → IsTrue (honest old.store.device) → IsOperation size old.store.layout (operations.Get key moment) (lane_of held old.store) (replies.Got (Err fault)) (lane_of held new.store)
      refused_step result faults.HistoryFull is keeps either h = ap (λ (l : Lane D). lane_of held l.store) (keeps is)
      refused_step result faults.OutOfMemory is keeps either h = same_lane either h

      pub got_err : {X : Type 0} (result : Result X RecordFault) (fault : RecordFault) → result ≡ Err fault → new ≡ record old { store = new.store } → ((result ≡ Err faults.HistoryFull) ↔ (max_calls ≤ length old.calls)) → (result ≡ Err faults.HistoryFull → new ≡ old) → MayHaveGot size honest failures held key moment old.store new.store → LaneActs honest held size caller start point (operations.Get key moment) old (record { reply = replies.Got (Err fault); noted = None }) new
      got_err result fault is unrecorded full keeps either = record {
        layout = kept_layout either;
        lane = ap (λ (l : Lane D). l.lane) unrecorded;
        honesty = kept_honest either;
        kind = tt;
        refused = refused_get size (length old.calls) key moment result fault is full;
        noted = refl;
        recorded = ap (λ (l : Lane D). l.calls) unrecorded;
        kept = well_kept;
        step = refused_step result fault is keeps either;
      }

    pub removed_ok : {X : Type 0} (result : Result X RecordFault) (removal : X) → result ≡ Ok removal → new ≡ record old { store = new.store; calls = old.calls ++ called acts.Remove ∷ [] } → StoreRemoves held key old.store new.store → ((result ≡ Err faults.HistoryFull) ↔ (max_calls ≤ length old.calls)) → LaneActs honest held size caller start point (operations.Remove key) old (record { reply = replies.Removed (Ok tt); noted = Some (called acts.Remove) }) new
    removed_ok result removal is recorded removes full = record {
      layout = removes.layout;
      lane = ap (λ (l : Lane D). l.lane) recorded;
      honesty = ap honest removes.device;
      kind = tt;
      refused = has_room result (length old.calls) full (no_fault result removal faults.HistoryFull is);
      noted = refl;
      recorded = ap (λ (l : Lane D). l.calls) recorded;
      kept = well_kept;
      step = λ h. removes.removed;
    }

    pub removed_err : {X : Type 0} (result : Result X RecordFault) (fault : RecordFault) → result ≡ Err fault → new ≡ old → ((result ≡ Err faults.HistoryFull) ↔ (max_calls ≤ length old.calls)) → LaneActs honest held size caller start point (operations.Remove key) old (record { reply = replies.Removed (Err fault); noted = None }) new
    removed_err result fault is same full = record {
      layout = ap (λ (l : Lane D). l.store.layout) same;
      lane = ap (λ (l : Lane D). l.lane) same;
      honesty = ap (λ (l : Lane D). honest l.store.device) same;
      kind = tt;
      refused = refused_removal size (length old.calls) key result fault is full;
      noted = refl;
      recorded = ap (λ (l : Lane D). l.calls) same;
      kept = well_kept;
      step = λ h. ap (λ (l : Lane D). lane_of held l.store) same;
    }

    module _ (value : List ℕ) (word expires : ℕ) where
      pub stored_ok : (result : Result Pushed RecordPutFault) (pushed : Pushed) (n : Noted) → result ≡ Ok pushed → n ≡ called (acts.Put value expires) → new ≡ record old { store = new.store; calls = old.calls ++ called (acts.Put value expires) ∷ [] } → StorePuts size held (record { key = key; value = timed value expires }) word old.store (Ok pushed) new.store → ((result ≡ Err put_faults.TooLarge) ↔ (room size < object_size key value)) → ((result ≡ Err put_faults.HistoryFull) ↔ ((object_size key value ≤ room size) × (max_calls ≤ length old.calls))) → LaneActs honest held size caller start point (operations.Put key value word expires) old (record { reply = replies.Stored (Ok pushed); noted = Some n }) new
      stored_ok result pushed n is noted recorded puts large full =
          let fits = fits_alone size (length old.calls) key value result large full (no_put_fault result pushed put_faults.TooLarge is) in
          record {
            layout = puts.layout;
            lane = ap (λ (l : Lane D). l.lane) recorded;
            honesty = ap honest puts.device;
            kind = tt;
            refused = (fits, put_room size (length old.calls) key value result large full fits (no_put_fault result pushed put_faults.HistoryFull is));
            noted = ap Some noted;
            recorded = ap (λ (l : Lane D). l.calls) recorded ∙ ap (λ (m : Noted). old.calls ++ m ∷ []) (sym noted);
            kept = well_kept;
            step = λ h. puts.gives;
          }

      pub stored_err : {X : Type 0} (result : Result X RecordPutFault) (fault : RecordPutFault) → result ≡ Err fault → new ≡ old → ((result ≡ Err put_faults.TooLarge) ↔ (room size < object_size key value)) → ((result ≡ Err put_faults.HistoryFull) ↔ ((object_size key value ≤ room size) × (max_calls ≤ length old.calls))) → LaneActs honest held size caller start point (operations.Put key value word expires) old (record { reply = replies.Stored (Err fault); noted = None }) new
      stored_err result fault is same large full = record {
        layout = ap (λ (l : Lane D). l.store.layout) same;
        lane = ap (λ (l : Lane D). l.lane) same;
        honesty = ap (λ (l : Lane D). honest l.store.device) same;
        kind = tt;
        refused = refused_put size (length old.calls) key value word expires result fault is large full;
        noted = refl;
        recorded = ap (λ (l : Lane D). l.calls) same;
        kept = well_kept;
        step = λ h. ap (λ (l : Lane D). lane_of held l.store) same;
      }

  pub flushed_so : (size lane : ℕ) (flushed : Flushed) → new ≡ record old { store = new.store } → StoreFlushes honest failures held old.store flushed new.store → LaneSteps honest held size (events.Flush lane) old (replies.Flushed flushed) new
  flushed_so size lane flushed unrecorded flushes = record {
    layout = ap (λ (s : StoreState D). s.layout) flushes.rest;
    lane = ap (λ (l : Lane D). l.lane) unrecorded;
    honesty = flushes.honesty;
    kind = tt;
    recorded = ap (λ (l : Lane D). l.calls) unrecorded;
    kept = well_kept;
    step = flushes.gives;
  }

  begun_step : (size lane : ℕ) (layout : Layout) (old new : LaneState) (result : Result Begin AllocError) → IfOk result (λ begun. BeginGives size layout.threshold old begun new) → OnErr result (new ≡ old) → IsBackground size layout (events.MoveBegin lane) old (replies.MoveBegun result) new
  begun_step size lane layout old new (Ok begun) gives stays = gives
  begun_step size lane layout old new (Err refused) gives stays = stays

  pub begun_so : (size lane : ℕ) (result : Result Begin AllocError) → new ≡ record old { store = new.store } → StoreBegins size honest failures held old.store result new.store → LaneSteps honest held size (events.MoveBegin lane) old (replies.MoveBegun result) new
  begun_so size lane result unrecorded begins = record {
    layout = begins.writes.layout;
    lane = ap (λ (l : Lane D). l.lane) unrecorded;
    honesty = begins.writes.honesty;
    kind = tt;
    recorded = ap (λ (l : Lane D). l.calls) unrecorded;
    kept = well_kept;
    step = λ h. begun_step size lane old.store.layout (lane_of held old.store) (lane_of held new.store) result (begins.gives h) (begins.lane_stays h);
  }

  pub committed_so : (size lane : ℕ) (plan : List Choice) (number : ℕ) (answer : Committed) → new ≡ record old { store = new.store } → StoreCommits size honest failures held plan number old.store answer new.store → LaneSteps honest held size (events.Commit lane plan number) old (replies.Committed answer) new
  committed_so size lane plan number answer unrecorded commits = record {
    layout = commit_keeps_layout plan number old.store answer new.store commits.leaves;
    lane = ap (λ (l : Lane D). l.lane) unrecorded;
    honesty = commits.honesty;
    kind = tt;
    recorded = ap (λ (l : Lane D). l.calls) unrecorded;
    kept = well_kept;
    step = commits.gives;
  }

  abort_keeps_device : (number : ℕ) (answer : Aborted) (s : StoreState D) → (after_abort number answer s).device ≡ s.device
  abort_keeps_device number aborted.Aborted s = refl
  abort_keeps_device number aborted.StalePlan s = refl

  pub aborted_so : (size lane number : ℕ) (answer : Aborted) → new ≡ record old { store = new.store } → StoreAborts held number old.store answer new.store → LaneSteps honest held size (events.Abort lane number) old (replies.Aborted answer) new
  aborted_so size lane number answer unrecorded aborts = record {
    layout = ap (λ (s : StoreState D). s.layout) aborts.leaves ∙ abort_keeps_layout number answer old.store;
    lane = ap (λ (l : Lane D). l.lane) unrecorded;
    honesty = ap honest (ap (λ (s : StoreState D). s.device) aborts.leaves ∙ abort_keeps_device number answer old.store);
    kind = tt;
    recorded = ap (λ (l : Lane D). l.calls) unrecorded;
    kept = well_kept;
    step = λ h. aborts.gives;
  }
