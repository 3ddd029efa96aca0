-- Each step of a lane in a run keeps what is true of it and of the calls that it recorded.
use Rattle.std.proofs.Common.{◌≡◌, ◌<◌, ℕ, true, List, [], ◌∷◌, ◌++◌, length, Some, None, sym, refl, subst, inl, inr, arith}
use Rattle.std.specs.Prelude.{All, Ok, Err}
use Rattle.std.proofs.lemmas.List.{map-append, length-append}
use Rattle.std.proofs.lemmas.List.Elements.{All-push}
use Rattle.std.proofs.lemmas.List.Quantifiers.{all_pairs_push}
use Rattle.record_pages.specs.Expiry.{timed}
use Rattle.record_pages.specs.declared.answer.Answer.{Answer}
use Rattle.record_pages.specs.declared.layout.Layout.{Layout}
use Rattle.memory_cache.specs.declared.pair.Pair.{Pair}
use Rattle.trace_file.specs.declared.act.Act.TheVariants as acts
use Rattle.certificate_checker.specs.Current.{current, given_at}
use Rattle.certificate_checker.specs.Latest.{IsLawful}
use Rattle.certificate_checker.proofs.public_laws.Growing.{lawful-push}
use Rattle.mover.specs.Lane.{LaneState}
use Rattle.mover.specs.Laws.{IsInOrder, StepsInOrder}
use Rattle.mover.specs.Get.{GetGives}
use Rattle.mover.proofs.public_laws.StepLaws.{get_law, put_law, removal_law, flush_law, begin_law, commit_law, abort_law}
use Rattle.recorded_lane.specs.declared.noted.Noted.{Noted}
use Rattle.recorded_lane.specs.declared.record_fault.RecordFault.TheVariants as faults
use Rattle.recorded_lane.specs.Lane.{deed_noted, deeds_of, act_of, IsOfLane, IsSound}
use Rattle.history_recorder.specs.declared.event.Event.{Event}
use Rattle.history_recorder.specs.declared.event.Event.TheVariants as events
use Rattle.history_recorder.specs.declared.operation.Operation.{Operation}
use Rattle.history_recorder.specs.declared.operation.Operation.TheVariants as operations
use Rattle.history_recorder.specs.declared.reply.Reply.{Reply}
use Rattle.history_recorder.specs.declared.reply.Reply.TheVariants as replies
use Rattle.history_recorder.specs.Operations.{lane_of, noted_by, calls_with, HasRoomFor, AnswersAt}
use Rattle.history_recorder.specs.Commands.{IsOperation, IsBackground}
use Rattle.history_recorder.specs.Game.{IsWellKept}
use Rattle.deeds.proofs.public_laws.Sounding.{sound_by, sound_read, sound_put, sound_remove, hit_is, none_some}

-- what is true of a lane over an honest device, and of the calls that it recorded
abbrev pub IsKeptLane : Layout → ℕ → List Noted → LaneState → Type 0
IsKeptLane layout lane calls state = IsWellKept layout lane true calls state × IsInOrder state

module _ (layout : Layout) (lane : ℕ) (calls : List Noted) (old new : LaneState) (kept : IsKeptLane layout lane calls old) where
  abbrev well : IsWellKept layout lane true calls old
  well = kept.0

  -- a step that does nothing
  same : new ≡ old → IsKeptLane layout lane calls new
  same is = subst (IsKeptLane layout lane calls) (sym is) kept

  -- a step that is no call
  still : StepsInOrder None None old new → IsKeptLane layout lane calls new
  still steps = (
    record {
      starts = well.starts;
      points = well.points;
      few = well.few;
      its = well.its;
      lawful = well.lawful;
      sound = λ is. sound_by None None (deeds_of calls) (deeds_of calls) old new (λ p no. absurd (none_some no)) (λ p other. refl) (well.sound is) steps.shows;
    },
    steps.order,
  )

  -- a background step
  pub behind_kept : (size : ℕ) (event : Event) (reply : Reply) → IsBackground size layout event old reply new → IsKeptLane layout lane calls new
  behind_kept size (events.Flush at) (replies.Flushed flushed) step = still (flush_law old new flushed kept.1 step)
  behind_kept size (events.MoveBegin at) (replies.MoveBegun (Ok begun)) step = still (begin_law size layout.threshold old new begun kept.1 step)
  behind_kept size (events.MoveBegin at) (replies.MoveBegun (Err refused)) step = same step
  behind_kept size (events.Commit at plan number) (replies.Committed answer) step = still (commit_law size plan number old new answer kept.1 step)
  behind_kept size (events.Abort at number) (replies.Aborted answer) step = still (abort_law number old new answer kept.1 step)
  behind_kept size event reply step = absurd step

  -- ---- a call more

  with_call : (n : Noted) → n.start < n.point → All (λ (m : Noted). m.point < n.point) calls → IsOfLane layout lane n.key → HasRoomFor (length calls) → IsSound new (deeds_of calls ++ deed_noted n ∷ []) → ((value : List ℕ) (asked : ℕ) → n.act ≡ acts.Hit value asked → given_at asked (current (deeds_of calls) n.key) ≡ Some value) → IsInOrder new → IsKeptLane layout lane (calls ++ n ∷ []) new
  with_call n start rises own room sound hits order =
      let more = map-append deed_noted calls (n ∷ []) in (
        record {
          starts = All-push (λ (m : Noted). m.start < m.point) calls n well.starts start;
          points = all_pairs_push (λ (a b : Noted). a.point < b.point) calls n well.points rises;
          few = omega (arith, length-append calls (n ∷ []), room);
          its = All-push (λ (m : Noted). IsOfLane layout lane m.key) calls n well.its own;
          lawful = λ is. subst IsLawful (sym more) (lawful-push (deeds_of calls) (deed_noted n) (well.lawful is) hits);
          sound = λ is. subst (IsSound new) (sym more) sound;
        },
        order,
      )

  module _ (size caller start point : ℕ) (began : start < point) (rises : All (λ (m : Noted). m.point < point) calls) where
    got_kept : (key : List ℕ) (moment : ℕ) (answer : Answer) → IsOfLane layout lane key → HasRoomFor (length calls) → GetGives key moment old answer new → IsKeptLane layout lane (calls ++ record { caller = caller; start = start; point = point; key = key; act = act_of moment answer } ∷ []) new
    got_kept key moment answer own room step =
        let n : Noted = record { caller = caller; start = start; point = point; key = key; act = act_of moment answer } in
        let law = get_law key moment old new answer kept.1 step in
        let sound = well.sound refl in
        with_call n began rises own room (sound_read (deeds_of calls) (deed_noted n) moment answer old new refl sound law.0.shows) (λ value asked hit. hit_is (deeds_of calls) key value moment asked old answer sound law.1 hit) law.0.order

    -- an act, recorded or refused
    pub acted_kept : (operation : Operation) (reply : Reply) → lane_of layout operation ≡ lane → AnswersAt size (length calls) operation reply → IsOperation size layout operation old reply new → IsKeptLane layout lane (calls_with calls (noted_by caller start point operation reply)) new
    acted_kept (operations.Get key moment) (replies.Got (Ok answer)) own room step = got_kept key moment answer own room step
    acted_kept (operations.Get key moment) (replies.Got (Err faults.HistoryFull)) own full step = same step
    acted_kept (operations.Get key moment) (replies.Got (Err faults.OutOfMemory)) own room (inl is) = same is
    acted_kept (operations.Get key moment) (replies.Got (Err faults.OutOfMemory)) own room (inr found) = still (get_law key moment old new found.0 kept.1 found.1).0
    acted_kept (operations.Put key value word expires) (replies.Stored (Ok pushed)) own fits step =
        let n : Noted = record { caller = caller; start = start; point = point; key = key; act = acts.Put value expires } in
        let pair : Pair = record { key = key; value = timed value expires } in
        let law = put_law size layout.admit word pair old new pushed kept.1 step in
        with_call n began rises own fits.1 (sound_put (deeds_of calls) (deed_noted n) key value expires old new refl refl (well.sound refl) law.shows) (λ v asked hit. let both : acts.Put value expires ≡ acts.Hit v asked = hit in absurd cc) law.order
    acted_kept (operations.Put key value word expires) (replies.Stored (Err fault)) own fits step = same step
    acted_kept (operations.Remove key) (replies.Removed (Ok done)) own room step =
        let n : Noted = record { caller = caller; start = start; point = point; key = key; act = acts.Remove } in
        let law = removal_law key old new kept.1 step in
        with_call n began rises own room (sound_remove (deeds_of calls) (deed_noted n) key old new refl (well.sound refl) law.shows) (λ v asked hit. let both : acts.Remove ≡ acts.Hit v asked = hit in absurd cc) law.order
    acted_kept (operations.Remove key) (replies.Removed (Err fault)) own room step = same step
    acted_kept operation reply own answers step = absurd step
