-- Each event of a run keeps what is true of its world, and what is true at its end makes its history accepted.
use Rattle.std.proofs.Common.{◌≡◌, ◌<◌, ◌≤◌, ◌+◌, ◌*◌, ℕ, zero, suc, true, List, [], ◌∷◌, ◌++◌, length, set, map, replicate, Option, Some, None, sym, ap, ◌∙◌, refl, subst, arith}
use Rattle.std.specs.Prelude.{All, slice_get, slice_set, slice_index_or, option_map}
use Rattle.std.proofs.lemmas.List.{map-set}
use Rattle.std.proofs.lemmas.List.Elements.{All-nil, All-cons}
use Rattle.std.proofs.lemmas.Option.{get_or_from_slice_get, same_Some}
use Rattle.record_pages.specs.declared.layout.Layout.{Layout}
use Rattle.trace_file.specs.declared.act.Act.{Act}
use Rattle.trace_file.specs.declared.call.Call.{Call}
use Rattle.certificate_checker.specs.Acceptance.{IsAccepted}
use Rattle.certificate_checker.specs.Lanes.{IsLaidOut}
use Rattle.certificate_checker.proofs.public_laws.LaneLemmas.{lanes_accepted}
use Rattle.mover.specs.Lane.{LaneState}
use Rattle.mover.specs.Laws.{IsInOrder, opening_lane}
use Rattle.mover.proofs.public_laws.WholeLaws.{opening_law}
use Rattle.recorded_lane.specs.declared.noted.Noted.{Noted}
use Rattle.history_recorder.specs.declared.event.Event.{Event}
use Rattle.history_recorder.specs.declared.event.Event.TheVariants as events
use Rattle.history_recorder.specs.declared.operation.Operation.{Operation}
use Rattle.history_recorder.specs.declared.phase.Phase.TheVariants as phases
use Rattle.history_recorder.specs.declared.reply.Reply.{Reply}
use Rattle.history_recorder.specs.declared.reply.Reply.TheVariants as replies
use Rattle.history_recorder.specs.Operations.{key_of, lane_of, act_done, noted_by, calls_with, AnswersAt}
use Rattle.history_recorder.specs.Commands.{IsOperation, IsBackground}
use Rattle.history_recorder.specs.Books.{Books, noted_of, lane_at, booked, drawn, after_act, after_act_in, after_event, books_after, dones, IsDoing, IsReplied, HasStarted}
use Rattle.history_recorder.specs.World.{World, OneSteps, LanesStep, Happens, IsRun, IsSoundWorld}
use Rattle.history_recorder.specs.Game.{IsGame, IsWellKept, last_world}
use Rattle.history_recorder.specs.Opened.{beginning}
use Rattle.history_recorder.specs.Laws.{RunsAreSound, RunsAreAccepted}
use Rattle.history_recorder.proofs.public_laws.Indexing.{map_has, set_nothing, all_set, all_then, at_so}
use Rattle.history_recorder.proofs.Booking.{GoesOn, event_on, same_on, opening_kept, end_records, call_noted, noted_at}
use Rattle.history_recorder.proofs.GameKept.{game_books, game_step, booked_of, counted_at, reached, sound_world}
use Rattle.history_recorder.proofs.Ended.{ends_lanes, ends_apart}
use Rattle.deeds.proofs.public_laws.Sounding.{no_deed}
use Rattle.history_recorder.proofs.LanesRun.{IsKeptLane, behind_kept, acted_kept}

-- a lane of a run: its number, the calls that it recorded, and what it holds
record LaneRun : Type 0 where
  pub lane : ℕ
  pub calls : List Noted
  pub state : LaneState

-- the books and the lanes of a run go together
abbrev IsGoing : Layout → Books → List LaneRun → Type 0
IsGoing layout books lanes = IsGame (λ (l : LaneRun). layout) (λ (l : LaneRun). l.lane) (λ (l : LaneRun). true) (λ (l : LaneRun). l.calls) (λ (l : LaneRun). l.state) layout books lanes

-- what is true of a world at each moment of a run
record IsRunning (layout : Layout) (w : World) : Type 0 where
  pub lanes : List LaneRun
  pub states : map (λ (l : LaneRun). l.state) lanes ≡ w.states
  pub going : IsGoing layout w.books lanes
  pub order : All (λ (l : LaneRun). IsInOrder l.state) lanes

-- an act records the call that its reply tells
act_records : (layout : Layout) (books : Books) (caller start : ℕ) (operation : Operation) (calls : List Noted) (o : Option Act) → slice_get (map noted_of books.lanes) (lane_of layout operation) ≡ Some calls → map noted_of (after_act layout books caller start operation o).lanes ≡ slice_set (map noted_of books.lanes) (lane_of layout operation) (calls_with calls (option_map (λ act. record { caller = caller; start = start; point = books.number + 1; key = key_of operation; act = act }) o))
act_records layout books caller start operation calls None at = sym (set_nothing (map noted_of books.lanes) (lane_of layout operation) calls at)
act_records layout books caller start operation calls (Some act) at =
    let lane = lane_of layout operation in
    let c = booked caller start (books.number + 1) operation act in
    call_noted books.lanes lane c
    ∙ ap (λ ns. slice_set (map noted_of books.lanes) lane (ns ++ c.noted ∷ [])) (noted_at books.lanes lane calls at)

module _ (size : ℕ) (layout : Layout) (w : World) (running : IsRunning layout w) where
  abbrev lanes : List LaneRun
  lanes = running.lanes

  -- an event that leaves the lanes as they were
  at_rest : (books : Books) (states : List LaneState) → GoesOn w.books books → map noted_of books.lanes ≡ map noted_of w.books.lanes → states ≡ w.states → IsRunning layout (record { books = books; states = states })
  at_rest books states on records same = record {
    lanes = lanes;
    states = running.states ∙ sym same;
    going = game_books (λ (l : LaneRun). layout) (λ (l : LaneRun). l.lane) (λ (l : LaneRun). true) (λ (l : LaneRun). l.calls) (λ (l : LaneRun). l.state) layout w.books books on lanes records running.going;
    order = running.order;
  }

  -- one lane took a step, which records what this makes of its calls
  one_stepped : (books : Books) (states : List LaneState) (at : ℕ) (R : LaneState → LaneState → Type 0) (more : List Noted → List Noted) → GoesOn w.books books → OneSteps at R w.states states → ((l : LaneRun) → slice_get lanes at ≡ Some l → map noted_of books.lanes ≡ set (map noted_of w.books.lanes) at (more l.calls)) → ((l : LaneRun) (is : LaneState) → slice_get lanes at ≡ Some l → IsKeptLane layout l.lane l.calls l.state → R l.state is → IsKeptLane layout l.lane (more l.calls) is) → IsRunning layout (record { books = books; states = states })
  one_stepped books states at R more on step records keeps =
      let had = map_has (λ (l : LaneRun). l.state) lanes at step.was (ap (λ ss. slice_get ss at) running.states ∙ step.before) in
      let l = had.0 in
      let was : IsKeptLane layout l.lane l.calls l.state = (at_so (λ (m : LaneRun). IsWellKept layout m.lane true m.calls m.state) lanes at l running.going.kept had.1, at_so (λ (m : LaneRun). IsInOrder m.state) lanes at l running.order had.1) in
      let is = keeps l step.is had.1 was (subst (λ s. R s step.is) (sym had.2) step.step) in
      let after : LaneRun = record { lane = l.lane; calls = more l.calls; state = step.is } in
      record {
        lanes = set lanes at after;
        states = map-set (λ (m : LaneRun). m.state) lanes at after ∙ ap (λ ss. set ss at step.is) running.states ∙ sym step.after;
        going = game_step (λ (m : LaneRun). layout) (λ (m : LaneRun). m.lane) (λ (m : LaneRun). true) (λ (m : LaneRun). m.calls) (λ (m : LaneRun). m.state) layout w.books books on lanes at l after had.1 refl refl is.0 (records l had.1) running.going;
        order = all_set (λ (m : LaneRun). IsInOrder m.state) lanes at after is.1 running.order;
      }

  -- ---- each event

  -- an act of a caller that is doing this
  act_runs : (caller start : ℕ) (operation : Operation) (reply : Reply) (states : List LaneState) → GoesOn w.books (after_act layout w.books caller start operation (act_done operation reply)) → IsDoing w.books caller (phases.Began start operation) → AnswersAt size (length (lane_at w.books.lanes (lane_of layout operation))) operation reply → OneSteps (lane_of layout operation) (λ was is. IsOperation size layout operation was reply is) w.states states → IsRunning layout (record { books = after_act layout w.books caller start operation (act_done operation reply); states = states })
  act_runs caller start operation reply states on doing answers step =
      let books = w.books in
      let at = lane_of layout operation in
      let began : start ≤ books.number = at_so (HasStarted books.number) books.callers caller (phases.Began start operation) running.going.booked.started doing in
      one_stepped (after_act layout books caller start operation (act_done operation reply)) states at (λ was is. IsOperation size layout operation was reply is) (λ calls. calls_with calls (noted_by caller start (books.number + 1) operation reply)) on step
      (λ l here. act_records layout books caller start operation l.calls (act_done operation reply) (booked_of (λ (m : LaneRun). layout) (λ (m : LaneRun). m.lane) (λ (m : LaneRun). true) (λ (m : LaneRun). m.calls) (λ (m : LaneRun). m.state) layout books lanes running.going at l here))
      (λ l is here was does.
      let counted = counted_at (λ (m : LaneRun). layout) (λ (m : LaneRun). m.lane) (λ (m : LaneRun). true) (λ (m : LaneRun). m.calls) (λ (m : LaneRun). m.state) layout books lanes running.going at l here in
      let past = reached (λ (m : LaneRun). layout) (λ (m : LaneRun). m.lane) (λ (m : LaneRun). true) (λ (m : LaneRun). m.calls) (λ (m : LaneRun). m.state) layout books lanes running.going at l here in
      acted_kept layout l.lane l.calls l.state is was size caller start (books.number + 1) (omega (arith, began))
      (all_then (λ (m : Noted). m.point ≤ books.number) (λ (m : Noted). m.point < books.number + 1) l.calls (λ m below. omega (arith, below)) past)
      operation reply (sym (running.going.numbers at l here)) (subst (λ n. AnswersAt size n operation reply) counted answers) does)

  -- the start and the operation of a caller are those that it began
  same_call : (caller start other : ℕ) (operation another : Operation) → IsDoing w.books caller (phases.Began start operation) → IsDoing w.books caller (phases.Began other another) → another ≡ operation
  same_call caller start other operation another doing does =
      let same : phases.Began other another ≡ phases.Began start operation = same_Some (phases.Began other another) (phases.Began start operation) (sym does ∙ doing) in
      cc

  acting : (caller : ℕ) (reply : Reply) (states : List LaneState) (start : ℕ) (operation : Operation) → GoesOn w.books (after_act_in layout w.books caller (slice_index_or w.books.callers caller phases.Idle) reply) → IsDoing w.books caller (phases.Began start operation) → AnswersAt size (length (lane_at w.books.lanes (lane_of layout operation))) operation reply → OneSteps (lane_of layout operation) (λ was is. IsOperation size layout operation was reply is) w.states states → IsRunning layout (record { books = after_act_in layout w.books caller (slice_index_or w.books.callers caller phases.Idle) reply; states = states })
  acting caller reply states start operation on doing answers step =
      let phase : slice_index_or w.books.callers caller phases.Idle ≡ phases.Began start operation = get_or_from_slice_get w.books.callers caller (phases.Began start operation) phases.Idle doing in
      subst (λ p. IsRunning layout (record { books = after_act_in layout w.books caller p reply; states = states })) (sym phase)
      (act_runs caller start operation reply states (subst (λ p. GoesOn w.books (after_act_in layout w.books caller p reply)) phase on) doing answers step)

  -- a background step
  behind : (event : Event) (reply : Reply) (at : ℕ) (states : List LaneState) → OneSteps at (λ was is. IsBackground size layout event was reply is) w.states states → IsRunning layout (record { books = w.books; states = states })
  behind event reply at states step =
      one_stepped w.books states at (λ was is. IsBackground size layout event was reply is) (λ calls. calls) (same_on w.books running.going.booked) step
      (λ l here. sym (set_nothing (map noted_of w.books.lanes) at l.calls (booked_of (λ (m : LaneRun). layout) (λ (m : LaneRun). m.lane) (λ (m : LaneRun). true) (λ (m : LaneRun). m.calls) (λ (m : LaneRun). m.state) layout w.books lanes running.going at l here)))
      (λ l is here was does. behind_kept layout l.lane l.calls l.state is was size event reply does)

  event_runs : (event : Event) (reply : Reply) (states : List LaneState) → GoesOn w.books (after_event layout w.books event reply) → IsReplied size layout w.books event reply → LanesStep size layout w.books w.states event reply states → IsRunning layout (record { books = after_event layout w.books event reply; states = states })
  event_runs event replies.Ignored states on so step = at_rest w.books states on refl step
  event_runs (events.Begin caller operation) reply states on so step = at_rest (drawn w.books caller (phases.Began (w.books.number + 1) operation)) states on refl step
  event_runs (events.Act caller) reply states on so step =
      let can = so.1 in
      let same = same_call caller step.0 can.0 step.1 can.1 step.2 can.2 in
      acting caller reply states step.0 step.1 on step.2 (subst (λ o. AnswersAt size (length (lane_at w.books.lanes (lane_of layout o))) o reply) same can.4) step.3
  event_runs (events.End caller) reply states on so step = at_rest (after_event layout w.books (events.End caller) reply) states on (end_records layout w.books caller reply) step
  event_runs (events.Flush at) reply states on so step = behind (events.Flush at) reply at states step
  event_runs (events.MoveBegin at) reply states on so step = behind (events.MoveBegin at) reply at states step
  event_runs (events.Commit at plan number) reply states on so step = behind (events.Commit at plan number) reply at states step
  event_runs (events.Abort at number) reply states on so step = behind (events.Abort at number) reply at states step

  happens_runs : (event : Event) (reply : Reply) (new : World) → Happens size layout w event reply new → IsRunning layout new
  happens_runs event reply new happens =
      subst (λ (books : Books). IsRunning layout (record { books = books; states = new.states })) (sym happens.books)
      (event_runs event reply new.states (event_on w.books running.going.booked layout event reply) happens.replied happens.states)

  -- its lanes are sound
  sound_running : IsSoundWorld w
  sound_running = subst (λ ss. IsSoundWorld (record { books = w.books; states = ss })) running.states (sound_world (λ (l : LaneRun). layout) (λ (l : LaneRun). l.lane) (λ (l : LaneRun). true) (λ (l : LaneRun). l.calls) (λ (l : LaneRun). l.state) layout w.books lanes running.going (λ k d lt. refl))

  -- its calls are accepted as they are laid out
  running_accepted : (history : List Call) (certificate : List ℕ) → IsLaidOut (dones w.books) history certificate → IsAccepted history certificate
  running_accepted history certificate laid =
      lanes_accepted (dones w.books)
      (ends_lanes (λ (l : LaneRun). layout) (λ (l : LaneRun). l.lane) (λ (l : LaneRun). true) (λ (l : LaneRun). l.calls) (λ (l : LaneRun). l.state) layout w.books lanes running.going (λ k d lt. refl))
      (ends_apart (λ (l : LaneRun). layout) (λ (l : LaneRun). l.lane) (λ (l : LaneRun). true) (λ (l : LaneRun). l.calls) (λ (l : LaneRun). l.state) layout w.books lanes running.going)
      history certificate laid

-- ---- a run

-- after each event of a run
record Ran (layout : Layout) (old : World) (events : List Event) (replies : List Reply) (worlds : List World) : Type 0 where
  pub sound : All IsSoundWorld worlds
  pub last : IsRunning layout (last_world old worlds)
  pub books : (last_world old worlds).books ≡ books_after layout old.books events replies

run_runs : (size : ℕ) (layout : Layout) (old : World) (events : List Event) (replies : List Reply) (worlds : List World) → IsRun size layout old events replies worlds → IsRunning layout old → Ran layout old events replies worlds
run_runs size layout old [] [] [] run running = record { sound = All-nil IsSoundWorld; last = running; books = refl }
run_runs size layout old (event ∷ events) (reply ∷ replies) (new ∷ worlds) run running =
    let now = happens_runs size layout old running event reply new run.0 in
    let rest = run_runs size layout new events replies worlds run.1 now in
    record {
      sound = All-cons IsSoundWorld new worlds (sound_running size layout new now) rest.sound;
      last = rest.last;
      books = rest.books ∙ ap (λ b. books_after layout b events replies) run.0.books;
    }
run_runs size layout old [] [] (new ∷ worlds) run running = absurd run
run_runs size layout old [] (reply ∷ replies) worlds run running = absurd run
run_runs size layout old (event ∷ events) [] worlds run running = absurd run
run_runs size layout old (event ∷ events) (reply ∷ replies) [] run running = absurd run

-- ---- how it begins

-- lanes that were just opened, the first with this number
abbrev lanes_from : Layout → ℕ → List (ℕ → Option (List ℕ)) → List LaneRun
lanes_from layout number [] = []
lanes_from layout number (held ∷ pages) = record { lane = number; calls = []; state = opening_lane layout held } ∷ lanes_from layout (suc number) pages

module _ (layout : Layout) where
  states_from : (number : ℕ) (pages : List (ℕ → Option (List ℕ))) → map (λ (l : LaneRun). l.state) (lanes_from layout number pages) ≡ map (opening_lane layout) pages
  states_from number [] = refl
  states_from number (held ∷ pages) = ap (λ ss. opening_lane layout held ∷ ss) (states_from (suc number) pages)

  many_from : (number : ℕ) (pages : List (ℕ → Option (List ℕ))) → length (lanes_from layout number pages) ≡ length pages
  many_from number [] = refl
  many_from number (held ∷ pages) = ap suc (many_from (suc number) pages)

  numbers_from : (number : ℕ) (pages : List (ℕ → Option (List ℕ))) (i : ℕ) (l : LaneRun) → slice_get (lanes_from layout number pages) i ≡ Some l → l.lane ≡ number + i
  numbers_from number [] i l at = let no : None ≡ Some l = at in cc
  numbers_from number (held ∷ pages) zero l at =
      let is = ap (λ (m : LaneRun). m.lane) (same_Some (record { lane = number; calls = []; state = opening_lane layout held }) l at) in
      omega (arith, is)
  numbers_from number (held ∷ pages) (suc i) l at = let is = numbers_from (suc number) pages i l at in omega (arith, is)

  -- a lane that was just opened
  kept_first : (number : ℕ) (held : ℕ → Option (List ℕ)) → IsKeptLane layout number [] (opening_lane layout held)
  kept_first number held =
      let law = opening_law (8 * layout.sets) held layout in (
        record {
          starts = λ k d within. absurd (omega (arith, within));
          points = λ i j d less within. absurd (omega (arith, within));
          few = omega arith;
          its = λ k d within. absurd (omega (arith, within));
          lawful = λ is before after deed value moment split. absurd (no_deed before after deed split);
          sound = λ is p shown. absurd (law.1 p shown);
        },
        law.0,
      )

  kept_from : (number : ℕ) (pages : List (ℕ → Option (List ℕ))) → All (λ (l : LaneRun). IsWellKept layout l.lane true l.calls l.state) (lanes_from layout number pages) × All (λ (l : LaneRun). IsInOrder l.state) (lanes_from layout number pages)
  kept_from number [] = (All-nil (λ (l : LaneRun). IsWellKept layout l.lane true l.calls l.state), All-nil (λ (l : LaneRun). IsInOrder l.state))
  kept_from number (held ∷ pages) =
      let first : LaneRun = record { lane = number; calls = []; state = opening_lane layout held } in
      let it = kept_first number held in
      let rest = kept_from (suc number) pages in
      (All-cons (λ (l : LaneRun). IsWellKept layout l.lane true l.calls l.state) first (lanes_from layout (suc number) pages) it.0 rest.0, All-cons (λ (l : LaneRun). IsInOrder l.state) first (lanes_from layout (suc number) pages) it.1 rest.1)

  calls_from : (number : ℕ) (pages : List (ℕ → Option (List ℕ))) → map (λ (l : LaneRun). l.calls) (lanes_from layout number pages) ≡ replicate (length pages) []
  calls_from number [] = refl
  calls_from number (held ∷ pages) = ap (λ cs. [] ∷ cs) (calls_from (suc number) pages)

  none_noted : (n : ℕ) → map noted_of (replicate n []) ≡ replicate n []
  none_noted zero = refl
  none_noted (suc n) = ap (λ ns. [] ∷ ns) (none_noted n)

  begins : (callers : ℕ) (pages : List (ℕ → Option (List ℕ))) → length pages ≡ layout.lanes → IsRunning layout (beginning layout callers pages)
  begins callers pages one_each = record {
    lanes = lanes_from layout 0 pages;
    states = states_from 0 pages;
    going = record {
      all = many_from 0 pages ∙ one_each;
      layouts = λ k d lt. refl;
      numbers = λ i l at. let is = numbers_from 0 pages i l at in omega (arith, is);
      kept = (kept_from 0 pages).0;
      booked = opening_kept layout.lanes callers;
      linked = none_noted layout.lanes ∙ ap (λ n. replicate n []) (sym one_each) ∙ sym (calls_from 0 pages);
    };
    order = (kept_from 0 pages).1;
  }

-- ---- the laws

pub sound_runs : RunsAreSound
sound_runs size layout callers pages events replies worlds one_each run =
    (run_runs size layout (beginning layout callers pages) events replies worlds run (begins layout callers pages one_each)).sound

pub accepted_runs : RunsAreAccepted
accepted_runs size layout callers pages events replies worlds history certificate one_each run laid =
    let ran = run_runs size layout (beginning layout callers pages) events replies worlds run (begins layout callers pages one_each) in
    running_accepted size layout (last_world (beginning layout callers pages) worlds) ran.last history certificate
    (subst (λ b. IsLaidOut (dones b) history certificate) (sym ran.books) laid)
