-- What each event keeps of the books.
use Rattle.std.proofs.Common.{◌≡◌, ◌≤◌, ◌+◌, ℕ, zero, suc, List, [], ◌∷◌, ◌++◌, length, map, Option, Some, None, sym, ap, ◌∙◌, refl, arith, length-set}
use Rattle.std.specs.Prelude.{All, slice_get, slice_set, slice_index_or}
use Rattle.std.proofs.lemmas.List.{map-append}
use Rattle.std.proofs.lemmas.List.Elements.{All-nil, All-cons, All-head, All-tail, All-push, All-replicate}
use Rattle.std.proofs.lemmas.Option.{get_or_from_slice_get}
use Rattle.record_pages.specs.declared.layout.Layout.{Layout}
use Rattle.trace_file.specs.declared.act.Act.{Act}
use Rattle.recorded_lane.specs.declared.noted.Noted.{Noted}
use Rattle.history_recorder.specs.declared.recorded_call.RecordedCall.{RecordedCall}
use Rattle.history_recorder.specs.declared.event.Event.{Event}
use Rattle.history_recorder.specs.declared.event.Event.TheVariants as events
use Rattle.history_recorder.specs.declared.operation.Operation.{Operation}
use Rattle.history_recorder.specs.declared.phase.Phase.{Phase}
use Rattle.history_recorder.specs.declared.phase.Phase.TheVariants as phases
use Rattle.history_recorder.specs.declared.reply.Reply.{Reply}
use Rattle.history_recorder.specs.declared.reply.Reply.TheVariants as replies
use Rattle.history_recorder.specs.Operations.{lane_of, act_done, calls_with}
use Rattle.history_recorder.specs.Books.{Books, AreKept, HasStarted, IsDoneBy, opening_books, noted_of, lane_at, booked, ended_at, with_call, with_end, drawn, after_act, after_act_in, after_end_in, after_event, after_noted}
use Rattle.history_recorder.proofs.public_laws.Indexing.{all_set, all_then, at_or, set_nothing, map_has}

-- ---- numbers rise

later_phase : (n m : ℕ) → n ≤ m → (phase : Phase) → HasStarted n phase → HasStarted m phase
later_phase n m rises phases.Idle h = tt
later_phase n m rises (phases.Began start operation) h = omega (arith, h)
later_phase n m rises (phases.Acted lane position) h = tt

later_done : (n m : ℕ) → n ≤ m → (c : RecordedCall) → IsDoneBy n c → IsDoneBy m c
later_done n m rises c done = (omega (arith, done.0), done.1)

all_later : (n m : ℕ) → n ≤ m → (calls : List RecordedCall) → All (IsDoneBy n) calls → All (IsDoneBy m) calls
all_later n m rises calls h = all_then (IsDoneBy n) (IsDoneBy m) calls (later_done n m rises) h

done_ended : (n position : ℕ) (calls : List RecordedCall) → All (IsDoneBy n) calls → All (IsDoneBy (n + 1)) (ended_at position (n + 1) calls)
done_ended n position [] h = All-nil (IsDoneBy (n + 1))
done_ended n zero (c ∷ calls) h =
    let below = (All-head (IsDoneBy n) c calls h).0 in
    All-cons (IsDoneBy (n + 1)) (record c { end = Some (n + 1) }) calls (omega (arith, below), omega (arith, below)) (all_later n (n + 1) (omega arith) calls (All-tail (IsDoneBy n) c calls h))
done_ended n (suc position) (c ∷ calls) h =
    All-cons (IsDoneBy (n + 1)) c (ended_at position (n + 1) calls) (later_done n (n + 1) (omega arith) c (All-head (IsDoneBy n) c calls h)) (done_ended n position calls (All-tail (IsDoneBy n) c calls h))

-- the books go on: the number rises by one at most, the lanes are as many, and what is true of books stays so
pub record GoesOn (old new : Books) : Type 0 where
  pub rises : old.number ≤ new.number
  pub near : new.number ≤ old.number + 1
  pub lanes : length new.lanes ≡ length old.lanes
  pub kept : AreKept new

module _ (books : Books) (kept : AreKept books) where
  abbrev n : ℕ
  n = books.number

  pub same_on : GoesOn books books
  same_on = record { rises = omega arith; near = omega arith; lanes = refl; kept = kept }

  phases_drawn : (caller : ℕ) (phase : Phase) → HasStarted (n + 1) phase → All (HasStarted (n + 1)) (slice_set books.callers caller phase)
  phases_drawn caller phase so = all_set (HasStarted (n + 1)) books.callers caller phase so (all_then (HasStarted n) (HasStarted (n + 1)) books.callers (later_phase n (n + 1) (omega arith)) kept.started)

  lanes_later : All (All (IsDoneBy (n + 1))) books.lanes
  lanes_later = all_then (All (IsDoneBy n)) (All (IsDoneBy (n + 1))) books.lanes (all_later n (n + 1) (omega arith)) kept.done

  lane_done : (lane : ℕ) → All (IsDoneBy n) (lane_at books.lanes lane)
  lane_done lane = at_or (All (IsDoneBy n)) books.lanes lane [] kept.done (All-nil (IsDoneBy n))

  drawn_on : (caller : ℕ) (phase : Phase) → HasStarted (n + 1) phase → GoesOn books (drawn books caller phase)
  drawn_on caller phase so = record {
    rises = omega arith;
    near = omega arith;
    lanes = refl;
    kept = record { started = phases_drawn caller phase so; done = lanes_later };
  }

  act_on : (layout : Layout) (caller start : ℕ) (operation : Operation) (o : Option Act) → GoesOn books (after_act layout books caller start operation o)
  act_on layout caller start operation None = drawn_on caller phases.Idle tt
  act_on layout caller start operation (Some act) =
      let lane = lane_of layout operation in
      let c = booked caller start (n + 1) operation act in
      record {
        rises = omega arith;
        near = omega arith;
        lanes = length-set books.lanes lane (lane_at books.lanes lane ++ c ∷ []);
        kept = record {
          started = phases_drawn caller (phases.Acted lane (length (lane_at books.lanes lane))) tt;
          done = all_set (All (IsDoneBy (n + 1))) books.lanes lane (lane_at books.lanes lane ++ c ∷ []) (All-push (IsDoneBy (n + 1)) (lane_at books.lanes lane) c (all_later n (n + 1) (omega arith) (lane_at books.lanes lane) (lane_done lane)) (omega arith, tt)) lanes_later;
        };
      }

  act_in_on : (layout : Layout) (caller : ℕ) (phase : Phase) (reply : Reply) → GoesOn books (after_act_in layout books caller phase reply)
  act_in_on layout caller (phases.Began start operation) reply = act_on layout caller start operation (act_done operation reply)
  act_in_on layout caller phases.Idle reply = same_on
  act_in_on layout caller (phases.Acted lane position) reply = same_on

  end_in_on : (caller : ℕ) (phase : Phase) → GoesOn books (after_end_in books caller phase)
  end_in_on caller (phases.Acted lane position) = record {
    rises = omega arith;
    near = omega arith;
    lanes = length-set books.lanes lane (ended_at position (n + 1) (lane_at books.lanes lane));
    kept = record {
      started = phases_drawn caller phases.Idle tt;
      done = all_set (All (IsDoneBy (n + 1))) books.lanes lane (ended_at position (n + 1) (lane_at books.lanes lane)) (done_ended n position (lane_at books.lanes lane) (lane_done lane)) lanes_later;
    };
  }
  end_in_on caller phases.Idle = same_on
  end_in_on caller (phases.Began start operation) = same_on

  pub event_on : (layout : Layout) (event : Event) (reply : Reply) → GoesOn books (after_event layout books event reply)
  event_on layout event replies.Ignored = same_on
  event_on layout (events.Begin caller operation) reply = drawn_on caller (phases.Began (n + 1) operation) (omega arith)
  event_on layout (events.Act caller) reply = act_in_on layout caller (slice_index_or books.callers caller phases.Idle) reply
  event_on layout (events.End caller) reply = end_in_on caller (slice_index_or books.callers caller phases.Idle)
  event_on layout (events.Flush lane) reply = same_on
  event_on layout (events.MoveBegin lane) reply = same_on
  event_on layout (events.Commit lane plan number) reply = same_on
  event_on layout (events.Abort lane number) reply = same_on

pub opening_kept : (lanes callers : ℕ) → AreKept (opening_books lanes callers)
opening_kept lanes callers = record {
  started = All-replicate (HasStarted 0) callers phases.Idle tt;
  done = All-replicate (All (IsDoneBy 0)) lanes [] (All-nil (IsDoneBy 0));
}

-- ---- what the lanes recorded

-- an end changes nothing else of a call
end_alone : (position end : ℕ) (calls : List RecordedCall) → noted_of (ended_at position end calls) ≡ noted_of calls
end_alone position end [] = refl
end_alone zero end (c ∷ calls) = refl
end_alone (suc position) end (c ∷ calls) = ap (λ ns. c.noted ∷ ns) (end_alone position end calls)

ends_alone : (lanes : List (List RecordedCall)) (lane position end : ℕ) → map noted_of (with_end lanes lane position end) ≡ map noted_of lanes
ends_alone [] lane position end = refl
ends_alone (calls ∷ lanes) zero position end = ap (λ ns. ns ∷ map noted_of lanes) (end_alone position end calls)
ends_alone (calls ∷ lanes) (suc lane) position end = ap (λ ns. noted_of calls ∷ ns) (ends_alone lanes lane position end)

end_in_alone : (books : Books) (caller : ℕ) (phase : Phase) → map noted_of (after_end_in books caller phase).lanes ≡ map noted_of books.lanes
end_in_alone books caller (phases.Acted lane position) = ends_alone books.lanes lane position (books.number + 1)
end_in_alone books caller phases.Idle = refl
end_in_alone books caller (phases.Began start operation) = refl

-- a begin and an end record no call
pub begin_records : (layout : Layout) (books : Books) (caller : ℕ) (operation : Operation) (reply : Reply) → map noted_of (after_event layout books (events.Begin caller operation) reply).lanes ≡ map noted_of books.lanes
begin_records layout books caller operation replies.Ignored = refl
begin_records layout books caller operation reply = refl

pub end_records : (layout : Layout) (books : Books) (caller : ℕ) (reply : Reply) → map noted_of (after_event layout books (events.End caller) reply).lanes ≡ map noted_of books.lanes
end_records layout books caller replies.Ignored = refl
end_records layout books caller reply = end_in_alone books caller (slice_index_or books.callers caller phases.Idle)

-- the calls of a lane, as the books have them
pub noted_at : (lanes : List (List RecordedCall)) (lane : ℕ) (calls : List Noted) → slice_get (map noted_of lanes) lane ≡ Some calls → noted_of (lane_at lanes lane) ≡ calls
noted_at lanes lane calls at =
    let had = map_has noted_of lanes lane calls at in
    ap noted_of (get_or_from_slice_get lanes lane had.0 [] had.1) ∙ had.2

pub call_noted : (lanes : List (List RecordedCall)) (lane : ℕ) (c : RecordedCall) → map noted_of (with_call lanes lane c) ≡ slice_set (map noted_of lanes) lane (noted_of (lane_at lanes lane) ++ c.noted ∷ [])
call_noted [] lane c = refl
call_noted (calls ∷ lanes) zero c = ap (λ ns. ns ∷ map noted_of lanes) (map-append (λ (b : RecordedCall). b.noted) calls (c ∷ []))
call_noted (calls ∷ lanes) (suc lane) c = ap (λ ns. noted_of calls ∷ ns) (call_noted lanes lane c)

-- an act records the call that its lane noted
pub noted_records : (books : Books) (caller lane : ℕ) (o : Option Noted) (calls : List Noted) → slice_get (map noted_of books.lanes) lane ≡ Some calls → map noted_of (after_noted books caller lane o).lanes ≡ slice_set (map noted_of books.lanes) lane (calls_with calls o)
noted_records books caller lane None calls at = sym (set_nothing (map noted_of books.lanes) lane calls at)
noted_records books caller lane (Some noted) calls at =
    call_noted books.lanes lane (record { noted = noted; end = None })
    ∙ ap (λ ns. slice_set (map noted_of books.lanes) lane (ns ++ noted ∷ [])) (noted_at books.lanes lane calls at)

-- the number after an act that was noted
pub noted_number : (books : Books) (caller lane : ℕ) (o : Option Noted) → (after_noted books caller lane o).number ≡ books.number + 1
noted_number books caller lane None = refl
noted_number books caller lane (Some noted) = refl
