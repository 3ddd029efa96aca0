-- The call that is taken is done by the lane of its key.
use Rattle.std.proofs.Common.{◌≡◌, ◌<◌, ◌+◌, Option, length, map, set, sym, ap, ◌∙◌, subst, arith, length-set}
use Rattle.std.specs.Prelude.{All, slice_get, Some}
use Rattle.std.specs.Box.{box_value, with_value}
use Rattle.std.proofs.lemmas.List.{length-map}
use Rattle.std.proofs.lemmas.Option.{slice_get_within}
use Rattle.record_pages.specs.declared.layout.Layout.{Layout}
use Rattle.set_hash.specs.declared.placed.Placed.{Placed}
use Rattle.mover.specs.Lane.{LaneState}
use Rattle.recorded_lane.specs.declared.noted.Noted.{Noted}
use Rattle.history_recorder.specs.declared.event.Event.TheVariants as events
use Rattle.history_recorder.specs.declared.phase.Phase.TheVariants as phases
use Rattle.history_recorder.specs.Operations.{lane_of, lane_of_key, noted_by, calls_with, AnswersAt}
use Rattle.history_recorder.specs.Books.{Books, lane_at, noted_of, after_noted}
use Rattle.history_recorder.specs.Commands.{IsOperation}
use Rattle.history_recorder.specs.Game.{unboxed}
use Rattle.history_recorder.proofs.Gaming.{here, so_here, steps_here}
use Rattle.history_recorder.proofs.Acting.{taken_books, act_replied, act_steps}
use Rattle.history_recorder.proofs.Booking.{GoesOn, event_on, noted_records}
use Rattle.history_recorder.proofs.GameKept.{stepped_game, stepped_honest, booked_of, counted_at, reached}
use Rattle.history_recorder.proofs.game.Game.act.Goals as goal

pub act-requires-clause-rises : goal.act-requires-clause-rises
act-requires-clause-rises g c =
    let boxes = c.args.self.now.lanes.items in
    let lengths = length-map boxes (λ b. box_value b) in
    let all = c.requires.kept.all in
    let b = c.index_mut.result.now in
    let at = c.place-lane.result.lane in
    let same = ap (λ (b : Books). b.number) c.in-Some.ensures.1 in
    let below = reached g.L.PlayedLane.layout g.L.PlayedLane.lane g.L.PlayedLane.honest g.L.PlayedLane.calls g.L.PlayedLane.state c.args.self.now.layout c.args.self.now.ledger (unboxed boxes) c.requires.kept at (box_value b) (here boxes at b (omega (arith, lengths, all)) c.index_mut.ensures.value) in
    subst (λ l. All (λ (n : Noted). n.point < c.number-point.result + 1) (g.L.PlayedLane.calls l)) (sym c.deref_mut.ensures.value) (λ k d lt. let under = below k d lt in omega (arith, under, same))

pub act-requires-clause-its : goal.act-requires-clause-its
act-requires-clause-its g c =
    let boxes = c.args.self.now.lanes.items in
    let lengths = length-map boxes (λ b. box_value b) in
    let all = c.requires.kept.all in
    let at = c.place-lane.result.lane in
    let within : at < length boxes = omega (arith, lengths, all) in
    let b = c.index_mut.result.now in
    let lane_is : at ≡ lane_of c.args.self.now.layout c.in-Some.call.operation = ap (λ (p : Placed). p.lane) c.place-lane.ensures.placed ∙ ap (lane_of_key c.args.self.now.layout) (c.bytes.ensures.value ∙ c.key.ensures) in
    let layout = so_here boxes at b within c.index_mut.ensures.value (λ l. g.L.PlayedLane.layout l ≡ c.args.self.now.layout) c.requires.kept.layouts in
    let number = c.requires.kept.numbers at (box_value b) (here boxes at b within c.index_mut.ensures.value) in
    subst (λ l. lane_of (g.L.PlayedLane.layout l) c.in-Some.call.operation ≡ g.L.PlayedLane.lane l) (sym c.deref_mut.ensures.value) (ap (λ (l : Layout). lane_of l c.in-Some.call.operation) layout ∙ sym lane_is ∙ sym number)

pub act-requires-2-clause-caller : goal.act-requires-2-clause-caller
act-requires-2-clause-caller g c =
    let within = slice_get_within c.args.self.now.ledger.callers c.args.caller (phases.Began c.in-Some.call.start c.in-Some.call.operation) c.in-Some.ensures.0 in
    let same = ap (λ (b : Books). length b.callers) c.in-Some.ensures.1 in
    let lengths = length-set c.args.self.now.ledger.callers c.args.caller phases.Idle in
    omega (arith, within, same, lengths)

pub returns-clause-ledger : goal.returns-clause-ledger
returns-clause-ledger g c =
    let lane_is : c.place-lane.result.lane ≡ lane_of c.args.self.now.layout c.in-Some.call.operation = ap (λ (p : Placed). p.lane) c.place-lane.ensures.placed ∙ ap (lane_of_key c.args.self.now.layout) (c.bytes.ensures.value ∙ c.key.ensures) in
    let point : c.number-point.result + 1 ≡ c.args.self.now.ledger.number + 1 = ap (λ n. n + 1) (c.number-point.ensures ∙ ap (λ (b : Books). b.number) c.in-Some.ensures.1) in
    c.in_ok-act.ensures
    ∙ ap (λ (o : Option Noted). after_noted c.take.new.self c.args.caller c.place-lane.result.lane o) (c.in_ok-acted.ensures.noted ∙ ap (λ n. noted_by c.args.caller c.in-Some.call.start n c.in-Some.call.operation c.in_ok-acted.acted.reply) point)
    ∙ ap (λ lane. after_noted c.take.new.self c.args.caller lane (noted_by c.args.caller c.in-Some.call.start (c.args.self.now.ledger.number + 1) c.in-Some.call.operation c.in_ok-acted.acted.reply)) lane_is
    ∙ taken_books c.args.self.now.layout c.args.self.now.ledger c.take.new.self c.args.caller c.in-Some.call c.in_ok-acted.acted.reply c.in-Some.ensures c.in_ok-acted.ensures.kind

pub returns-clause-replied : goal.returns-clause-replied
returns-clause-replied g c =
    let boxes = c.args.self.now.lanes.items in
    let books = c.args.self.now.ledger in
    let lengths = length-map boxes (λ b. box_value b) in
    let all = c.requires.kept.all in
    let at = c.place-lane.result.lane in
    let b = c.index_mut.result.now in
    let lane_is : at ≡ lane_of c.args.self.now.layout c.in-Some.call.operation = ap (λ (p : Placed). p.lane) c.place-lane.ensures.placed ∙ ap (lane_of_key c.args.self.now.layout) (c.bytes.ensures.value ∙ c.key.ensures) in
    let count = counted_at g.L.PlayedLane.layout g.L.PlayedLane.lane g.L.PlayedLane.honest g.L.PlayedLane.calls g.L.PlayedLane.state c.args.self.now.layout books (unboxed boxes) c.requires.kept at (box_value b) (here boxes at b (omega (arith, lengths, all)) c.index_mut.ensures.value) in
    let counted : length (g.L.PlayedLane.calls c.deref_mut.result.now) ≡ length (lane_at books.lanes (lane_of c.args.self.now.layout c.in-Some.call.operation)) = ap (λ l. length (g.L.PlayedLane.calls l)) c.deref_mut.ensures.value ∙ sym count ∙ ap (λ i. length (lane_at books.lanes i)) lane_is in
    act_replied g.row.PAGE c.args.self.now.layout books c.args.caller c.in-Some.call.start c.in-Some.call.operation c.in_ok-acted.acted.reply c.in-Some.ensures.0 c.in_ok-acted.ensures.kind (subst (λ n. AnswersAt g.row.PAGE n c.in-Some.call.operation c.in_ok-acted.acted.reply) counted c.in_ok-acted.ensures.refused)

pub returns-clause-step : goal.returns-clause-step
returns-clause-step g c = λ honest.
    let boxes = c.args.self.now.lanes.items in
    let lengths = length-map boxes (λ b. box_value b) in
    let all = c.requires.kept.all in
    let within : c.place-lane.result.lane < length boxes = omega (arith, lengths, all) in
    let lane_is : c.place-lane.result.lane ≡ lane_of c.args.self.now.layout c.in-Some.call.operation = ap (λ (p : Placed). p.lane) c.place-lane.ensures.placed ∙ ap (lane_of_key c.args.self.now.layout) (c.bytes.ensures.value ∙ c.key.ensures) in
    let step = steps_here boxes c.place-lane.result.lane c.index_mut.result.now within c.index_mut.ensures.value g.L.PlayedLane.state g.L.PlayedLane.honest g.L.PlayedLane.layout c.args.self.now.layout c.deref_mut.result.now (with_value c.index_mut.result.now c.act.new.self) (λ (layout : Layout) (was is : LaneState). IsOperation g.row.PAGE layout c.in-Some.call.operation was c.in_ok-acted.acted.reply is) c.deref_mut.ensures.value c.requires.kept.layouts c.in_ok-acted.ensures.step honest in
    act_steps g.row.PAGE c.args.self.now.layout c.args.self.now.ledger c.args.caller c.in-Some.call.start c.in-Some.call.operation c.in_ok-acted.acted.reply c.place-lane.result.lane _ _ c.in_ok-acted.ensures.kind c.in-Some.ensures.0 lane_is step

pub returns-clause-kept : goal.returns-clause-kept
returns-clause-kept g c =
    let boxes = c.args.self.now.lanes.items in
    let lengths = length-map boxes (λ b. box_value b) in
    let all = c.requires.kept.all in
    let i = c.place-lane.result.lane in
    let within : i < length boxes = omega (arith, lengths, all) in
    let b = c.index_mut.result.now in
    let at = c.deref_mut.ensures.value in
    let old = c.args.self.now.ledger in
    let there = here boxes i b within c.index_mut.ensures.value in
    let on : GoesOn old c.act-2.new.self = subst (GoesOn old) (sym (returns-clause-ledger g c)) (event_on old c.requires.kept.booked c.args.self.now.layout (events.Act c.args.caller) c.in_ok-acted.acted.reply) in
    let noted = c.in_ok-acted.acted.noted in
    let before = booked_of g.L.PlayedLane.layout g.L.PlayedLane.lane g.L.PlayedLane.honest g.L.PlayedLane.calls g.L.PlayedLane.state c.args.self.now.layout old (unboxed boxes) c.requires.kept i (box_value b) there in
    let same_lanes : c.take.new.self.lanes ≡ old.lanes = ap (λ (b : Books). b.lanes) c.in-Some.ensures.1 in
    let taken = subst (λ ls. slice_get (map noted_of ls) i ≡ Some (g.L.PlayedLane.calls (box_value b))) (sym same_lanes) before in
    let calls : g.L.PlayedLane.calls c.act.new.self ≡ calls_with (g.L.PlayedLane.calls (box_value b)) noted = c.in_ok-acted.ensures.recorded ∙ ap (λ l. calls_with (g.L.PlayedLane.calls l) noted) at in
    let linked : map noted_of c.act-2.new.self.lanes ≡ set (map noted_of old.lanes) i (g.L.PlayedLane.calls c.act.new.self) =
    ap (λ (b : Books). map noted_of b.lanes) c.in_ok-act.ensures
    ∙ noted_records c.take.new.self c.args.caller i noted (g.L.PlayedLane.calls (box_value b)) taken
    ∙ ap (λ ls. set (map noted_of ls) i (calls_with (g.L.PlayedLane.calls (box_value b)) noted)) same_lanes
    ∙ ap (λ ns. set (map noted_of old.lanes) i ns) (sym calls) in
    stepped_game g.L.PlayedLane.layout g.L.PlayedLane.lane g.L.PlayedLane.honest g.L.PlayedLane.calls g.L.PlayedLane.state c.args.self.now.layout old c.act-2.new.self on boxes i b (with_value b c.act.new.self) there (c.in_ok-acted.ensures.layout ∙ ap g.L.PlayedLane.layout at) (c.in_ok-acted.ensures.lane ∙ ap g.L.PlayedLane.lane at) c.in_ok-acted.ensures.kept linked c.requires.kept

pub returns-clause-honest : goal.returns-clause-honest
returns-clause-honest g c = λ honest.
    let boxes = c.args.self.now.lanes.items in
    let lengths = length-map boxes (λ b. box_value b) in
    let all = c.requires.kept.all in
    let within : c.place-lane.result.lane < length boxes = omega (arith, lengths, all) in
    stepped_honest g.L.PlayedLane.honest boxes c.place-lane.result.lane c.index_mut.result.now (with_value c.index_mut.result.now c.act.new.self) (here boxes c.place-lane.result.lane c.index_mut.result.now within c.index_mut.ensures.value) (c.in_ok-acted.ensures.honesty ∙ ap g.L.PlayedLane.honest c.deref_mut.ensures.value) honest
