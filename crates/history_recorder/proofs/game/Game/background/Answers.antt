-- The lane that takes the step.
use Rattle.std.proofs.Common.{ap, ◌∙◌}
use Rattle.std.specs.Box.{with_value}
use Rattle.record_pages.specs.declared.layout.Layout.{Layout}
use Rattle.mover.specs.Lane.{LaneState}
use Rattle.history_recorder.specs.Commands.{IsBackground}
use Rattle.history_recorder.specs.Game.{unboxed}
use Rattle.history_recorder.proofs.Booking.{same_on}
use Rattle.history_recorder.proofs.Gaming.{here, steps_here}
use Rattle.history_recorder.proofs.GameKept.{stepped_game, stepped_honest, still_linked}
use Rattle.history_recorder.proofs.game.Game.background.Goals as goal

pub returns-clause-step : goal.returns-clause-step
returns-clause-step g c =
    steps_here c.args.self.now.lanes.items c.args.lane c.index_mut.result.now c.requires.lane c.index_mut.ensures.value g.L.PlayedLane.state g.L.PlayedLane.honest g.L.PlayedLane.layout c.args.self.now.layout c.deref_mut.result.now _ (λ (layout : Layout) (was is : LaneState). IsBackground g.row.PAGE layout c.args.event.now was c.background.result is) c.deref_mut.ensures.value c.requires.kept.layouts c.background.ensures.step

pub returns-clause-kept : goal.returns-clause-kept
returns-clause-kept g c =
    let boxes = c.args.self.now.lanes.items in
    let b = c.index_mut.result.now in
    let at = c.deref_mut.ensures.value in
    let there = here boxes c.args.lane b c.requires.lane c.index_mut.ensures.value in
    let books = c.args.self.now.ledger in
    let linked = still_linked g.L.PlayedLane.layout g.L.PlayedLane.lane g.L.PlayedLane.honest g.L.PlayedLane.calls g.L.PlayedLane.state c.args.self.now.layout books (unboxed boxes) c.requires.kept c.args.lane _ (g.L.PlayedLane.calls c.background.new.self) there (c.background.ensures.recorded ∙ ap g.L.PlayedLane.calls at) in
    stepped_game g.L.PlayedLane.layout g.L.PlayedLane.lane g.L.PlayedLane.honest g.L.PlayedLane.calls g.L.PlayedLane.state c.args.self.now.layout books books (same_on books c.requires.kept.booked) boxes c.args.lane b (with_value b c.background.new.self) there (c.background.ensures.layout ∙ ap g.L.PlayedLane.layout at) (c.background.ensures.lane ∙ ap g.L.PlayedLane.lane at) c.background.ensures.kept linked c.requires.kept

pub returns-clause-honest : goal.returns-clause-honest
returns-clause-honest g c = λ honest. stepped_honest g.L.PlayedLane.honest c.args.self.now.lanes.items c.args.lane c.index_mut.result.now (with_value c.index_mut.result.now c.background.new.self) (here c.args.self.now.lanes.items c.args.lane c.index_mut.result.now c.requires.lane c.index_mut.ensures.value) (c.background.ensures.honesty ∙ ap g.L.PlayedLane.honest c.deref_mut.ensures.value) honest
