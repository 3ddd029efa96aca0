-- One event more.
use Rattle.history_recorder.specs.Game.{unboxed}
use Rattle.history_recorder.proofs.EventsPlayed.{next_played}
use Rattle.history_recorder.proofs.game.Game.run.Goals as goal

pub loop-event-preserved : goal.loop-event-preserved
loop-event-preserved g c =
    next_played g.L.PlayedLane.layout g.L.PlayedLane.lane g.L.PlayedLane.honest g.L.PlayedLane.calls g.L.PlayedLane.state g.row.PAGE c.args.self.now.layout c.args.self.now.ledger (unboxed c.args.self.now.lanes.items) c.args.events.now c.loop-event.event-index c.loop-event.replies c.push.new.self c.event-item.result c.in_ok-reply.reply c.loop-event.self.layout c.step.new.self.layout c.loop-event.self.ledger c.step.new.self.ledger (unboxed c.loop-event.self.lanes.items) (unboxed c.step.new.self.lanes.items) c.loop-event-test.true c.event-item.is c.in_ok-push.ensures.ok c.loop-event.invariant c.in_ok-reply.ensures.happens
