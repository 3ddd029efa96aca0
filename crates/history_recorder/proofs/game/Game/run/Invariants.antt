use Rattle.std.proofs.Common.{take}
use Rattle.history_recorder.specs.Game.{HasPlayed, unboxed}
use Rattle.history_recorder.proofs.game.Game.run.Given as goal

-- the events so far were played, with the replies so far
abbrev pub invariant-loop-event : goal.invariant-loop-event
invariant-loop-event g l =
    HasPlayed g.L.PlayedLane.layout g.L.PlayedLane.lane g.L.PlayedLane.honest g.L.PlayedLane.calls g.L.PlayedLane.state g.row.PAGE l.initial.self.layout l.initial.self.ledger (unboxed l.initial.self.lanes.items) (take l.event-index l.events) l.replies l.self.layout l.self.ledger (unboxed l.self.lanes.items)
