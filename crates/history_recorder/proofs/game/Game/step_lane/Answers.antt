-- The lane that takes the step.
use Rattle.std.proofs.Common.{arith}
use Rattle.std.specs.Box.{box_value}
use Rattle.std.proofs.lemmas.List.{length-map}
use Rattle.history_recorder.specs.Game.{unboxed}
use Rattle.history_recorder.proofs.EventsPlayed.{behind_plays}
use Rattle.history_recorder.proofs.game.Game.step_lane.Goals as goal

pub returns : goal.returns
returns g c =
    let lengths = length-map c.args.self.now.lanes.items (λ b. box_value b) in
    record { happens = behind_plays g.L.PlayedLane.layout g.L.PlayedLane.lane g.L.PlayedLane.honest g.L.PlayedLane.calls g.L.PlayedLane.state g.row.PAGE c.args.self.now.layout c.args.self.now.ledger (unboxed c.args.self.now.lanes.items) c.requires.kept c.args.event.now c.background.result c.args.lane c.background.new.self.layout c.background.new.self.ledger (unboxed c.background.new.self.lanes.items) c.requires.lane (omega (arith, lengths)) c.background.ensures.kind c.background.ensures.layout c.background.ensures.ledger c.background.ensures.kept c.background.ensures.honest c.background.ensures.step }
