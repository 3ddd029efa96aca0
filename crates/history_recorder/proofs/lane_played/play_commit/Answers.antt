-- The end of the move.
use Rattle.history_recorder.proofs.LanesPlayed.{committed_so}
use Rattle.history_recorder.proofs.lane_played.play_commit.Goals as goal

pub returns : goal.returns
returns g c = committed_so g.D.PageDevice.honest g.D.PageDevice.failures g.D.PageDevice.held c.args.recorded.now c.move_commit-committed.new.self c.know_recorded.ensures g.row.PAGE c.args.lane c.args.plan.now c.args.number c.move_commit-committed.result c.move_commit-committed.ensures.unrecorded c.move_commit-committed.ensures.commits

pub move_commit-committed-requires : goal.move_commit-committed-requires
move_commit-committed-requires g c = assumption

pub know_recorded-requires : goal.know_recorded-requires
know_recorded-requires g c = assumption
