-- The end of the move.
use Rattle.history_recorder.proofs.LanesPlayed.{aborted_so}
use Rattle.history_recorder.proofs.lane_played.play_abort.Goals as goal

pub returns : goal.returns
returns g c = aborted_so g.D.PageDevice.honest g.D.PageDevice.failures g.D.PageDevice.held c.args.recorded.now c.move_abort-aborted.new.self c.know_recorded.ensures g.row.PAGE c.args.lane c.args.number c.move_abort-aborted.result c.move_abort-aborted.ensures.unrecorded c.move_abort-aborted.ensures.aborts

pub move_abort-aborted-requires : goal.move_abort-aborted-requires
move_abort-aborted-requires g c = assumption

pub know_recorded-requires : goal.know_recorded-requires
know_recorded-requires g c = assumption
