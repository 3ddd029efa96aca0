-- The beginning of the move.
use Rattle.history_recorder.proofs.LanesPlayed.{begun_so}
use Rattle.history_recorder.proofs.lane_played.play_begin.Goals as goal

pub returns : goal.returns
returns g c = begun_so g.D.PageDevice.honest g.D.PageDevice.failures g.D.PageDevice.held c.args.recorded.now c.move_begin-begun.new.self c.know_recorded.ensures g.row.PAGE c.args.lane c.move_begin-begun.result c.move_begin-begun.ensures.unrecorded c.move_begin-begun.ensures.begins

pub move_begin-begun-requires : goal.move_begin-begun-requires
move_begin-begun-requires g c = assumption

pub know_recorded-requires : goal.know_recorded-requires
know_recorded-requires g c = assumption
