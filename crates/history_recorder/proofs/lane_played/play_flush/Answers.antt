-- The flush step.
use Rattle.history_recorder.proofs.LanesPlayed.{flushed_so}
use Rattle.history_recorder.proofs.lane_played.play_flush.Goals as goal

pub returns : goal.returns
returns g c = flushed_so g.D.PageDevice.honest g.D.PageDevice.failures g.D.PageDevice.held c.args.recorded.now c.flush_step-flushed.new.self c.know_recorded.ensures g.row.PAGE c.args.lane c.flush_step-flushed.result c.flush_step-flushed.ensures.unrecorded c.flush_step-flushed.ensures.flushes

pub flush_step-flushed-requires : goal.flush_step-flushed-requires
flush_step-flushed-requires g c = assumption

pub know_recorded-requires : goal.know_recorded-requires
know_recorded-requires g c = assumption
