-- The removal, or the refusal.
use Rattle.history_recorder.proofs.LanesPlayed.{removed_ok, removed_err}
use Rattle.history_recorder.proofs.lane_played.act_remove.Goals as goal

pub returns-in-Ok : goal.returns-in-Ok
returns-in-Ok g c = removed_ok g.D.PageDevice.honest g.D.PageDevice.failures g.D.PageDevice.held c.args.recorded.now c.remove.new.self c.know_recorded.ensures g.row.PAGE c.args.stamps.caller c.args.stamps.start c.args.stamps.point c.args.key c.remove.result c.in-Ok.field-0 c.in-Ok.is c.in-Ok.ensures.recorded c.in-Ok.ensures.removes c.remove.ensures.full

pub returns-in-Err : goal.returns-in-Err
returns-in-Err g c = removed_err g.D.PageDevice.honest g.D.PageDevice.failures g.D.PageDevice.held c.args.recorded.now c.remove.new.self c.know_recorded-in-Err.ensures g.row.PAGE c.args.stamps.caller c.args.stamps.start c.args.stamps.point c.args.key c.remove.result c.in-Err.fault c.in-Err.is c.in-Err.ensures.err c.remove.ensures.full

pub remove-requires : goal.remove-requires
remove-requires g c = (assumption, (c.requires.start, (c.requires.rises, c.requires.own)))

pub know_recorded-requires : goal.know_recorded-requires
know_recorded-requires g c = assumption

pub know_recorded-requires-in-Err : goal.know_recorded-requires-in-Err
know_recorded-requires-in-Err g c = assumption
