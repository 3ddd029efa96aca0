-- The answer, or the refusal.
use Rattle.history_recorder.proofs.LanesPlayed.{got_ok, got_err}
use Rattle.history_recorder.proofs.lane_played.act_get.Goals as goal

pub returns-in_ok-act_from-in-Ok : goal.returns-in_ok-act_from-in-Ok
returns-in_ok-act_from-in-Ok g c =
    let a = c.args in
    got_ok g.D.PageDevice.honest g.D.PageDevice.failures g.D.PageDevice.held a.recorded.now c.get.new.self c.know_recorded.ensures g.row.PAGE a.stamps.caller a.stamps.start a.stamps.point a.key a.moment c.get.result c.in-Ok.answer _ c.in-Ok.is
    (λ i. record { caller = a.stamps.caller; start = a.stamps.start; point = a.stamps.point; key = c.key.view_is i; act = c.in_ok-act_from-in-Ok.ensures i }) c.in-Ok.ensures.recorded c.in-Ok.ensures.gets c.get.ensures.full

pub returns-in-Err : goal.returns-in-Err
returns-in-Err g c = got_err g.D.PageDevice.honest g.D.PageDevice.failures g.D.PageDevice.held c.args.recorded.now c.get.new.self c.know_recorded-in-Err.ensures g.row.PAGE c.args.stamps.caller c.args.stamps.start c.args.stamps.point c.args.key c.args.moment c.get.result c.in-Err.fault c.in-Err.is c.in-Err.ensures.refused.unrecorded c.get.ensures.full c.get.ensures.full_keeps c.in-Err.ensures.refused.asked

pub get-requires : goal.get-requires
get-requires g c = (assumption, (c.requires.start, (c.requires.rises, c.requires.own)))

pub know_recorded-requires : goal.know_recorded-requires
know_recorded-requires g c = assumption

pub know_recorded-requires-in-Err : goal.know_recorded-requires-in-Err
know_recorded-requires-in-Err g c = assumption
