-- What was stored, or the refusal.
use Rattle.history_recorder.proofs.LanesPlayed.{stored_ok, stored_err}
use Rattle.history_recorder.proofs.lane_played.act_put.Goals as goal

pub put-requires : goal.put-requires
put-requires g c = (assumption, (c.requires.start, (c.requires.rises, c.requires.own)))

pub know_recorded-requires : goal.know_recorded-requires
know_recorded-requires g c = assumption

pub know_recorded-requires-in-Err : goal.know_recorded-requires-in-Err
know_recorded-requires-in-Err g c = assumption

pub returns-in-Ok : goal.returns-in-Ok
returns-in-Ok g c =
    let a = c.args in
    let n = a.noted in
    stored_ok g.D.PageDevice.honest g.D.PageDevice.failures g.D.PageDevice.held a.recorded.now c.put.new.self c.know_recorded.ensures g.row.PAGE n.caller n.start n.point a.key a.value a.word a.expires c.put.result c.in-Ok.pushed _ c.in-Ok.is
    c.requires.put c.in-Ok.ensures.recorded c.in-Ok.ensures.puts c.put.ensures.large c.put.ensures.full

pub returns-in-Err : goal.returns-in-Err
returns-in-Err g c =
    let a = c.args in
    let n = a.noted in
    stored_err g.D.PageDevice.honest g.D.PageDevice.failures g.D.PageDevice.held a.recorded.now c.put.new.self c.know_recorded-in-Err.ensures g.row.PAGE n.caller n.start n.point a.key a.value a.word a.expires c.put.result c.in-Err.fault c.in-Err.is c.in-Err.ensures.err c.put.ensures.large c.put.ensures.full
