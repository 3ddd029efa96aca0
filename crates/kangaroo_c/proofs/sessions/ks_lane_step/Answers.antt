-- A step that the lane of a place did not refuse.
use Rattle.std.proofs.Common.{rules, ◌≡◌, None}
use Rattle.kangaroo_c.specs.Turning.{refusal_of, Stepped}
use Rattle.kangaroo_c.proofs.Turning.{stepped_at}
use Rattle.kangaroo_c.proofs.sessions.ks_lane_step.Goals as goal

pub returns-clause-steps : goal.returns-clause-steps
returns-clause-steps c =
    let a = c.args in
    let old = c.take_lane-kept.result.value in
    let new = c.step.new.self in
    let taken : refusal_of old.home old.last a.turn.now ≡ None = search rules in
    let stepped : Stepped a.turn.now a.session.now a.bytes.now a.answer.now old c.from-is_due.result c.step.result c.step.new.session c.step.new.room c.put_back-2.new.place.lane =
    record { new = new; is = search rules; steps = search rules; home = search rules; last = search rules; due = search rules } in
    stepped_at a.turn.now a.session.now a.bytes.now a.answer.now c.from-is_due.result c.step.result c.step.new.session c.step.new.room c.put_back-2.new.place.lane
    a.lane.now.lane old c.take_lane-kept.ensures.value taken stepped
