-- A step of a session with the lane that serves, and the help after it.
use Rattle.std.proofs.Common.{subst}
use Rattle.memcached_session.specs.declared.lane_turn.LaneTurn.{LaneTurn}
use Rattle.memcached_session.specs.Framing.{frame_of}
use Rattle.memcached_session.specs.Stepping.{LaneSteps}
use Rattle.c_lane.specs.Lane.{LaneState, laws_of, page_bytes, honest_in, failures_in, held_in}
use Rattle.c_lane.specs.Sessions.{SessionSteps}
use Rattle.c_lane.proofs.Sessions.{stepped}
use Rattle.c_lane.proofs.lane.CLane.session_step.Goals as goal

pub returns-clause-steps : goal.returns-clause-steps
returns-clause-steps g c =
    let d = g.D.PageDevice in
    let laws = laws_of d.honest d.failures d.held in
    let a = c.args in
    let i = c.self.inside in
    let old : LaneState g.row.D.Denot = record { serving = i.lane; words = i.words } in
    let new : LaneState g.row.D.Denot = record { serving = c.help-helped.new.self; words = c.next_word-word.new.self } in
    let s = c.lane_step-done in
    let steps =
    subst
    (λ (t : LaneTurn). LaneSteps (frame_of page_bytes (honest_in laws) (failures_in laws) (held_in laws) t.command t.cas) a.session.now a.bytes.now a.room.now i.lane s.result s.new.session s.new.room s.new.lane)
    c.with_word.ensures s.ensures.steps in
    subst (λ (l : LaneState g.row.D.Denot). SessionSteps laws a.turn.now a.session.now a.bytes.now a.room.now l s.result s.new.session s.new.room new) c.self.view_is
    (stepped laws a.turn.now a.session.now a.bytes.now a.room.now old c.next_word-word.result c.next_word-word.new.self c.next_word-word.ensures s.result s.new.session s.new.room s.new.lane c.help-helped.new.self c.help-helped.result c.help-helped.ensures
    steps)
