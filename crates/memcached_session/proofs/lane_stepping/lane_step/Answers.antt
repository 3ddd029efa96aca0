-- A step with a lane does what is asked of the lane, and takes a byte or more.
use Rattle.std.proofs.Common.{ℕ, ◌≤◌, ◌∙◌, ap, sym, subst}
use Rattle.memcached_text.specs.declared.request_reader.RequestReader.{RequestReader}
use Rattle.memcached_text.specs.Steps.{outcome, event_shown, step_of}
use Rattle.memcached_session.specs.Framing.{frame_of}
use Rattle.memcached_session.specs.Keyed.{keyed_shown}
use Rattle.memcached_session.specs.Saying.{said_shown}
use Rattle.memcached_session.specs.Standing.{state_of}
use Rattle.memcached_session.proofs.Fitting.{asks_flags, lane_few, lane_whole}
use Rattle.memcached_session.proofs.Progress.{lane_takes, none_takes}
use Rattle.memcached_session.proofs.Unnumbered.{steps_made, unnumbered}
use Rattle.memcached_session.proofs.lane_stepping.lane_step.Goals as goal

pub returns-in-Some-clause-steps : goal.returns-in-Some-clause-steps
returns-in-Some-clause-steps g c =
    let d = g.D.PageDevice in
    let a = c.args in
    let step = c.take-step in
    let exact = step.ensures.exact ∙ ap (λ (r : RequestReader). step_of r.max_data_len r.state a.bytes.now) c.reader-reader.ensures in
    steps_made (frame_of g.row.PAGE d.honest d.failures d.held a.turn.command a.turn.cas) a.session.now a.bytes.now a.room.now a.lane.now c.settle.result c.settle.new.session c.settle.new.room c.perform-answered.new.lane
    (outcome step.result.taken (event_shown step.result.event) step.new.self.state) (keyed_shown c.in-Some.keyed) exact c.in-Some.ensures.exact
    (record { said = said_shown c.perform-answered.result; does_it = c.perform-answered.ensures.does; settles = c.settle.ensures.settles })

pub returns-in-Some-clause-unnumbered : goal.returns-in-Some-clause-unnumbered
returns-in-Some-clause-unnumbered g c = λ none cas.
    let d = g.D.PageDevice in
    let a = c.args in
    unnumbered g.row.PAGE d.honest d.failures d.held a.turn.command a.turn.cas cas a.session.now a.bytes.now a.room.now a.lane.now c.settle.result c.settle.new.session c.settle.new.room c.perform-answered.new.lane none (returns-in-Some-clause-steps g c)

pub returns-in-Some-clause-some : goal.returns-in-Some-clause-some
returns-in-Some-clause-some g c = λ keyed.
    let step = c.take-step in
    subst (λ (n : ℕ). 1 ≤ n) (sym c.settle.ensures.taken)
    (lane_takes (outcome step.result.taken (event_shown step.result.event) step.new.self.state) (keyed_shown c.in-Some.keyed) (sym c.in-Some.ensures.exact) step.ensures.some)

pub returns-in-None-clause-some : goal.returns-in-None-clause-some
returns-in-None-clause-some g c = λ keyed.
    let step = c.take-step in
    let exact = step.ensures.exact ∙ ap (λ (r : RequestReader). step_of r.max_data_len r.state c.args.bytes.now) c.reader-reader.ensures in
    none_takes (state_of c.args.session.now) c.args.bytes.now (outcome step.result.taken (event_shown step.result.event) step.new.self.state) c.nothing.result.taken exact c.in-None.ensures.exact keyed

pub perform-answered-requires : goal.perform-answered-requires
perform-answered-requires g c = (assumption, (c.in-Some.ensures.key, asks_flags (event_shown c.take-step.result.event) (keyed_shown c.in-Some.keyed) c.in-Some.ensures.exact c.take-step.ensures.flags))

pub returns-in-Some-clause-most : goal.returns-in-Some-clause-most
returns-in-Some-clause-most g c = lane_few (said_shown c.perform-answered.result) c.args.room.now _ _ c.settle.result c.perform-answered.ensures.fits c.settle.ensures.settles.done_is

pub returns-in-Some-clause-whole : goal.returns-in-Some-clause-whole
returns-in-Some-clause-whole g c = λ enough. lane_whole (said_shown c.perform-answered.result) c.args.room.now _ _ c.settle.result c.perform-answered.ensures.fits c.settle.ensures.settles.done_is enough
