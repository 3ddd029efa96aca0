-- A step without a lane that is asked for takes a byte or more, and its answer is not lost in a room of 4,096 bytes.
use Rattle.std.proofs.Common.{ℕ, ◌≤◌, ◌∙◌, ap, sym, subst}
use Rattle.memcached_text.specs.declared.request_reader.RequestReader.{RequestReader}
use Rattle.memcached_text.specs.Steps.{outcome, event_shown, step_of}
use Rattle.memcached_session.specs.Saying.{said_shown}
use Rattle.memcached_session.specs.Standing.{state_of}
use Rattle.memcached_session.proofs.Progress.{alone_takes}
use Rattle.memcached_session.proofs.Short.{not_lost}
use Rattle.memcached_session.proofs.stepping.step.Goals as goal

pub returns-in-None-clause-some : goal.returns-in-None-clause-some
returns-in-None-clause-some c = λ alone.
    let step = c.take-step in
    let bytes = c.args.bytes.now in
    let exact = step.ensures.exact ∙ ap (λ (r : RequestReader). step_of r.max_data_len r.state bytes) c.reader-reader.ensures in
    subst (λ (n : ℕ). 1 ≤ n) (sym c.settle.ensures.taken)
    (alone_takes (state_of c.args.session.now) bytes (outcome step.result.taken (event_shown step.result.event) step.new.self.state) exact step.ensures.some alone)

pub returns-in-None-clause-whole : goal.returns-in-None-clause-whole
returns-in-None-clause-whole c = λ enough.
    not_lost _ (event_shown c.take-step.result.event) (said_shown c.answer_alone-answered.result) c.args.room.now _ _ c.settle.result c.answer_alone-answered.ensures c.settle.ensures.settles.done_is enough
