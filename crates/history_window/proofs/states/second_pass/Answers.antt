use Rattle.trace_file.specs.Lent.{call_shown}
use Rattle.history_window.specs.States.{state_at}
use Rattle.history_window.proofs.KnowMore.{second_begins, second_next}
use Rattle.history_window.proofs.states.second_pass.Goals as goal

pub loop-position-init : goal.loop-position-init
loop-position-init g c = λ key. second_begins c.args.history.now key (state_at c.args.states.now key) (c.requires.first key)

pub loop-position-preserved : goal.loop-position-preserved
loop-position-preserved g c = second_next c.args.history.now c.loop-position.position (call_shown c.at-call.result) c.at-call.ensures.call (state_at c.loop-position.states) (state_at c.note_place.new.states) c.loop-position.invariant c.in_ok-note_place.ensures
