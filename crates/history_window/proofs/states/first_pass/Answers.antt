use Rattle.trace_file.specs.Lent.{call_shown}
use Rattle.history_window.specs.States.{state_at}
use Rattle.history_window.proofs.KnowLemmas.{first_next}
use Rattle.history_window.proofs.states.first_pass.Goals as goal

pub loop-position-preserved : goal.loop-position-preserved
loop-position-preserved g c = first_next c.args.history.now c.loop-position.position (call_shown c.at-call.result) c.at-call.ensures.call (state_at c.loop-position.states) (state_at c.note_write.new.states) c.loop-position.invariant c.in_ok-note_write.ensures
