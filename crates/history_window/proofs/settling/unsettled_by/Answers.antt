use Rattle.trace_file.specs.Lent.{call_shown}
use Rattle.history_window.specs.States.{state_at}
use Rattle.history_window.proofs.Telling.{unsettled_more}
use Rattle.history_window.proofs.settling.unsettled_by.Goals as goal

pub loop-position-preserved : goal.loop-position-preserved
loop-position-preserved g c = unsettled_more c.args.history.now c.args.bound c.loop-position.position (call_shown c.at-call.result) c.at-call.ensures.call (state_at c.args.states.now c.at-call.result.key.now) (c.requires.known c.at-call.result.key.now) c.loop-position.kept.items c.list_position.new.positions.items c.is_settled_hit-stays.result c.is_settled_hit-stays.ensures c.loop-position.invariant c.in_ok-list_position.ensures
