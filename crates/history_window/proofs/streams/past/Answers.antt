use Rattle.trace_file.specs.Lent.{call_shown}
use Rattle.history_window.proofs.PastLemmas.{past_more}
use Rattle.history_window.proofs.streams.past.Goals as goal

pub loop-position-preserved : goal.loop-position-preserved
loop-position-preserved c = past_more c.args.bound c.args.history.now c.loop-position.position (call_shown c.at.result) c.at.ensures.call c.loop-position.kept.items c.list_position.new.positions.items c.is_recent-stays.result c.is_recent-stays.ensures c.loop-position.invariant c.in_ok-list_position.ensures
