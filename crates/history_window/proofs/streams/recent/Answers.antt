use Rattle.trace_file.specs.Lent.{call_shown}
use Rattle.history_window.proofs.PastLemmas.{recent_more}
use Rattle.history_window.proofs.streams.recent.Goals as goal

pub loop-position-preserved : goal.loop-position-preserved
loop-position-preserved c = recent_more c.args.bound c.args.history.now c.loop-position.position (call_shown c.at.result) c.at.ensures.call c.loop-position.waiting.items c.list_position.new.positions.items c.is_recent-waits.result c.is_recent-waits.ensures c.loop-position.invariant c.in_ok-list_position.ensures
