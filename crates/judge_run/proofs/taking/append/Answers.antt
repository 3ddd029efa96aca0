-- One call more.
use Rattle.trace_file.specs.Lent.{call_shown}
use Rattle.judge_run.proofs.TakingLaws.{one_more}
use Rattle.judge_run.proofs.taking.append.Goals as goal

pub loop-position-preserved : goal.loop-position-preserved
loop-position-preserved c =
    one_more c.loop-position.position c.args.history.now c.args.more.now c.loop-position.history c.push_ref.new.self (call_shown c.at-call.result) c.at-call.ensures.call c.loop-position.invariant c.in_ok-push_ref.ensures.ok
