-- With no skew the calls are judged as they are.
use Rattle.judge_run.proofs.ScopeLaws.{same_widened}
use Rattle.judge_run.proofs.scoping.widen.Goals as goal

pub returns-then-skew-eq0 : goal.returns-then-skew-eq0
returns-then-skew-eq0 c = same_widened c.args.skew c.if-skew-eq0.true c.args.history.now c.len-calls.ensures.calls
