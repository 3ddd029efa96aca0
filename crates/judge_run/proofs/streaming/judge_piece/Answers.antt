-- What was taken is judged as the last piece.
use Rattle.judge_run.proofs.streaming.judge_piece.Goals as goal

pub returns-in-Ok-judge_warmed-clause-judged : goal.returns-in-Ok-judge_warmed-clause-judged
returns-in-Ok-judge_warmed-clause-judged g c = λ known left progress was ended counted.
    c.in-Ok-judge_warmed.ensures.judged c.args.rule known left progress c.in-Ok.ensures.bound (c.in-Ok.ensures.judged known left progress was) ended counted

pub returns-in-Err-clause-fault : goal.returns-in-Err-clause-fault
returns-in-Err-clause-fault g c = λ known left progress was.
    c.in-Err.ensures.fault c.args.rule known left progress (c.in-Ok.ensures.judged known left progress was)
