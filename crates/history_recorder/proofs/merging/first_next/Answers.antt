-- At the end of the loop all lanes were looked at.
use Rattle.std.proofs.Common.{◌≡◌, length, subst, arith}
use Rattle.history_recorder.specs.Merging.{IsFirstBelow}
use Rattle.history_recorder.proofs.merging.first_next.Goals as goal

pub returns : goal.returns
returns c =
    let all : c.loop-number.number ≡ length c.args.lanes.now = omega arith in
    subst (λ n. IsFirstBelow c.args.lanes.now c.args.heads.now n c.loop-number.first) all c.loop-number.invariant
