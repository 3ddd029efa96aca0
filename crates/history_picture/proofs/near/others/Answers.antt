use Rattle.std.proofs.Common.{arith}
use Rattle.history_picture.proofs.Nearing.{others_all, others_step}
use Rattle.history_picture.proofs.near.others.Goals as goal

pub loop-position-preserved : goal.loop-position-preserved
loop-position-preserved c =
    others_step c.args.history.now c.args.key.now c.args.without.now c.loop-position.others.items c.take_other.new.others.items c.loop-position.position
    c.loop-position.invariant c.in_ok-take_other.ensures

pub returns : goal.returns
returns c =
    others_all c.args.history.now c.args.key.now c.args.without.now c.loop-position.others.items c.loop-position.position c.min-position-end.result
    (omega (arith, c.min-position-end.ensures, c.len.ensures.count)) (omega (arith, c.loop-position.auto.position-end)) (omega (arith, c.loop-position-test.false)) c.loop-position.invariant
