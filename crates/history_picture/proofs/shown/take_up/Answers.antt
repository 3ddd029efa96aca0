use Rattle.std.proofs.Common.{arith}
use Rattle.history_picture.proofs.Choosing.{new_is_up, none_is_up}
use Rattle.history_picture.proofs.shown.take_up.Goals as goal

pub returns-then-mark-len : goal.returns-then-mark-len
returns-then-mark-len c =
    new_is_up c.args.history.now c.args.mark c.args.shown.now.items c.take_new.new.shown.items (omega (arith, c.if-mark-len.true, c.len.ensures.count)) c.in_ok-take_new.ensures

pub returns : goal.returns
returns c = none_is_up c.args.history.now c.args.mark c.args.shown.now.items (omega (arith, c.if-mark-len.false, c.len.ensures.count))
