use Rattle.std.proofs.Common.{sym}
use Rattle.history_picture.proofs.Choosing.{shown_added}
use Rattle.history_picture.proofs.shown.taken.Goals as goal

pub returns : goal.returns
returns c =
    shown_added c.args.history.now c.args.marks.now c.in_ok-shown.shown.items c.push_nearest.new.shown.items c.in-Some.first.now c.args.most c.in_ok-shown.ensures
    (sym c.in-Some.ensures.value) c.in_ok-push_nearest.ensures
