-- A get that is refused since the history is full changes nothing.
use Rattle.std.proofs.Common.{Err, ap}
use Rattle.mover.specs.Get.{get_step}
use Rattle.scripts.specs.Own.{seen_of}
use Rattle.scripts.specs.Replies.{reply_to_get}
use Rattle.scripts.proofs.Full.{refused_full}
use Rattle.scripts.proofs.replies.get_reply.Goals as goal

pub returns-in_ok-append-in-Err-HistoryFull-clause-lane : goal.returns-in_ok-append-in-Err-HistoryFull-clause-lane
returns-in_ok-append-in-Err-HistoryFull-clause-lane g c =
    let said = c.in-Err-HistoryFull.ensures in
    let o = seen_of c.args.lane.now in
    refused_full c.args.lane.now c.get.new.self (reply_to_get o c.args.key.now c.args.moment (get_step c.args.key.now c.args.moment o.lane)) (said.full.0 (ap Err c.in-Err-HistoryFull.field-0-is)) (said.full_keeps (ap Err c.in-Err-HistoryFull.field-0-is))
