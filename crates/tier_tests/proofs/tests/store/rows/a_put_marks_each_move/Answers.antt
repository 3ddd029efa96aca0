-- What a put does to the moves in flight.
use Rattle.record_pages.specs.Expiry.{timed}
use Rattle.mover.specs.Lane.{lane_of}
use Rattle.tier_tests.proofs.OthersRow.{put_marks}
use Rattle.tier_tests.proofs.tests.store.rows.a_put_marks_each_move.Goals as goal

pub returns : goal.returns
returns g c n ok =
    let held = g.D.PageDevice.held in
    put_marks g.row.PAGE c.args.store.now.layout.admit c.args.word n (record { key = c.args.key; value = timed c.args.value c.args.expires }) (lane_of held c.args.store.now) (lane_of held c.put.new.self) c.put.result ok c.put.ensures.gives
