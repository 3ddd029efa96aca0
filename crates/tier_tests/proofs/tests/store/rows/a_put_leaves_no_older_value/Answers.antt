-- What is shown of a key that was put.
use Rattle.record_pages.specs.Expiry.{timed}
use Rattle.mover.specs.Lane.{lane_of}
use Rattle.tier_tests.proofs.Struck.{put_is_alone}
use Rattle.tier_tests.proofs.tests.store.rows.a_put_leaves_no_older_value.Goals as goal

pub returns : goal.returns
returns g c ok told here =
    let d = g.D.PageDevice in
    put_is_alone g.row.PAGE c.args.store.now.layout.admit c.args.word (record { key = c.args.key; value = timed c.args.value c.args.expires }) told (lane_of d.held c.args.store.now) (lane_of d.held c.put.new.self) c.put.result
    c.put_shows.ensures (c.layout-layout.ensures.order c.requires.honest) ok c.put.ensures.gives here
