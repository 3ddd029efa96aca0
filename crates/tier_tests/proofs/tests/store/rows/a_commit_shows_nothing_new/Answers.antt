-- What a commit shows.
use Rattle.mover.specs.Lane.{lane_of}
use Rattle.tier_tests.proofs.Struck.{nothing_new_is_written}
use Rattle.tier_tests.proofs.tests.store.rows.a_commit_shows_nothing_new.Goals as goal

pub returns : goal.returns
returns g c pair here =
    let d = g.D.PageDevice in
    nothing_new_is_written g.row.PAGE c.args.plan.now c.args.number pair c.move_commit.result (lane_of d.held c.args.store.now) (lane_of d.held c.move_commit.new.self)
    c.commit_shows.ensures (c.layout-layout.ensures.order c.requires.honest) (c.move_commit.ensures.gives c.requires.honest) here
