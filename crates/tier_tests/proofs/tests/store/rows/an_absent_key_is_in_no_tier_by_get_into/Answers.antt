-- The same of a get into a buffer.
use Rattle.mover.specs.Lane.{lane_of}
use Rattle.tier_tests.proofs.AbsentRow.{absent_into_is_nowhere}
use Rattle.tier_tests.proofs.tests.store.rows.an_absent_key_is_in_no_tier_by_get_into.Goals as goal

pub returns : goal.returns
returns g c is =
    let d = g.D.PageDevice in
    absent_into_is_nowhere c.args.key.now c.args.moment c.get_into.result c.get_into.new.found (lane_of d.held c.args.store.now) (lane_of d.held c.get_into.new.self)
    (c.get_into.ensures.gets.gives c.requires.honest) is
