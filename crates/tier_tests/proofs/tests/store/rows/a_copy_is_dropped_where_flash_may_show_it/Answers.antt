-- What is dropped, and what stays then.
use Rattle.mover.specs.Lane.{lane_of}
use Rattle.tier_tests.proofs.PutBackRow.{dropped, stays}
use Rattle.tier_tests.proofs.tests.store.rows.a_copy_is_dropped_where_flash_may_show_it.Goals as goal

pub returns-clause-known : goal.returns-clause-known
returns-clause-known g c =
    let held = g.D.PageDevice.held in
    dropped g.row.PAGE c.args.pair.now (lane_of held c.args.store.now) c.put_back.result (lane_of held c.put_back.new.self) c.put_back.ensures.gives

pub returns-clause-stays : goal.returns-clause-stays
returns-clause-stays g c = λ other.
    let held = g.D.PageDevice.held in
    stays g.row.PAGE c.args.pair.now (lane_of held c.args.store.now) c.put_back.result (lane_of held c.put_back.new.self) c.put_back.ensures.gives other
