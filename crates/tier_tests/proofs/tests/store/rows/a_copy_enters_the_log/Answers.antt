-- When a copy enters the log, and what it is there.
use Rattle.mover.specs.Lane.{lane_of}
use Rattle.tier_tests.proofs.PutBackRow.{enters, entered, entry_left}
use Rattle.tier_tests.proofs.tests.store.rows.a_copy_enters_the_log.Goals as goal

pub returns-clause-enters : goal.returns-clause-enters
returns-clause-enters g c = λ unknown small listed free.
    let held = g.D.PageDevice.held in
    enters g.row.PAGE c.args.pair.now (lane_of held c.args.store.now) c.put_back.result (lane_of held c.put_back.new.self) c.put_back.ensures.gives unknown small listed free

pub returns-clause-newest : goal.returns-clause-newest
returns-clause-newest g c = λ logged.
    let held = g.D.PageDevice.held in
    (entered g.row.PAGE c.args.pair.now (lane_of held c.args.store.now) c.put_back.result (lane_of held c.put_back.new.self) c.put_back.ensures.gives logged).newest

pub returns-clause-place : goal.returns-clause-place
returns-clause-place g c = λ logged.
    let held = g.D.PageDevice.held in
    (entered g.row.PAGE c.args.pair.now (lane_of held c.args.store.now) c.put_back.result (lane_of held c.put_back.new.self) c.put_back.ensures.gives logged).place

pub returns-clause-entry : goal.returns-clause-entry
returns-clause-entry g c = λ logged.
    let held = g.D.PageDevice.held in
    entry_left g.row.PAGE c.args.pair.now (lane_of held c.args.store.now) (entered g.row.PAGE c.args.pair.now (lane_of held c.args.store.now) c.put_back.result (lane_of held c.put_back.new.self) c.put_back.ensures.gives logged).entry
