-- What the device counted if a page was not written.
use Rattle.tier_tests.proofs.OthersRow.{forgotten_failed}
use Rattle.tier_tests.proofs.tests.store.rows.a_forgotten_commit_has_failed.Goals as goal

pub returns : goal.returns
returns g c is =
    let d = g.D.PageDevice in
    forgotten_failed (d.failures c.args.store.now.device) (d.failures c.move_commit.new.self.device) c.move_commit.result c.move_commit.ensures.faults is
