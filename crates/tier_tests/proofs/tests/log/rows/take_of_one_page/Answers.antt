use Rattle.tier_tests.proofs.LogRowLaws.{left_by_take}
use Rattle.tier_tests.proofs.tests.log.rows.take_of_one_page.Goals as goal

pub returns-in-Ok : goal.returns-in-Ok
returns-in-Ok g c = left_by_take c.args.log.now c.take_set.new.self c.args.set c.in-Ok.taken c.in-Ok.ensures.leaves
