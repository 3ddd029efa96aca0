use Rattle.tier_tests.proofs.LogRowLaws.{touched_lowered, untouched, as_many}
use Rattle.tier_tests.proofs.tests.log.rows.touch_of_one_entry.Goals as goal

pub returns-clause-lowered : goal.returns-clause-lowered
returns-clause-lowered g c = touched_lowered c.args.log.now c.touch.new.self c.args.entry.now c.touch.ensures.touched

pub returns-clause-others : goal.returns-clause-others
returns-clause-others g c = λ other. untouched c.args.log.now c.touch.new.self c.args.entry.now other c.touch.ensures.touched

pub returns-clause-count : goal.returns-clause-count
returns-clause-count g c = as_many c.args.log.now c.touch.new.self c.args.entry.now c.touch.ensures.touched
