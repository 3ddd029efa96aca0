use Rattle.tier_tests.proofs.SetRowLaws.{foreign, none_read}
use Rattle.tier_tests.proofs.tests.sets.rows.read_off_the_page_of_another_set.Goals as goal

pub returns-in-Ok : goal.returns-in-Ok
returns-in-Ok g c = λ records.
    none_read _ records (c.in-Ok.ensures.foreign c.requires.honest (foreign c.args.set _ c.requires.another) c.requires.written)
