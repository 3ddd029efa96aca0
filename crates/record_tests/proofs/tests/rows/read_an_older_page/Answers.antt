use Rattle.record_tests.proofs.RowLaws.{at_most_64}
use Rattle.record_tests.proofs.tests.rows.read_an_older_page.Goals as goal

pub returns : goal.returns
returns g c = at_most_64 g.row.PAGE c.args.page.now c.read.result c.read.ensures.found
