use Rattle.record_tests.proofs.RowLaws.{zeros_at_the_end}
use Rattle.record_tests.proofs.tests.rows.read_with_zeros_at_the_end.Goals as goal

pub returns : goal.returns
returns g c = zeros_at_the_end g.row.PAGE c.args.page.now c.read.result c.read.ensures.found
