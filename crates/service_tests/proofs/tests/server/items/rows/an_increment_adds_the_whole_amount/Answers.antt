-- By the plan of the live item.
use Rattle.service_tests.proofs.CommandRows.{sum_replied}
use Rattle.service_tests.proofs.tests.server.items.rows.an_increment_adds_the_whole_amount.Goals as goal

pub returns : goal.returns
returns g c =
    let d = g.D.PageDevice in
    sum_replied g.row.PAGE d.honest d.failures d.held c.args.key.now c.args.turn c.args.lane.now c.change_number-result.new.lane c.args.amount c.args.cas c.change_number-result.result c.change_number-result.ensures
