-- By the plan of the live item.
use Rattle.item_lane.specs.Cells.{kept_shown}
use Rattle.service_tests.proofs.CommandRows.{live_kept}
use Rattle.service_tests.proofs.tests.server.items.rows.an_add_keeps_the_live_item.Goals as goal

pub returns : goal.returns
returns g c =
    let d = g.D.PageDevice in
    live_kept g.row.PAGE d.honest d.failures d.held c.args.key.now c.args.turn c.args.lane.now c.store_if-result.new.lane c.args.compare (kept_shown c.args.item) c.store_if-result.result c.store_if-result.ensures
