-- The last rows, and those of the hits.
use Rattle.serve_load.specs.Reports.{last_rows}
use Rattle.serve_load.specs.WrongHits.{hit_rows}
use Rattle.serve_load.proofs.Rows.{then_rows}
use Rattle.serve_load.proofs.report.Report.tell_end.Goals as goal

pub returns-in-Ok : goal.returns-in-Ok
returns-in-Ok c = then_rows c.args.form _ _ _ (last_rows c.args.self.now) (hit_rows c.args.load.now c.args.hits.now) c.in_ok-tell_last.ensures c.in-Ok.ensures
