-- One hit more.
use Rattle.serve_load.specs.WrongHits.{hit_row}
use Rattle.serve_load.proofs.Rows.{row_more}
use Rattle.serve_load.proofs.hit_rows.tell_hits.Goals as goal

pub loop-hit-preserved : goal.loop-hit-preserved
loop-hit-preserved c =
    row_more c.args.form (hit_row c.args.load.now) c.args.hits.now c.loop-hit.hit-index c.hit-item.result _ _ _ c.loop-hit-test.true c.hit-item.is c.loop-hit.invariant c.in_ok-tell_hit.ensures
