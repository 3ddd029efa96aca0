use Rattle.entry_pool.specs.Rows.{in_set}
use Rattle.entry_pool.proofs.Marks.{all-after}
use Rattle.entry_pool.proofs.in_set.rows_in_set.Goals as goal

pub returns : goal.returns
returns c = all-after (in_set c.args.set c.args.pool.now.rows)
