use Rattle.entry_pool.proofs.Marks.{all-after}
use Rattle.entry_pool.proofs.by_age.rows_by_age.Goals as goal

pub returns : goal.returns
returns c = all-after c.args.pool.now.rows
