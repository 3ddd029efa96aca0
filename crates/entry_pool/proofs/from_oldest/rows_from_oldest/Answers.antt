use Rattle.std.proofs.Common.{reverse}
use Rattle.entry_pool.proofs.Marks.{all-after}
use Rattle.entry_pool.proofs.from_oldest.rows_from_oldest.Goals as goal

pub returns : goal.returns
returns c = all-after (reverse c.args.pool.now.rows)
