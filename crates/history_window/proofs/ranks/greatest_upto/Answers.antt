use Rattle.std.proofs.Common.{arith}
use Rattle.history_window.proofs.RankLemmas.{none_upto, some_upto}
use Rattle.history_window.proofs.ranks.greatest_upto.Goals as goal

pub returns : goal.returns
returns c = some_upto c.args.ranks.now c.args.limit c.count_upto-count.result c.requires c.rank_at.result c.count_upto-count.ensures (omega arith) c.rank_at.ensures

pub returns-then-count-eq0 : goal.returns-then-count-eq0
returns-then-count-eq0 c = none_upto c.args.ranks.now c.args.limit c.count_upto-count.result c.requires c.count_upto-count.ensures (omega arith)

pub rank_at-requires : goal.rank_at-requires
rank_at-requires c = let b = c.count_upto-count.ensures.bound in omega arith
