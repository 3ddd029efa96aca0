use Rattle.std.proofs.Common.{arith}
use Rattle.history_window.proofs.RankLemmas.{none_from, some_from}
use Rattle.history_window.proofs.ranks.least_from.Goals as goal

pub returns : goal.returns
returns c = some_from c.args.ranks.now c.args.limit c.count_below-count.result c.requires c.rank_at.result c.count_below-count.ensures c.rank_at.ensures

pub returns-then-count-ranks : goal.returns-then-count-ranks
returns-then-count-ranks c = none_from c.args.ranks.now c.args.limit c.count_below-count.result c.requires c.count_below-count.ensures (omega arith)

pub rank_at-requires : goal.rank_at-requires
rank_at-requires c = let b = c.count_below-count.ensures.bound in omega arith
