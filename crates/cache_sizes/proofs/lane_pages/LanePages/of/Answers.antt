use Rattle.std.proofs.Common.{arith}
use Rattle.cache_sizes.proofs.DividingLaws.{log_leaves_a_page}
use Rattle.cache_sizes.proofs.lane_pages.LanePages.of.Goals as goal

pub sets_of-requires-clause-left : goal.sets_of-requires-clause-left
sets_of-requires-clause-left c = grind (arith, log_leaves_a_page c.args.pages)
