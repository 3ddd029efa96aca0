use Rattle.std.proofs.Common.{sym}
use Rattle.zipf.proofs.WeightLaws.{ahead_none}
use Rattle.zipf.proofs.ranks.Ranks.new.Goals as goal

pub added-total-requires-clause-before : goal.added-total-requires-clause-before
added-total-requires-clause-before c = sym ahead_none
