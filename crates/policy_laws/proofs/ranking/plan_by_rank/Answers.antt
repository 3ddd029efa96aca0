-- The plan is the one that keeps the candidates by rank.
use Rattle.std.proofs.Common.{sym, subst, arith}
use Rattle.std.proofs.lemmas.Grind.{common_steps}
use Rattle.policy_laws.specs.Rank.{KeepsByRank}
use Rattle.policy_laws.proofs.public_laws.RankLaws.{keeps_by_rank}
use Rattle.policy_laws.proofs.ranking.plan_by_rank.Goals as goal

pub returns-clause-plan : goal.returns-clause-plan
returns-clause-plan c = grind (arith, common_steps)

pub returns-clause-by_rank : goal.returns-clause-by_rank
returns-clause-by_rank c = λ differ. subst (KeepsByRank c.args.room c.args.candidates.now) (sym (returns-clause-plan c)) (keeps_by_rank _ _ differ)
