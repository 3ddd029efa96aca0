-- What keeps items by rank meets the laws.
use Rattle.policy_laws.proofs.public_laws.RankLaws.{chosen_plan, chosen_lawful, chosen_by_rank}
use Rattle.rriparoo.specs.Ageing.{farthest}
use Rattle.rriparoo.specs.Rriparoo.{aged_candidate}
use Rattle.rriparoo.proofs.AgeingLaws.{has_items, are_aged}
use Rattle.rriparoo.proofs.rriparoo.RriparooEvictionPolicy.choose.Goals as goal

pub returns-clause-plan : goal.returns-clause-plan
returns-clause-plan c =
    let are = are_aged _ _ _ _ _ c.deref.ensures.value c.in_ok-candidates.ensures c.farthest_of.ensures.value c.as_slice-items.ensures in
    chosen_plan (aged_candidate (farthest c.args.job.now.items)) (has_items _) c.args.job.now c.deref.result.now are c.plan_by_rank.result c.plan_by_rank.ensures.plan

pub returns-clause-lawful : goal.returns-clause-lawful
returns-clause-lawful c =
    let are = are_aged _ _ _ _ _ c.deref.ensures.value c.in_ok-candidates.ensures c.farthest_of.ensures.value c.as_slice-items.ensures in
    chosen_lawful (aged_candidate (farthest c.args.job.now.items)) (has_items _) c.args.job.now c.deref.result.now are c.plan_by_rank.result c.plan_by_rank.ensures.plan

pub returns-clause-by_rank : goal.returns-clause-by_rank
returns-clause-by_rank c =
    let are = are_aged _ _ _ _ _ c.deref.ensures.value c.in_ok-candidates.ensures c.farthest_of.ensures.value c.as_slice-items.ensures in
    chosen_by_rank (aged_candidate (farthest c.args.job.now.items)) (has_items _) c.args.job.now c.deref.result.now are c.plan_by_rank.result c.plan_by_rank.ensures.plan
