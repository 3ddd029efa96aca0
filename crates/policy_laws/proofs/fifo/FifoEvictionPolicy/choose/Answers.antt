-- What keeps items by rank meets the laws.
use Rattle.std.proofs.Common.{◌≡◌, ◌∙◌, ap, refl}
use Rattle.policy_laws.specs.Rank.{candidates_by}
use Rattle.policy_laws.specs.Fifo.{fifo_candidate}
use Rattle.policy_laws.proofs.public_laws.RankLaws.{HasItems, chosen_lawful, chosen_by_rank}
use Rattle.policy_laws.proofs.fifo.FifoEvictionPolicy.choose.Goals as goal

has_items : HasItems fifo_candidate
has_items = record { number = λ n item. refl; size = λ n item. refl }

pub returns-clause-lawful : goal.returns-clause-lawful
returns-clause-lawful c =
    let are : c.deref.result.now ≡ candidates_by fifo_candidate c.args.job.now.items = c.deref.ensures.value ∙ c.in_ok-candidates.ensures ∙ ap (candidates_by fifo_candidate) c.as_slice.ensures in
    chosen_lawful fifo_candidate has_items c.args.job.now c.deref.result.now are c.plan_by_rank.result c.plan_by_rank.ensures.plan

pub returns-clause-by_rank : goal.returns-clause-by_rank
returns-clause-by_rank c =
    let are : c.deref.result.now ≡ candidates_by fifo_candidate c.args.job.now.items = c.deref.ensures.value ∙ c.in_ok-candidates.ensures ∙ ap (candidates_by fifo_candidate) c.as_slice.ensures in
    chosen_by_rank fifo_candidate has_items c.args.job.now c.deref.result.now are c.plan_by_rank.result c.plan_by_rank.ensures.plan
