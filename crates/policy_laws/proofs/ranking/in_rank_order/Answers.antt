-- A stable sort by rank gives the candidates by rank.
use Rattle.std.proofs.Common.{◌≡◌, ◌∙◌, ap, rules, arith}
use Rattle.std.proofs.lemmas.List.Sorted.{answers_always}
use Rattle.std.proofs.lemmas.Grind.{common_steps}
use Rattle.policy_laws.specs.Rank.{rank_before, by_rank}
use Rattle.policy_laws.proofs.SortLaws.{ranks_are_ordered, sorted_is}
use Rattle.policy_laws.proofs.ranking.in_rank_order.Goals as goal

pub returns : goal.returns
returns c =
    let copied : c.extend_from_slice.new.self.items ≡ c.args.candidates.now = grind (arith, common_steps) in
    sorted_is c.extend_from_slice.new.self.items c.sort_by.new.self.items
    (c.in_ok-sort_by.ensures.sorted rank_before ranks_are_ordered (answers_always _ _ _ (λ f a r g called. search rules)))
    (c.in_ok-sort_by.ensures.stable rank_before ranks_are_ordered (answers_always _ _ _ (λ f a r g called. search rules)))
    ∙ ap by_rank copied
