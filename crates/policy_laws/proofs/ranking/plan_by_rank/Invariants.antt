use Rattle.std.proofs.Common.{◌≡◌, ◌-◌, ◌++◌, length, map, drop}
use Rattle.record_pages.specs.Sizes.{max_set_records}
use Rattle.policy_laws.specs.Rank.{fitting, choice_of, plan_by_rank}
use Rattle.policy_laws.proofs.ranking.plan_by_rank.Given as goal

-- what was kept so far, and what fits of the rest into what is left, is the plan
abbrev pub invariant-loop-candidate : goal.invariant-loop-candidate
invariant-loop-candidate l =
    plan_by_rank l.room l.candidates ≡ l.plan ++ map choice_of (fitting l.left (max_set_records - length l.plan) (drop l.candidate-index l.candidate-items))
