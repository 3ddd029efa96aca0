use Rattle.std.proofs.Common.{ℕ, ◌≤◌, subst, arith}
use Rattle.history_window.specs.Ranks.{IsFrom}
use Rattle.history_window.proofs.RankLemmas.{none_first, other_first, some_first}
use Rattle.history_window.proofs.ranks.first_from.Goals as goal

pub returns-in_default : goal.returns-in_default
returns-in_default c = none_first c.args.ranks.now c.args.word c.args.limit (omega arith) (subst (λ r. (n : ℕ) → ¬ IsFrom c.args.ranks.now r n) c.rank-least.ensures c.in_default.ensures)

pub returns-in-None : goal.returns-in-None
returns-in-None c = other_first c.args.ranks.now c.args.word c.args.limit (omega arith) c.in-Some.found (subst (λ r. IsFrom c.args.ranks.now r c.in-Some.found) c.rank-least.ensures c.in-Some.ensures.0) (subst (λ r. (n : ℕ) → IsFrom c.args.ranks.now r n → c.in-Some.found ≤ n) c.rank-least.ensures c.in-Some.ensures.1) c.in-None.ensures

pub returns-in-Some-stamp_of : goal.returns-in-Some-stamp_of
returns-in-Some-stamp_of c = some_first c.args.ranks.now c.args.word c.args.limit (omega arith) c.in-Some.found c.in-Some-stamp_of.stamp (subst (λ r. IsFrom c.args.ranks.now r c.in-Some.found) c.rank-least.ensures c.in-Some.ensures.0) (subst (λ r. (n : ℕ) → IsFrom c.args.ranks.now r n → c.in-Some.found ≤ n) c.rank-least.ensures c.in-Some.ensures.1) c.in-Some-stamp_of.ensures.0 c.in-Some-stamp_of.ensures.1
