use Rattle.write_budget.proofs.Granting.{within_budget, back_is_nothing, saved_is_granted}
use Rattle.write_budget.proofs.laws.budget_laws.Goals as goal

pub returns-clause-within : goal.returns-clause-within
returns-clause-within c = within_budget

pub returns-clause-back : goal.returns-clause-back
returns-clause-back c = back_is_nothing

pub returns-clause-saved : goal.returns-clause-saved
returns-clause-saved c = saved_is_granted
