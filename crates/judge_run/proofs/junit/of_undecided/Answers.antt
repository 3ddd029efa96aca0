use Rattle.std.proofs.Common.{◌≡◌, ◌∙◌, ℕ, List, IfOk, subst}
use Rattle.judge_run.specs.Junit.{erred_text}
use Rattle.judge_run.proofs.junit.of_undecided.Goals as goal

pub returns : goal.returns
returns c =
    subst (λ (why : List ℕ). IfOk c.erred.result (λ text. text.items ≡ erred_text c.args.name.now why)) (c.as_str.ensures.value ∙ c.in_ok-why.ensures.ok) c.erred.ensures
