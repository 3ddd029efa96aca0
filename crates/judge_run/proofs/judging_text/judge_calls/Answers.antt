-- The calls are judged as the scope has them.
use Rattle.std.proofs.Common.{List, ap, subst}
use Rattle.trace_file.specs.declared.call.Call.{Call}
use Rattle.history_text.specs.Text.{Text, text_by}
use Rattle.judge_run.specs.Scopes.{IsWarmedIf}
use Rattle.judge_run.proofs.judging_text.judge_calls.Goals as goal

pub returns-clause-warmed : goal.returns-clause-warmed
returns-clause-warmed g c =
    let old = c.args.text.now in
    let warm = c.warm_if.new.text in
    subst (λ (t : Text). IsWarmedIf c.args.scope.warm t (text_by warm.history warm.lines.items warm.callers) c.in-Ok-warm_if.from_start) (ap (λ (cs : List Call). text_by cs old.lines.items old.callers) c.in-Ok.ensures) c.in-Ok-warm_if.ensures.warmed
