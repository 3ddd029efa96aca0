-- The lines of the hits stand after those of the calls.
use Rattle.std.proofs.Common.{◌≡◌, ◌∙◌, ◌++◌, List, Some, ap, arith, length, refl, subst}
use Rattle.trace_file.specs.declared.call.Call.{Call}
use Rattle.certificate_finder.specs.Warming.{IsWarmed}
use Rattle.judge_run.specs.Telling.{lines_at}
use Rattle.judge_run.proofs.WarmLaws.{as_many}
use Rattle.judge_run.proofs.warming.warm.Goals as goal

pub returns-clause-warmed : goal.returns-clause-warmed
returns-clause-warmed g c =
    let count : c.len-values.result ≡ length c.in-Ok.warm.hits.items = omega (arith, c.len-values.ensures, c.in-Ok.warm.hits.ok.0) in
    record {
      warm = c.in-Ok.warm;
      is = subst (λ (cs : List Call). IsWarmed cs c.in-Ok.warm) c.replace-history.ensures.value c.in-Ok.ensures;
      calls_are = refl;
      lines_are = c.in-Ok-with_lines.ensures ∙ (λ i. c.deref.ensures.value i ++ lines_at (c.deref.ensures.value i) (c.deref-2.ensures.value i));
      callers_are = refl;
      added_is = ap Some count;
    }

pub returns-clause-as_many : goal.returns-clause-as_many
returns-clause-as_many g c =
    as_many c.args.text.now.history c.in-Ok.warm c.args.text.now.lines.items (subst (λ (cs : List Call). IsWarmed cs c.in-Ok.warm) c.replace-history.ensures.value c.in-Ok.ensures) c.requires c.in-Ok-with_lines.lines.items
    (c.in-Ok-with_lines.ensures ∙ (λ i. c.deref.ensures.value i ++ lines_at (c.deref.ensures.value i) (c.deref-2.ensures.value i)))
