use Rattle.std.proofs.Common.{◌≤◌, sym, subst}
use Rattle.std.specs.Prelude.{All}
use Rattle.std.proofs.lemmas.List.Elements.{All-push}
use Rattle.trace_file.specs.Lent.{call_shown}
use Rattle.trace_file.specs.declared.call.Call.{Call}
use Rattle.judging_tests.proofs.tests.made.in_time.Goals as goal

pub loop-position-preserved : goal.loop-position-preserved
loop-position-preserved c = subst (λ calls. All (λ (call : Call). call.start ≤ call.end) calls) (sym c.in_ok-push_ref.ensures.ok) (All-push (λ (call : Call). call.start ≤ call.end) c.loop-position.made (call_shown c.ended-call.result) c.loop-position.invariant c.ended-call.ensures.in_time)
