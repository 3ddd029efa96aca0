use Rattle.std.proofs.Common.{◌≡◌, ◌+◌, Some, sym, ap, ◌∙◌, subst, arith}
use Rattle.trace_file.specs.Lent.{call_shown}
use Rattle.trace_file.specs.Numbers.{number_at}
use Rattle.certificate_finder.proofs.StepLemmas.{StepsSoFar, steps_go_on, steps_end}
use Rattle.certificate_finder.proofs.numbering.steps_of.Goals as goal

pub loop-position-preserved : goal.loop-position-preserved
loop-position-preserved g c = subst (λ items. StepsSoFar c.args.history.now (c.loop-position.position + 1) items (number_at c.number_word-in-loop-position.new.numbers)) (sym c.in_ok-push.ensures.items) (steps_go_on c.args.history.now c.loop-position.position c.loop-position.steps.items (number_at c.loop-position.numbers) (number_at c.number_word.new.numbers) (number_at c.number_word-in-loop-position.new.numbers) (call_shown c.at-call.result) c.of.result c.loop-position.invariant (omega arith) c.at-call.ensures.call c.at-call.ensures.lawful c.of.ensures.step (c.in_ok-key.ensures.known ∙ ap Some (sym c.of.ensures.key)) c.in_ok-key.ensures.kept c.in_ok-value.ensures.kept c.in_ok-key.ensures.numbers c.in_ok-value.ensures.numbers (subst (λ w. number_at c.number_word-in-loop-position.new.numbers w ≡ Some c.of.result.value) c.value.ensures (c.in_ok-value.ensures.known ∙ ap Some (sym c.of.ensures.value))))

pub returns : goal.returns
returns g c = steps_end c.args.history.now c.loop-position.position c.loop-position.steps.items (number_at c.loop-position.numbers) c.loop-position.invariant (omega arith)
