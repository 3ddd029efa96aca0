use Rattle.std.proofs.Common.{◌≡◌, ◌+◌, ◌*◌, ◌^◌, Some, sym, ap, ◌∙◌, subst, arith}
use Rattle.trace_file.specs.Lent.{call_shown}
use Rattle.trace_file.specs.Numbers.{number_at}
use Rattle.history_window.proofs.CodeLemmas.{CodesSoFar, codes_end, codes_go_on}
use Rattle.history_window.proofs.coding.codes_of.Goals as goal

pub loop-position-preserved : goal.loop-position-preserved
loop-position-preserved g c = subst (λ items. CodesSoFar c.args.history.now (c.loop-position.position + 1) items (number_at c.number_word-in-loop-position.new.numbers)) (sym c.in_ok-push.ensures.items) (codes_go_on c.args.history.now c.loop-position.position c.loop-position.codes.items (number_at c.loop-position.numbers) (number_at c.number_word.new.numbers) (number_at c.number_word-in-loop-position.new.numbers) (call_shown c.at-call.result) c.of.result c.in_ok-word.word c.loop-position.invariant (omega arith) c.at-call.ensures.call c.at-call.ensures.lawful c.of.ensures.code (c.in_ok-key.ensures.known ∙ ap Some (sym c.of.ensures.key)) c.in_ok-key.ensures.kept c.in_ok-word.ensures.kept c.in_ok-key.ensures.numbers c.in_ok-word.ensures.numbers (subst (λ w. number_at c.number_word-in-loop-position.new.numbers w ≡ Some c.in_ok-word.word) c.value.ensures c.in_ok-word.ensures.known) (c.of.ensures.value ∙ ap (λ k. k * 2 ^ 32 + c.in_ok-word.word) (sym c.of.ensures.key)))

pub returns : goal.returns
returns g c = codes_end c.args.history.now c.loop-position.position c.loop-position.codes.items (number_at c.loop-position.numbers) c.loop-position.invariant (omega arith) (omega arith)
