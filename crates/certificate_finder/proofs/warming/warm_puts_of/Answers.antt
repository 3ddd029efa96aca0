use Rattle.std.proofs.Common.{◌++◌, ◌∷◌, [], ap, sym, ◌∙◌, arith}
use Rattle.trace_file.specs.Lent.{call_shown}
use Rattle.std.proofs.lemmas.List.{take_all}
use Rattle.certificate_finder.specs.Warming.{warm_put, warm_puts}
use Rattle.certificate_finder.proofs.WarmingLemmas.{puts_next}
use Rattle.certificate_finder.proofs.warming.warm_puts_of.Goals as goal

pub loop-index-preserved : goal.loop-index-preserved
loop-index-preserved c =
    c.in_ok-push_ref.ensures.ok
    ∙ ap (λ put. c.loop-index.puts ++ put ∷ []) c.warm_put.ensures.put
    ∙ ap (λ puts. puts ++ warm_put (call_shown c.at-call.result) ∷ []) c.loop-index.invariant
    ∙ sym (puts_next c.args.history.now c.args.hits.now c.loop-index.index c.item_at-position.result (call_shown c.at-call.result) c.item_at-position.ensures c.at-call.ensures.call)

pub returns : goal.returns
returns c = c.loop-index.invariant ∙ ap (warm_puts c.args.history.now) (take_all c.loop-index.index c.args.hits.now (omega arith))
