use Rattle.std.proofs.Common.{◌∙◌, ◌∷◌, [], ap, sym, take}
use Rattle.std.proofs.lemmas.List.Sums.{fold-append}
use Rattle.certificate_checker.proofs.public_laws.Lookups.{take_next}
use Rattle.trace_file.specs.Lent.{call_shown}
use Rattle.history_window.specs.Streams.{earlier_start, first_start}
use Rattle.history_window.proofs.streams.first_start.Goals as goal

pub loop-position-preserved : goal.loop-position-preserved
loop-position-preserved c =
    let history = c.args.history.now in
    let i = c.loop-position.position in
    let call = call_shown c.at.result in
    c.earlier_of-earliest.ensures
    ∙ ap (λ first. earlier_start first call) c.loop-position.invariant
    ∙ sym (ap (first_start c.args.first) (take_next history i call c.at.ensures.call) ∙ fold-append earlier_start c.args.first (take i history) (call ∷ []))
