use Rattle.std.proofs.Common.{◌∙◌, ◌∷◌, [], ap, sym, take}
use Rattle.std.proofs.lemmas.List.Sums.{fold-append}
use Rattle.certificate_checker.proofs.public_laws.Lookups.{take_next}
use Rattle.trace_file.specs.Lent.{call_shown}
use Rattle.history_window.specs.Streams.{last_end, later_end}
use Rattle.history_window.proofs.streams.last_end.Goals as goal

pub loop-position-preserved : goal.loop-position-preserved
loop-position-preserved c =
    let history = c.args.history.now in
    let i = c.loop-position.position in
    let call = call_shown c.at.result in
    c.later_end-last.ensures
    ∙ ap (λ last. later_end last call) c.loop-position.invariant
    ∙ sym (ap (last_end c.args.latest) (take_next history i call c.at.ensures.call) ∙ fold-append later_end c.args.latest (take i history) (call ∷ []))
