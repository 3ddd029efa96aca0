-- One call more.
use Rattle.std.proofs.Common.{◌≡◌, ℕ, ◌+◌, Some, List, [], ◌∷◌, ◌++◌, map, take, sym, ap, ◌∙◌}
use Rattle.std.specs.Prelude.{slice_get}
use Rattle.std.proofs.lemmas.List.{map-append}
use Rattle.trace_file.specs.Lent.{call_shown}
use Rattle.trace_file.specs.declared.call.Call.{Call}
use Rattle.certificate_checker.proofs.public_laws.Lookups.{take_next}
use Rattle.clock_skew.specs.Widening.{widened}
use Rattle.clock_skew.proofs.widening.widened.Goals as goal

one_more : (skew position : ℕ) (history before after : List Call) (call wide : Call) → slice_get history position ≡ Some call → wide ≡ widened skew call → before ≡ map (widened skew) (take position history) → after ≡ before ++ wide ∷ [] → after ≡ map (widened skew) (take (position + 1) history)
one_more skew position history before after call wide found is so_far more =
    more ∙ ap (λ l. l ++ wide ∷ []) so_far ∙ ap (λ w. map (widened skew) (take position history) ++ w ∷ []) is
    ∙ sym (ap (map (widened skew)) (take_next history position call found) ∙ map-append (widened skew) (take position history) (call ∷ []))

pub loop-position-preserved : goal.loop-position-preserved
loop-position-preserved c =
    one_more c.args.skew c.loop-position.position c.args.history.now c.loop-position.wide c.push_ref.new.self (call_shown c.at-call.result) (call_shown c.call_widened.result) c.at-call.ensures.call c.call_widened.ensures c.loop-position.invariant c.in_ok-push_ref.ensures.ok
