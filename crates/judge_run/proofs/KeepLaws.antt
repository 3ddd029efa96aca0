-- Calls by positions.
use Rattle.std.proofs.Common.{◌≡◌, ◌∙◌, ℕ, List, subst, ap}
use Rattle.trace_file.specs.declared.call.Call.{Call}
use Rattle.certificate_checker.specs.Orders.{in_order}
use Rattle.history_window.specs.Settled.{AreUnsettled}
use Rattle.history_window.specs.Streams.{IsKept, lines_of}
use Rattle.history_window.specs.Windows.{IsWindow}

-- the window is kept first, and what is not settled of it then
pub kept_in_turn : (bound : ℕ) (calls first kept : List Call) (lines first_lines kept_lines : List ℕ) (stay at left next : List ℕ) → at ≡ stay → next ≡ left → IsWindow bound calls stay → first ≡ in_order calls at → first_lines ≡ lines_of lines at → AreUnsettled bound first left → kept ≡ in_order first next → kept_lines ≡ lines_of first_lines next → IsKept bound calls lines kept kept_lines
kept_in_turn bound calls first kept lines first_lines kept_lines stay at left next at_is next_is window first_is first_lines_are unsettled kept_is kept_lines_are =
    let windowed = first_is ∙ ap (in_order calls) at_is in
    let windowed_lines = first_lines_are ∙ ap (lines_of lines) at_is in record {
      window = stay;
      left = left;
      is_window = window;
      are_left = subst (λ (cs : List Call). AreUnsettled bound cs left) windowed unsettled;
      calls_are = kept_is ∙ ap (in_order first) next_is ∙ ap (λ (cs : List Call). in_order cs left) windowed;
      lines_are = kept_lines_are ∙ ap (lines_of first_lines) next_is ∙ ap (λ (ls : List ℕ). lines_of ls left) windowed_lines;
    }
