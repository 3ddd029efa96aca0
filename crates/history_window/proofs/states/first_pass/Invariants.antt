use Rattle.std.proofs.Common.{ℕ, List}
use Rattle.history_window.specs.Knowing.{FirstKnown}
use Rattle.history_window.specs.States.{state_at}
use Rattle.history_window.proofs.states.first_pass.Given as goal

-- the greatest stamps so far are known
abbrev pub invariant-loop-position : goal.invariant-loop-position
invariant-loop-position g l = (key : List ℕ) → FirstKnown l.history l.position key (state_at l.states key)
