use Rattle.trace_file.specs.Numbers.{number_at}
use Rattle.history_window.proofs.CodeLemmas.{CodesSoFar}
use Rattle.history_window.proofs.coding.codes_of.Given as goal

-- the calls so far are in numbers
abbrev pub invariant-loop-position : goal.invariant-loop-position
invariant-loop-position g l = CodesSoFar l.history l.position l.codes.items (number_at l.numbers)
