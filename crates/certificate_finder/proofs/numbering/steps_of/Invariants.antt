use Rattle.trace_file.specs.Numbers.{number_at}
use Rattle.certificate_finder.proofs.StepLemmas.{StepsSoFar}
use Rattle.certificate_finder.proofs.numbering.steps_of.Given as goal

-- the calls so far are in numbers
abbrev pub invariant-loop-position : goal.invariant-loop-position
invariant-loop-position g l = StepsSoFar l.history l.position l.steps.items (number_at l.numbers)
