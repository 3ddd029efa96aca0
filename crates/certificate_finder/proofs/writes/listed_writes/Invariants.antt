use Rattle.certificate_finder.specs.Lists.{Lists}
use Rattle.certificate_finder.specs.Writing.{TellsWrite, Writing}
use Rattle.certificate_finder.proofs.writes.listed_writes.Given as goal

-- the writes so far are listed
abbrev pub invariant-loop-position : goal.invariant-loop-position
invariant-loop-position l = Lists l.steps Writing TellsWrite l.position l.writes.items
