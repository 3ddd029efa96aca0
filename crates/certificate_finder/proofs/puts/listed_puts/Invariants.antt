use Rattle.certificate_finder.specs.Lists.{AreApart, Lists}
use Rattle.certificate_finder.specs.Putting.{TellsPut, Putting}
use Rattle.certificate_finder.specs.declared.put.Put.{Put}
use Rattle.certificate_finder.proofs.puts.listed_puts.Given as goal

-- the puts so far are listed, each once
abbrev pub invariant-loop-position : goal.invariant-loop-position
invariant-loop-position l = Lists l.steps Putting (TellsPut l.steps) l.position l.puts.items × AreApart (λ (put : Put). put.position) l.position l.puts.items
