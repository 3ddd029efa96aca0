-- The puts of the hits so far.
use Rattle.std.proofs.Common.{◌≡◌, take}
use Rattle.certificate_finder.specs.Warming.{warm_puts}
use Rattle.certificate_finder.proofs.warming.warm_puts_of.Given as goal

abbrev pub invariant-loop-index : goal.invariant-loop-index
invariant-loop-index l = l.puts ≡ warm_puts l.history (take l.index l.hits)
