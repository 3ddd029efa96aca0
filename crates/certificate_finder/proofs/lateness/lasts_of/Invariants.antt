use Rattle.certificate_finder.specs.Excluding.{AreLasts, IsLast}
use Rattle.certificate_finder.proofs.lateness.lasts_of.Given as goal

-- the ranks so far
abbrev pub invariant-loop-index : goal.invariant-loop-index
invariant-loop-index l = IsLast l.puts l.index l.last × AreLasts l.puts l.index l.lasts.items
