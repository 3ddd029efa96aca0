use Rattle.certificate_finder.specs.Leaves.{AreLeavesOf}
use Rattle.certificate_finder.proofs.leaves.leaves_of.Given as goal

-- the puts so far have their leaves
abbrev pub invariant-loop-index : goal.invariant-loop-index
invariant-loop-index l = AreLeavesOf l.puts l.ends l.index l.leaves.items
