use Rattle.std.specs.Prelude.{All}
use Rattle.certificate_finder.specs.Bests.{AreAmong}
use Rattle.certificate_finder.specs.Trees.{IsTree}
use Rattle.certificate_finder.proofs.tree.add_all.Given as goal

-- the puts so far have entered
abbrev pub invariant-loop-index : goal.invariant-loop-index
invariant-loop-index l = record {
  among : All (AreAmong l.puts) l.nodes;
  tree : IsTree l.puts l.leaves l.shape l.index l.nodes;
}
