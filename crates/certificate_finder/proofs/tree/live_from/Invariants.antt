use Rattle.std.proofs.Common.{◌≡◌, ℕ, ◌+◌, List}
use Rattle.certificate_finder.specs.Readings.{Says}
use Rattle.certificate_finder.specs.Trees.{IsTree, node_over}
use Rattle.certificate_finder.proofs.TreeLemmas.{IsReached}
use Rattle.certificate_finder.proofs.tree.live_from.Given as goal

-- the puts under the node so far
abbrev pub invariant-loop-level : goal.invariant-loop-level
invariant-loop-level l = record {
  over : l.at ≡ node_over l._level (l.fn.shape.width + l.fn.leaf);
  reached : (leaves : List ℕ) (taken : ℕ) → IsTree l.puts leaves l.fn.shape taken l.nodes → Says (IsReached l.puts leaves taken l.fn.leaf l.moment l.fn.shape.width l._level l.at) l.found;
}
