use Rattle.std.proofs.Common.{◌≡◌, ◌+◌}
use Rattle.std.specs.Prelude.{All, slice_index}
use Rattle.certificate_finder.specs.Bests.{AreAmong}
use Rattle.certificate_finder.specs.Trees.{AreRows, HasEntered, node_over}
use Rattle.certificate_finder.proofs.tree.add.Given as goal

-- the put has entered the rows so far
abbrev pub invariant-loop-level : goal.invariant-loop-level
invariant-loop-level l = record {
  over : l.at ≡ node_over l._level (l.fn.shape.width + slice_index l.leaves l.index);
  among : All (AreAmong l.puts) l.nodes;
  rows : AreRows l.puts l.leaves l.fn.shape (HasEntered l.index l._level) l.nodes;
}
