use Rattle.std.proofs.Common.{◌≡◌, ◌+◌, ◌-◌, ◌*◌, ◌^◌, ◌<◌, ◌≤◌}
use Rattle.certificate_finder.proofs.tree_shape.TreeShape.over.Given as goal

-- as many leaves as the rows have
abbrev pub invariant-loop-width : goal.invariant-loop-width
invariant-loop-width l = record { power : l.width ≡ 2 ^ l.depth; some : 0 < l.width; least : l.width ≤ 2 * l.count + 1; deep : l.depth < l.width }

abbrev pub decreases-loop-width : goal.decreases-loop-width
decreases-loop-width l = l.count + 1 - l.width
