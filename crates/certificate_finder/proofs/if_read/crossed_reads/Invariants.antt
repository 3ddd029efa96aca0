use Rattle.std.proofs.Common.{◌≤◌}
use Rattle.certificate_finder.specs.Unreading.{AreReadsFrom}
use Rattle.certificate_finder.proofs.if_read.crossed_reads.Given as goal

-- the puts from here on are listed
abbrev pub invariant-loop-upto : goal.invariant-loop-upto
invariant-loop-upto l = record {
  within : l.upto ≤ l.initial.upto;
  reads : AreReadsFrom l.steps l.groups.owners.items l.hit l.linked.puts.now l.upto l.reads.items;
}

abbrev pub decreases-loop-upto : goal.decreases-loop-upto
decreases-loop-upto l = l.upto
