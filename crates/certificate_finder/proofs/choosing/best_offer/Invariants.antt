use Rattle.std.proofs.Common.{◌≤◌, length}
use Rattle.certificate_finder.specs.Offering.{IsBestOffer}
use Rattle.certificate_finder.proofs.choosing.best_offer.Given as goal

-- the best of the puts from here on
abbrev pub invariant-loop-upto : goal.invariant-loop-upto
invariant-loop-upto l = record {
  within : l.upto ≤ l.initial.upto;
  best : IsBestOffer l.steps l.puts l.groups.owners.items l.rule l.hit l.upto (length l.puts) l.best;
}

abbrev pub decreases-loop-upto : goal.decreases-loop-upto
decreases-loop-upto l = l.upto
