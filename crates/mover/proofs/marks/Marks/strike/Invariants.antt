use Rattle.std.proofs.Common.{◌≡◌}
use Rattle.mover.specs.Flight.{mark_struck}
use Rattle.mover.proofs.public_laws.Listing.{mapped_to}
use Rattle.mover.proofs.marks.Marks.strike.Given as goal

abbrev pub invariant-loop-mark : goal.invariant-loop-mark
invariant-loop-mark l = l.mark-items ≡ mapped_to (mark_struck l.hash) l.mark-index l.initial.mark-items
