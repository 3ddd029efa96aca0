-- What the hits of a history can have read.
use Rattle.std.specs.Prelude.{List, length}
use Rattle.certificate_finder.specs.declared.hit_reads.HitReads.{HitReads}
use Rattle.certificate_finder.specs.declared.numbered_call.NumberedCall.{NumberedCall}
use Rattle.certificate_finder.specs.declared.stamp.Stamp.TheVariants.{End}
use Rattle.certificate_finder.specs.Offering.{AreByStamps}
use Rattle.certificate_finder.specs.Owning.{AreKnownOwners}
use Rattle.certificate_finder.specs.Putting.{ArePuts}

-- the puts, with which write each call goes, and the hits that can have read no put, by their ends
pub record AreHitReads (steps : List NumberedCall) (reads : HitReads) : Type 0 where
  pub puts : ArePuts steps reads.puts.items
  pub owners : AreKnownOwners steps (length steps) reads.owners
  pub wrong : AreByStamps End steps reads.owners.wrong.items reads.wrong.items
