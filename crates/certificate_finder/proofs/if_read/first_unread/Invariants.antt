use Rattle.std.proofs.Common.{◌≡◌, ◌<◌, ℕ}
use Rattle.std.specs.Prelude.{Some, slice_get}
use Rattle.certificate_finder.specs.Lining.{positions_in}
use Rattle.certificate_finder.specs.Unreading.{HasOpen}
use Rattle.certificate_finder.proofs.if_read.first_unread.Given as goal

-- each hit so far can have read a put that stands open
abbrev pub invariant-loop-index : goal.invariant-loop-index
invariant-loop-index l = (k hit : ℕ) → k < l.index → slice_get (positions_in l.hits) k ≡ Some hit → HasOpen l.steps l.groups.owners.items hit
