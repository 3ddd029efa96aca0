use Rattle.std.proofs.Common.{◌≡◌, ◌+◌, take}
use Rattle.record_pages.specs.Sizes.{room}
use Rattle.record_pages.specs.Recs.{sizes}
use Rattle.record_pages.proofs.encode.fits.Given as goal

abbrev pub invariant-loop-record : goal.invariant-loop-record
invariant-loop-record g l = l.room + sizes (take l.record-index l.records) ≡ room g.row.PAGE
