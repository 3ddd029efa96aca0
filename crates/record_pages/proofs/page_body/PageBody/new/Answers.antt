use Rattle.std.proofs.Common.{[], replicate}
use Rattle.record_pages.proofs.MakingLaws.{in_the_making, holds_none, shows}
use Rattle.record_pages.proofs.page_body.PageBody.new.Goals as goal

pub invariant_of-result : goal.invariant_of-result
invariant_of-result g c = in_the_making g.row.PAGE (replicate g.row.PAGE 0) 0 0 [] (holds_none g.row.PAGE (replicate g.row.PAGE 0))

pub returns : goal.returns
returns g c = shows g.row.PAGE (replicate g.row.PAGE 0) 0 0 [] (holds_none g.row.PAGE (replicate g.row.PAGE 0))
