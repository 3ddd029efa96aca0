use Rattle.std.proofs.Common.{[]}
use Rattle.record_pages.proofs.MakingLaws.{in_the_making, holds_none, shows}
use Rattle.record_pages.proofs.page_body.PageBody.clear.Goals as goal

pub invariant_of-self : goal.invariant_of-self
invariant_of-self g c = in_the_making g.row.PAGE c.self.inside.bytes 0 0 [] (holds_none g.row.PAGE c.self.inside.bytes)

pub returns : goal.returns
returns g c = shows g.row.PAGE c.self.inside.bytes 0 0 [] (holds_none g.row.PAGE c.self.inside.bytes)
