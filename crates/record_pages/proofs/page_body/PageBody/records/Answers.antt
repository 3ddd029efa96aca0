use Rattle.record_pages.proofs.MakingLaws.{is_there}
use Rattle.record_pages.proofs.page_body.PageBody.records.Goals as goal

pub records_in-requires : goal.records_in-requires
records_in-requires g c =
    let b = c.self.inside in
    is_there g.row.PAGE b.bytes b.used b.count c.self.invariant
