use Rattle.std.proofs.Common.{length, ap, ◌∙◌, sym}
use Rattle.record_pages.proofs.RecordLaws.{records_of-length}
use Rattle.record_pages.proofs.records.Records.len.Goals as goal

pub returns : goal.returns
returns c =
    let w = c.self.inside in
    sym (records_of-length w.form w.left w.rest.now c.self.invariant) ∙ ap length c.self.view_is
