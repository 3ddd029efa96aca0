use Rattle.std.proofs.Common.{◌<◌, sym, ◌∙◌, rules}
use Rattle.record_pages.specs.Lent.{record_shown}
use Rattle.klog.proofs.BufferLaws.{pushed_here}
use Rattle.klog.proofs.buffer.SegmentBuffer.push.Goals as goal

pub returns-then-fits_here-clause-some : goal.returns-then-fits_here-clause-some
returns-then-fits_here-clause-some g c =
    let b = c.self.inside in
    let some : 0 < b.used = search rules in
    let w = pushed_here g.row.PAGE b.pages.items b.used c.args.self.now (record_shown c.args.added) c.index_mut-page.result.now c.push.new.self c.len-slot.result c.self.view_is some c.self.invariant.0 c.index_mut-page.ensures.value (sym c.fits_here.ensures.fits ∙ c.if-fits_here.true) c.push.ensures c.len-slot.ensures.len in
    (w.can, w.buffer, w.page_is, w.slot_is)
