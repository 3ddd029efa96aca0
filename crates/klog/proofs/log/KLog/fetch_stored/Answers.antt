use Rattle.std.proofs.Common.{◌≡◌, rules}
use Rattle.klog.specs.Names.{segment_of, device_page}
use Rattle.klog.proofs.FetchLaws.{stored_gives}
use Rattle.klog.proofs.KnownLaws.{known_read}
use Rattle.klog.proofs.log.KLog.fetch_stored.Goals as goal

pub returns-clause-gives : goal.returns-clause-gives
returns-clause-gives g c = λ known knows has.
    let k = c.args.self.now in
    let e = c.args.entry.now in
    let at : c.device_page.result ≡ device_page k (segment_of k e) e.place.page = search rules in
    stored_gives g.row.PAGE known k e c.number_of-number.result c.device_page.result c.read.new.into _ c.checked.result has
    c.number_of-number.ensures at (known_read g.D.PageDevice.honest g.D.PageDevice.held c.args.device.now known c.device_page.result c.read.new.into knows c.in-Ok.ensures.known) c.record_on.ensures.value c.checked.ensures.gives
