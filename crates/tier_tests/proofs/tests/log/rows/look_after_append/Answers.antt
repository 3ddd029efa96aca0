use Rattle.std.proofs.Common.{◌≡◌, arith}
use Rattle.record_pages.specs.Expiry.{value_at}
use Rattle.klog.specs.Known.{no_pages}
use Rattle.klog.specs.Append.{entering, entry_for, taker}
use Rattle.tier_tests.proofs.Newest.{told_after_append}
use Rattle.tier_tests.proofs.LogRowLaws.{answer_by}
use Rattle.tier_tests.proofs.tests.log.rows.look_after_append.Goals as goal

pub returns-in-Ok : goal.returns-in-Ok
returns-in-Ok g c =
    let r = entering c.args.key.now c.args.value.now in
    let here = told_after_append g.row.PAGE c.args.log.now c.append.new.self c.args.key.now c.args.value.now c.args.placed.now c.requires.small c.bytes-key.ensures.range c.bytes-value.ensures.range (omega (arith, c.expires-expires.ensures, c.expires-expires.type_inv)) c.requires.place
    c.in-Appended.ensures.gives (c.in-Appended.ensures.shown no_pages) in
    let told = c.in-Ok.ensures.in_buffers (entry_for g.row.PAGE (taker g.row.PAGE c.args.log.now r) r) r here in
    answer_by (value_at c.args.moment c.args.value.now) c.append.new.self c.args.placed.now.set (entry_for g.row.PAGE (taker g.row.PAGE c.args.log.now r) r) c.look.new.self (c.look.new.device ≡ c.args.device.now) c.in-Ok.looked told
