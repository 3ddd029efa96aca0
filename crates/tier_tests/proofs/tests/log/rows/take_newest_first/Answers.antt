use Rattle.klog.specs.Shown.{live_on}
use Rattle.tier_tests.proofs.LogTakeLaws.{newest_first}
use Rattle.tier_tests.proofs.tests.log.rows.take_newest_first.Goals as goal

pub returns-in-Ok : goal.returns-in-Ok
returns-in-Ok g c =
    let d = g.D.PageDevice in
    newest_first c.args.log.now c.take_set.new.self c.args.set (live_on (d.held c.args.device.now) c.args.log.now) (live_on (d.held c.take_set.new.device) c.take_set.new.self) c.in-Ok.taken
    (c.in-Ok.ensures.gives c.requires.honest c.requires.spelled)
