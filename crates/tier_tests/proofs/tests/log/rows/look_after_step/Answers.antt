use Rattle.std.proofs.Common.{rules}
use Rattle.std.specs.Prelude.{IsTrue}
use Rattle.klog.specs.Shown.{live_on}
use Rattle.tier_tests.proofs.LogRowLaws.{newest_still, not_absent, is_its_hit}
use Rattle.tier_tests.proofs.tests.log.rows.look_after_step.Goals as goal

pub returns-in-Ok-clause-there : goal.returns-in-Ok-clause-there
returns-in-Ok-clause-there g c = λ newest live apart.
    let d = g.D.PageDevice in
    let was = c.args.log.now in
    let step = c.flush_step in
    let honest : IsTrue (d.honest step.new.device) = search rules in
    let seen = live_on (d.held step.new.device) step.new.self in
    let still = newest_still was step.result (live_on (d.held c.args.device.now) was) seen c.args.key.now newest (step.ensures.shown c.requires.honest c.requires.spelled) live apart in
    not_absent seen c.args.key.now c.args.moment newest step.new.self c.in-Ok.looked c.look.new.self (live_on (d.held c.look.new.device) c.look.new.self) still
    (c.in-Ok.ensures.gives honest (step.ensures.spelled c.requires.honest c.requires.spelled))

pub returns-in-Ok-clause-hit : goal.returns-in-Ok-clause-hit
returns-in-Ok-clause-hit g c = λ newest live apart.
    let d = g.D.PageDevice in
    let was = c.args.log.now in
    let step = c.flush_step in
    let honest : IsTrue (d.honest step.new.device) = search rules in
    let seen = live_on (d.held step.new.device) step.new.self in
    let still = newest_still was step.result (live_on (d.held c.args.device.now) was) seen c.args.key.now newest (step.ensures.shown c.requires.honest c.requires.spelled) live apart in
    is_its_hit seen c.args.key.now c.args.moment newest step.new.self c.in-Ok.looked c.look.new.self (live_on (d.held c.look.new.device) c.look.new.self) still
    (c.in-Ok.ensures.gives honest (step.ensures.spelled c.requires.honest c.requires.spelled))
