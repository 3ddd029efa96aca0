use Rattle.std.proofs.Common.{◌∙◌}
use Rattle.std.specs.Prelude.{IsTrue}
use Rattle.kset.specs.Shown.{visible_in}
use Rattle.tier_tests.proofs.SetAfterLaws.{written_is_there}
use Rattle.tier_tests.proofs.tests.sets.rows.look_after_rewrite.Goals as goal

pub returns-in-Ok : goal.returns-in-Ok
returns-in-Ok g c =
    let d = g.D.PageDevice in
    let wrote = c.rewrite in
    let honest : IsTrue (d.honest wrote.new.device) = c.in-Written.ensures.writes.honest ∙ c.requires.honest in
    written_is_there (visible_in (d.held c.args.device.now) c.args.sets.now) (visible_in (d.held wrote.new.device) wrote.new.self) c.args.writer.now c.args.key.now c.args.moment wrote.new.self c.look.new.self c.args.placed.now.set c.in-Ok.looked
    (c.in-Written.ensures.shown c.requires.honest) c.requires.written (c.in-Ok.ensures.gives honest (c.in-Written.ensures.keeps.spelled c.requires.honest c.requires.spelled))
