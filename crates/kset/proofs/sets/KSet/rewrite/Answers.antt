use Rattle.std.proofs.Common.{rules, arith}
use Rattle.std.proofs.lemmas.Grind.{common_steps}
use Rattle.kset.proofs.RewriteLaws.{rewrites-written, rewrites-forgotten}
use Rattle.kset.proofs.sets.KSet.rewrite.Goals as goal

pub returns : goal.returns
returns g c =
    let d = g.D.PageDevice in
    rewrites-written g.row.PAGE d.page_count d.honest d.failures d.held c.args.set c.args.writer.now c.args.self.now c.args.device.now _ c.write.new.self c.text.new.page c.requires.set
    c.in-Ok.field-0 (grind (arith, common_steps)) (search rules) (search rules) c.in-Ok.ensures.written (search rules) (search rules)

pub returns-in_default : goal.returns-in_default
returns-in_default g c =
    let d = g.D.PageDevice in
    rewrites-forgotten g.row.PAGE d.page_count d.honest d.failures d.held c.args.set c.args.writer.now c.args.self.now c.args.device.now _ c.write.new.self c.text.new.page c.requires.set
    c.in_default.field-0 (grind (arith, common_steps)) (search rules) (search rules) c.in_default.ensures.written
