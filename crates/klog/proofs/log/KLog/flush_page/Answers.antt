use Rattle.std.proofs.Common.{◌<◌, sym, ap, subst, ◌∙◌, rules, arith}
use Rattle.std.proofs.lemmas.Grind.{common_steps}
use Rattle.klog.specs.Shown.{IsSpelledOn, live_on}
use Rattle.klog.specs.Keeps.{IsLog}
use Rattle.klog.specs.Flush.{moved_on}
use Rattle.klog.proofs.FlushLaws.{goes_on_wrote, goes_on_lost, live_lost, sets_stay}
use Rattle.klog.proofs.log.KLog.flush_page.Goals as goal

pub returns-then-write_page : goal.returns-then-write_page
returns-then-write_page g c =
    let k = c.args.self.now in
    let is : IsLog k = subst IsLog c.self.view_is c.self.invariant.0 in
    let free : k.stored < k.shape.segments = grind (arith, common_steps) in
    let on = goes_on_wrote g.row.PAGE (g.D.PageDevice.held c.args.device.now) (g.D.PageDevice.held c.write_page.new.device) k is c.requires.flushing free in
    record {
      writes = search rules;
      shape = search rules;
      gives = search rules;
      idle = search rules;
      wrote = search rules;
      apart = λ honest. sets_stay (g.D.PageDevice.held c.args.device.now) (g.D.PageDevice.held c.write_page.new.device) k (c.if-write_page.ensures.writes.elsewhere honest);
      spelled = λ honest h. subst (IsSpelledOn g.row.PAGE (g.D.PageDevice.held c.write_page.new.device)) (sym c.move_on.ensures) (on (c.if-write_page.ensures.written honest) h).spelled;
      shown = λ honest h. ap (live_on (g.D.PageDevice.held c.write_page.new.device)) c.move_on.ensures ∙ (on (c.if-write_page.ensures.written honest) h).live;
    }

pub returns : goal.returns
returns g c =
    let k = c.args.self.now in
    let is : IsLog k = subst IsLog c.self.view_is c.self.invariant.0 in
    let free : k.stored < k.shape.segments = grind (arith, common_steps) in
    let on = goes_on_lost g.row.PAGE (g.D.PageDevice.held c.args.device.now) (g.D.PageDevice.held c.write_page.new.device) k is c.requires.flushing free in
    let left = c.move_on-2.ensures ∙ ap moved_on c.lose_page.ensures in
    record {
      writes = search rules;
      shape = search rules;
      gives = search rules;
      idle = search rules;
      wrote = search rules;
      apart = λ honest. sets_stay (g.D.PageDevice.held c.args.device.now) (g.D.PageDevice.held c.write_page.new.device) k (c.if-write_page.ensures.writes.elsewhere honest);
      spelled = λ honest h. subst (IsSpelledOn g.row.PAGE (g.D.PageDevice.held c.write_page.new.device)) (sym left) (on (c.if-write_page.ensures.written honest) h).spelled;
      shown = λ honest h. ap (live_on (g.D.PageDevice.held c.write_page.new.device)) left ∙ (on (c.if-write_page.ensures.written honest) h).live ∙ live_lost (g.D.PageDevice.held c.args.device.now) k;
    }
