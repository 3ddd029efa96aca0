use Rattle.std.proofs.Common.{sym, ap, subst, ◌∙◌, rules}
use Rattle.page_device.specs.Frames.{pages_from}
use Rattle.klog.specs.Shown.{IsSpelledOn, live_on}
use Rattle.klog.specs.Keeps.{IsLog}
use Rattle.klog.proofs.ShownLaws.{spelled_sealed, live_sealed}
use Rattle.klog.proofs.log.KLog.seal.Goals as goal

pub returns-clause-sealed : goal.returns-clause-sealed
returns-clause-sealed g c = search rules

pub returns-clause-spelled : goal.returns-clause-spelled
returns-clause-spelled g c = λ held h.
    let k = c.args.self.now in
    let is : IsLog k = subst IsLog c.self.view_is c.self.invariant.0 in
    subst (IsSpelledOn g.row.PAGE held) (sym (returns-clause-sealed g c)) (spelled_sealed g.row.PAGE (pages_from k.shape.sets held) k is c.requires.idle h)

pub returns-clause-shown : goal.returns-clause-shown
returns-clause-shown g c = λ held.
    let k = c.args.self.now in
    let is : IsLog k = subst IsLog c.self.view_is c.self.invariant.0 in
    ap (live_on held) (returns-clause-sealed g c) ∙ live_sealed held k is c.requires.idle
