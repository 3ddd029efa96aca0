use Rattle.std.proofs.Common.{refl, ap, ◌∙◌}
use Rattle.kset.specs.Notes.{lets_show}
use Rattle.kset.specs.Sets.{SetsState, notes_of}
use Rattle.kset.proofs.LocateLaws.{locates-denied, locates-told}
use Rattle.kset.proofs.sets.KSet.locate.Goals as goal

pub returns-then-not-lets_show : goal.returns-then-not-lets_show
returns-then-not-lets_show g c =
    let d = g.D.PageDevice in
    let at = c.args.placed.now in
    locates-denied g.row.PAGE d.page_count d.honest d.failures d.held at c.args.key.now c.args.moment c.args.self.now c.args.device.now c.args.found.now
    (notes_of c.args.self.now at.set) c.requires.hash refl (c.if-not-lets_show.ensures ∙ ap (λ (k : SetsState). lets_show (notes_of k at.set) at.hash) c.self.view_is)

pub returns : goal.returns
returns g c =
    let d = g.D.PageDevice in
    let at = c.args.placed.now in
    let read = c.in-Ok.ensures in
    locates-told g.row.PAGE d.page_count d.honest d.failures d.held at c.args.key.now c.args.moment c.args.self.now c.args.device.now c.args.found.now
    (notes_of c.args.self.now at.set) c.read.new.self c.read.new.into c.tell.new.into c.tell.result c.requires.hash refl
    (c.if-not-lets_show.ensures ∙ ap (λ (k : SetsState). lets_show (notes_of k at.set) at.hash) c.self.view_is) c.requires.place.set
    (record { pages = read.pages; honest = read.honest; faults = read.failures; same = read.same }) read.known c.tell.ensures.tells c.tell.ensures.stays
