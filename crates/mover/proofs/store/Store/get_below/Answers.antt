use Rattle.std.proofs.Common.{sym, ap, subst}
use Rattle.std.specs.Prelude.{Ok}
use Rattle.mover.specs.Calls.{StoreGets}
use Rattle.mover.specs.Store.{StoreState}
use Rattle.mover.specs.Touch.{answer_at, touched, LooksBelow}
use Rattle.mover.proofs.public_laws.Keeping.{kept_device}
use Rattle.mover.proofs.Touching.{below_gets, short_gets}
use Rattle.mover.proofs.store.Store.get_below.Goals as goal

pub invariant_of-self : goal.invariant_of-self
invariant_of-self g c =
    let s = c.self.inside in
    let d = g.D.PageDevice in
    kept_device g.row.PAGE d.page_count d.honest d.held (record { layout = s.layout; device = s.device; memory = s.memory; log = s.log; sets = s.sets; flights = s.flights; moves = s.moves }) c.self.invariant
    c.locate_below-at.new.device c.locate_below-at.ensures.pages c.locate_below-at.ensures.honest c.locate_below-at.ensures.same

pub invariant_of-self-in-Err : goal.invariant_of-self-in-Err
invariant_of-self-in-Err g c =
    let s = c.self.inside in
    let d = g.D.PageDevice in
    kept_device g.row.PAGE d.page_count d.honest d.held (record { layout = s.layout; device = s.device; memory = s.memory; log = s.log; sets = s.sets; flights = s.flights; moves = s.moves }) c.self.invariant
    c.locate_below-at.new.device c.locate_below-at.ensures.pages c.locate_below-at.ensures.honest c.locate_below-at.ensures.same

pub returns-in-Err : goal.returns-in-Err
returns-in-Err g c =
    let s = c.self.inside in
    let d = g.D.PageDevice in
    let key = c.args.key.now in
    let below = c.locate_below-at in
    let was : StoreState g.row.D.Denot = record { layout = s.layout; device = s.device; memory = s.memory; log = s.log; sets = s.sets; flights = s.flights; moves = s.moves } in
    let mid : StoreState g.row.D.Denot = record was { device = below.new.device } in
    short_gets g.row.PAGE d.honest d.failures d.held key c.args.moment c.args.self.now c.requires
    c.in-Err.short below.result below.new.found mid c.in-Err.ensures.short (ap (λ (x : StoreState g.row.D.Denot). record x { device = below.new.device }) c.self.view_is)
    (subst (λ (x : StoreState g.row.D.Denot). LooksBelow g.row.PAGE d.honest d.failures d.held key c.args.moment x (answer_at below.result below.new.found) (touched key below.result mid)) c.self.view_is
    (below.ensures.looks was c.self.invariant))

pub returns-in-Ok : goal.returns-in-Ok
returns-in-Ok g c =
    let s = c.self.inside in
    let d = g.D.PageDevice in
    let key = c.args.key.now in
    let old = c.args.self.now in
    let below = c.locate_below-at in
    let answer = answer_at below.result below.new.found in
    let was : StoreState g.row.D.Denot = record { layout = s.layout; device = s.device; memory = s.memory; log = s.log; sets = s.sets; flights = s.flights; moves = s.moves } in
    let mid : StoreState g.row.D.Denot = record was { device = below.new.device } in
    rw c.in-Ok.ensures.answer
    (subst (λ (x : StoreState g.row.D.Denot). StoreGets g.row.PAGE d.honest d.failures d.held key c.args.moment old (Ok answer) x) (sym c.touch.ensures)
    (below_gets g.row.PAGE d.honest d.failures d.held key c.args.moment old c.requires answer (touched key below.result mid)
    (subst (λ (x : StoreState g.row.D.Denot). LooksBelow g.row.PAGE d.honest d.failures d.held key c.args.moment x answer (touched key below.result mid)) c.self.view_is
    (below.ensures.looks was c.self.invariant))))
