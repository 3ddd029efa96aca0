use Rattle.std.proofs.Common.{refl, subst}
use Rattle.klog.specs.Append.{entering}
use Rattle.mover.specs.Store.{StoreState}
use Rattle.mover.specs.Lane.{lane_of}
use Rattle.mover.specs.Put.{append_step, IsStep, pushed_as}
use Rattle.mover.proofs.public_laws.Keeping.{kept_flash}
use Rattle.mover.proofs.Putting.{append_told}
use Rattle.mover.proofs.store.Store.append.Goals as goal

pub invariant_of-self : goal.invariant_of-self
invariant_of-self g c =
    let s = c.self.inside in
    let d = g.D.PageDevice in
    kept_flash g.row.PAGE d.page_count d.honest d.held (record { layout = s.layout; device = s.device; memory = s.memory; log = s.log; sets = s.sets; flights = s.flights; moves = s.moves }) c.self.invariant
    s.device c.append-appended.new.self s.sets c.append-appended.ensures.shape refl refl refl (λ is. c.append-appended.ensures.spelled (d.held s.device)) (λ is spelled. spelled) (λ is placed. placed)

pub returns-clause-gives : goal.returns-clause-gives
returns-clause-gives g c =
    let s = c.self.inside in
    let d = g.D.PageDevice in
    let old : StoreState g.row.D.Denot = record { layout = s.layout; device = s.device; memory = s.memory; log = s.log; sets = s.sets; flights = s.flights; moves = s.moves } in
    let new : StoreState g.row.D.Denot = record { layout = s.layout; device = s.device; memory = s.memory; log = c.append-appended.new.self; sets = s.sets; flights = s.flights; moves = s.moves } in
    let r = entering c.args.pair.now.key c.args.pair.now.value in
    rw c.pushed_as.ensures (subst (λ (x : StoreState g.row.D.Denot). IsStep (append_step g.row.PAGE r (lane_of d.held x)) (pushed_as c.append-appended.result) (lane_of d.held new)) c.self.view_is
    (append_told d.held g.row.PAGE old c.append-appended.new.self r c.append-appended.result c.append-appended.ensures.gives (c.append-appended.ensures.shown (d.held s.device))))
