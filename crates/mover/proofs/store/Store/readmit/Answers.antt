use Rattle.std.proofs.Common.{sym, subst}
use Rattle.std.specs.Prelude.{IsTrue}
use Rattle.mover.specs.Store.{StoreState}
use Rattle.mover.specs.Lane.{lane_of}
use Rattle.mover.specs.Begin.{LaneReadmits}
use Rattle.mover.proofs.public_laws.Beginning.{lane_readmitted}
use Rattle.mover.proofs.public_laws.Keeping.{kept_log_read}
use Rattle.mover.proofs.store.Store.readmit.Goals as goal

pub returns-clause-gives : goal.returns-clause-gives
returns-clause-gives g c = λ is.
    let s = c.self.inside in
    let d = g.D.PageDevice in
    let old : StoreState g.row.D.Denot = record { layout = s.layout; device = s.device; memory = s.memory; log = s.log; sets = s.sets; flights = s.flights; moves = s.moves } in
    let new : StoreState g.row.D.Denot = record { layout = s.layout; device = c.readmit.new.device; memory = s.memory; log = c.readmit.new.self; sets = s.sets; flights = s.flights; moves = s.moves } in
    let on = subst (λ (x : StoreState g.row.D.Denot). IsTrue (d.honest x.device)) (sym c.self.view_is) is in
    subst (λ (x : StoreState g.row.D.Denot). LaneReadmits g.row.PAGE c.args.entry.now (lane_of d.held x) c.readmit.result (lane_of d.held new)) c.self.view_is
    (lane_readmitted d.held old c.readmit.new.device (c.readmit.ensures.reads.same on) g.row.PAGE c.readmit.new.self c.args.entry.now c.readmit.result c.len-live.ensures.apart
    (c.readmit.ensures.gives on (c.self.invariant.log_spelled on)))

pub invariant_of-self : goal.invariant_of-self
invariant_of-self g c =
    let s = c.self.inside in
    let d = g.D.PageDevice in
    kept_log_read g.row.PAGE d.page_count d.honest d.held (record { layout = s.layout; device = s.device; memory = s.memory; log = s.log; sets = s.sets; flights = s.flights; moves = s.moves }) c.self.invariant
    c.readmit.new.device c.readmit.new.self c.readmit.ensures.shape c.readmit.ensures.reads.pages c.readmit.ensures.reads.honest c.readmit.ensures.reads.same c.readmit.ensures.spelled
