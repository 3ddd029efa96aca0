use Rattle.std.proofs.Common.{refl, sym, subst}
use Rattle.std.specs.Prelude.{IsTrue}
use Rattle.mover.specs.Store.{StoreState}
use Rattle.mover.specs.Lane.{lane_of}
use Rattle.mover.specs.Begin.{LaneTakes, WritesNothing}
use Rattle.mover.proofs.public_laws.Keeping.{kept_log_read}
use Rattle.mover.specs.Leaving.{TakingLeaves}
use Rattle.mover.proofs.public_laws.Beginning.{lane_taken, taking_leaves}
use Rattle.mover.proofs.store.Store.take_set.Goals as goal

pub invariant_of-self : goal.invariant_of-self
invariant_of-self g c =
    let s = c.self.inside in
    let d = g.D.PageDevice in
    kept_log_read g.row.PAGE d.page_count d.honest d.held (record { layout = s.layout; device = s.device; memory = s.memory; log = s.log; sets = s.sets; flights = s.flights; moves = s.moves }) c.self.invariant
    c.take_set.new.device c.take_set.new.self c.take_set.ensures.shape c.take_set.ensures.reads.pages c.take_set.ensures.reads.honest c.take_set.ensures.reads.same c.take_set.ensures.spelled

pub invariant_of-self-2 : goal.invariant_of-self-2
invariant_of-self-2 g c =
    let s = c.self.inside in
    let d = g.D.PageDevice in
    kept_log_read g.row.PAGE d.page_count d.honest d.held (record { layout = s.layout; device = s.device; memory = s.memory; log = s.log; sets = s.sets; flights = s.flights; moves = s.moves }) c.self.invariant
    c.take_set.new.device c.take_set.new.self c.take_set.ensures.shape c.take_set.ensures.reads.pages c.take_set.ensures.reads.honest c.take_set.ensures.reads.same c.take_set.ensures.spelled

pub returns-clause-gives : goal.returns-clause-gives
returns-clause-gives g c = λ is.
    let s = c.self.inside in
    let d = g.D.PageDevice in
    let old : StoreState g.row.D.Denot = record { layout = s.layout; device = s.device; memory = s.memory; log = s.log; sets = s.sets; flights = s.flights; moves = s.moves } in
    let new : StoreState g.row.D.Denot = record { layout = s.layout; device = c.take_set.new.device; memory = s.memory; log = c.take_set.new.self; sets = s.sets; flights = s.flights; moves = s.moves } in
    let on = subst (λ (x : StoreState g.row.D.Denot). IsTrue (d.honest x.device)) (sym c.self.view_is) is in
    subst (λ (x : StoreState g.row.D.Denot). LaneTakes c.args.set (lane_of d.held x) c.in_ok-taken.taken (lane_of d.held new)) c.self.view_is
    (lane_taken d.held old c.take_set.new.device (c.take_set.ensures.reads.same on) c.take_set.new.self c.args.set c.in_ok-taken.taken (c.in_ok-taken.ensures.gives on (c.self.invariant.log_spelled on)))

pub returns-clause-leaves : goal.returns-clause-leaves
returns-clause-leaves g c =
    let s = c.self.inside in
    let old : StoreState g.row.D.Denot = record { layout = s.layout; device = s.device; memory = s.memory; log = s.log; sets = s.sets; flights = s.flights; moves = s.moves } in
    let new : StoreState g.row.D.Denot = record { layout = s.layout; device = c.take_set.new.device; memory = s.memory; log = c.take_set.new.self; sets = s.sets; flights = s.flights; moves = s.moves } in
    subst (λ (x : StoreState g.row.D.Denot). TakingLeaves c.args.set x c.in_ok-taken.taken new) c.self.view_is
    (taking_leaves old c.take_set.new.device c.take_set.new.self c.args.set c.in_ok-taken.taken c.in_ok-taken.ensures.leaves)

pub returns-clause-writes : goal.returns-clause-writes
returns-clause-writes g c =
    let s = c.self.inside in
    let d = g.D.PageDevice in
    let old : StoreState g.row.D.Denot = record { layout = s.layout; device = s.device; memory = s.memory; log = s.log; sets = s.sets; flights = s.flights; moves = s.moves } in
    let new : StoreState g.row.D.Denot = record { layout = s.layout; device = c.take_set.new.device; memory = s.memory; log = c.take_set.new.self; sets = s.sets; flights = s.flights; moves = s.moves } in
    let writes : WritesNothing d.honest d.held old new = record { layout = refl; honesty = c.take_set.ensures.reads.honest; same = c.take_set.ensures.reads.same } in
    subst (λ (x : StoreState g.row.D.Denot). WritesNothing d.honest d.held x new) c.self.view_is writes

pub returns-in_err-taken-clause-writes : goal.returns-in_err-taken-clause-writes
returns-in_err-taken-clause-writes g c =
    let s = c.self.inside in
    let d = g.D.PageDevice in
    let old : StoreState g.row.D.Denot = record { layout = s.layout; device = s.device; memory = s.memory; log = s.log; sets = s.sets; flights = s.flights; moves = s.moves } in
    let new : StoreState g.row.D.Denot = record { layout = s.layout; device = c.take_set.new.device; memory = s.memory; log = c.take_set.new.self; sets = s.sets; flights = s.flights; moves = s.moves } in
    let writes : WritesNothing d.honest d.held old new = record { layout = refl; honesty = c.take_set.ensures.reads.honest; same = c.take_set.ensures.reads.same } in
    subst (λ (x : StoreState g.row.D.Denot). WritesNothing d.honest d.held x new) c.self.view_is writes
