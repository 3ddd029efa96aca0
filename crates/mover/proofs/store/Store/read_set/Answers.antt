use Rattle.std.proofs.Common.{◌≡◌, refl, sym, ap, subst, ◌∙◌, Ok}
use Rattle.std.specs.Prelude.{IsTrue}
use Rattle.page_device.specs.Device.{faults_after}
use Rattle.kset.specs.ReadSet.{is_set_lost}
use Rattle.mover.specs.Store.{StoreState}
use Rattle.mover.specs.Lane.{lane_of}
use Rattle.mover.specs.Begin.{LaneReads}
use Rattle.mover.proofs.public_laws.Keeping.{kept_set_read}
use Rattle.mover.specs.Leaving.{ReadingLeaves}
use Rattle.mover.proofs.public_laws.Beginning.{lane_read, set_failed, not_lost, reading_leaves}
use Rattle.kset.specs.Laws.{AreOfTheirSets}
use Rattle.kset.specs.Shown.{visible_in}
use Rattle.mover.proofs.store.Store.read_set.Goals as goal

pub invariant_of-self : goal.invariant_of-self
invariant_of-self g c =
    let s = c.self.inside in
    let d = g.D.PageDevice in
    kept_set_read g.row.PAGE d.page_count d.honest d.held (record { layout = s.layout; device = s.device; memory = s.memory; log = s.log; sets = s.sets; flights = s.flights; moves = s.moves }) c.self.invariant
    c.read_set.new.device c.read_set.new.self c.read_set.ensures.keeps.sizes c.read_set.ensures.reads.pages c.read_set.ensures.reads.honest c.read_set.ensures.reads.same c.read_set.ensures.keeps.spelled
    (λ is placed. subst (AreOfTheirSets s.log.shape.lanes s.log.shape.sets) (sym (c.read_set.ensures.shown is))
    (c.readings_keep_sets.ensures s.log.shape.lanes s.log.shape.sets c.args.set c.read_set.result (visible_in (d.held s.device) s.sets) placed))

pub invariant_of-self-2 : goal.invariant_of-self-2
invariant_of-self-2 g c =
    let s = c.self.inside in
    let d = g.D.PageDevice in
    kept_set_read g.row.PAGE d.page_count d.honest d.held (record { layout = s.layout; device = s.device; memory = s.memory; log = s.log; sets = s.sets; flights = s.flights; moves = s.moves }) c.self.invariant
    c.read_set.new.device c.read_set.new.self c.read_set.ensures.keeps.sizes c.read_set.ensures.reads.pages c.read_set.ensures.reads.honest c.read_set.ensures.reads.same c.read_set.ensures.keeps.spelled
    (λ is placed. subst (AreOfTheirSets s.log.shape.lanes s.log.shape.sets) (sym (c.read_set.ensures.shown is))
    (c.readings_keep_sets.ensures s.log.shape.lanes s.log.shape.sets c.args.set c.read_set.result (visible_in (d.held s.device) s.sets) placed))

pub returns-clause-faults : goal.returns-clause-faults
returns-clause-faults g c = λ is.
    let s = c.self.inside in
    let d = g.D.PageDevice in
    let on = subst (λ (x : StoreState g.row.D.Denot). IsTrue (d.honest x.device)) (sym c.self.view_is) is in
    subst (λ (x : StoreState g.row.D.Denot). d.failures c.read_set.new.device ≡ faults_after (d.failures x.device) (is_set_lost (Ok c.in_ok-read.read))) c.self.view_is
    (set_failed c.in_ok-read.read _ (d.failures s.device) (d.failures c.read_set.new.device) c.in_ok-read.ensures.reads.may_fail (c.in_ok-read.ensures.gives on (c.self.invariant.sets_spelled on)))

pub returns-clause-gives : goal.returns-clause-gives
returns-clause-gives g c = λ is.
    let s = c.self.inside in
    let d = g.D.PageDevice in
    let old : StoreState g.row.D.Denot = record { layout = s.layout; device = s.device; memory = s.memory; log = s.log; sets = s.sets; flights = s.flights; moves = s.moves } in
    let new : StoreState g.row.D.Denot = record { layout = s.layout; device = c.read_set.new.device; memory = s.memory; log = s.log; sets = c.read_set.new.self; flights = s.flights; moves = s.moves } in
    let on = subst (λ (x : StoreState g.row.D.Denot). IsTrue (d.honest x.device)) (sym c.self.view_is) is in
    subst (λ (x : StoreState g.row.D.Denot). LaneReads c.args.set (lane_of d.held x) c.in_ok-read.read (lane_of d.held new)) c.self.view_is
    (lane_read d.held old c.read_set.new.device (c.read_set.ensures.reads.same on) c.read_set.new.self c.args.set c.in_ok-read.read (d.failures s.device) (d.failures c.read_set.new.device) c.in_ok-read.ensures.leaves (c.in_ok-read.ensures.gives on (c.self.invariant.sets_spelled on))
    (c.in_ok-read.ensures.shown on) (λ none. not_lost c.in_ok-read.read (Ok c.in_ok-read.read) (c.in_ok-read.ensures.unread none).0 refl))

pub returns-clause-writes : goal.returns-clause-writes
returns-clause-writes g c =
    let d = g.D.PageDevice in
    record {
      layout = ap (λ (x : StoreState g.row.D.Denot). x.layout) c.self.view_is;
      honesty = c.read_set.ensures.reads.honest ∙ ap (λ (x : StoreState g.row.D.Denot). d.honest x.device) c.self.view_is;
      same = λ is. c.read_set.ensures.reads.same (subst (λ (x : StoreState g.row.D.Denot). IsTrue (d.honest x.device)) (sym c.self.view_is) is) ∙ ap (λ (x : StoreState g.row.D.Denot). d.held x.device) c.self.view_is;
    }

pub returns-clause-leaves : goal.returns-clause-leaves
returns-clause-leaves g c =
    let s = c.self.inside in
    let old : StoreState g.row.D.Denot = record { layout = s.layout; device = s.device; memory = s.memory; log = s.log; sets = s.sets; flights = s.flights; moves = s.moves } in
    let new : StoreState g.row.D.Denot = record { layout = s.layout; device = c.read_set.new.device; memory = s.memory; log = s.log; sets = c.read_set.new.self; flights = s.flights; moves = s.moves } in
    subst (λ (x : StoreState g.row.D.Denot). ReadingLeaves c.args.set x c.in_ok-read.read new) c.self.view_is
    (reading_leaves old c.read_set.new.device c.read_set.new.self c.args.set c.in_ok-read.read c.in_ok-read.ensures.leaves
    (λ none. not_lost c.in_ok-read.read (Ok c.in_ok-read.read) (c.in_ok-read.ensures.unread none).0 refl))
