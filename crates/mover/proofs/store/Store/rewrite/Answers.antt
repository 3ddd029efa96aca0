use Rattle.std.proofs.Common.{refl, sym, subst, ap, ◌∙◌}
use Rattle.std.specs.Prelude.{IsTrue}
use Rattle.mover.specs.Store.{StoreState}
use Rattle.mover.specs.Lane.{lane_of}
use Rattle.mover.specs.Commit.{lane_rewritten}
use Rattle.mover.proofs.public_laws.Keeping.{kept_flash, log_framed, counted_alike}
use Rattle.mover.proofs.Committing.{lane_rewrote}
use Rattle.std.specs.Prelude.{All}
use Rattle.record_pages.specs.Recs.{Rec}
use Rattle.kset.specs.Laws.{AreOfTheirSets, IsKeyOf}
use Rattle.kset.specs.Shown.{visible_in}
use Rattle.mover.proofs.store.Store.rewrite.Goals as goal

pub invariant_of-self : goal.invariant_of-self
invariant_of-self g c =
    let s = c.self.inside in
    let d = g.D.PageDevice in
    let old : StoreState g.row.D.Denot = record { layout = s.layout; device = s.device; memory = s.memory; log = s.log; sets = s.sets; flights = s.flights; moves = s.moves } in
    let count = counted_alike g.row.PAGE d.page_count d.honest d.held old c.self.invariant in
    kept_flash g.row.PAGE d.page_count d.honest d.held old c.self.invariant
    c.rewrite.new.device s.log c.rewrite.new.self refl c.rewrite.ensures.keeps.sizes c.rewrite.ensures.writes.pages c.rewrite.ensures.writes.honest
    (λ is. log_framed g.row.PAGE (d.held s.device) (d.held c.rewrite.new.device) s.log (rw (sym count) (c.rewrite.ensures.apart is))) c.rewrite.ensures.keeps.spelled
    (λ is placed. subst (AreOfTheirSets s.log.shape.lanes s.log.shape.sets) (sym (c.rewrite.ensures.shown is))
    (c.rewritings_keep_sets.ensures s.log.shape.lanes s.log.shape.sets c.args.set c.args.writer.now c.rewrite.result (visible_in (d.held s.device) s.sets)
    (subst (λ (x : StoreState g.row.D.Denot). IsTrue (d.honest x.device) → All (λ (r : Rec). IsKeyOf x.log.shape.lanes x.log.shape.sets c.args.set r.key) c.args.writer.now) (sym c.self.view_is) c.requires.placed is) placed))

pub returns-clause-gives : goal.returns-clause-gives
returns-clause-gives g c = λ is.
    let s = c.self.inside in
    let d = g.D.PageDevice in
    let old : StoreState g.row.D.Denot = record { layout = s.layout; device = s.device; memory = s.memory; log = s.log; sets = s.sets; flights = s.flights; moves = s.moves } in
    let on = subst (λ (x : StoreState g.row.D.Denot). IsTrue (d.honest x.device)) (sym c.self.view_is) is in
    let count = counted_alike g.row.PAGE d.page_count d.honest d.held old c.self.invariant in
    lane_rewrote d.held old c.rewrite.new.device c.rewrite.new.self c.args.set c.args.writer.now c.rewrite.result c.rewrite.ensures.leaves (rw (sym count) (c.rewrite.ensures.apart on))
    (c.rewrite.ensures.shown on)
    ∙ ap (λ (x : StoreState g.row.D.Denot). lane_rewritten c.args.set c.args.writer.now c.rewrite.result (lane_of d.held x)) c.self.view_is
