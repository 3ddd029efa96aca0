use Rattle.std.proofs.Common.{◌≡◌, ◌<◌, rules, sym, ap, subst}
use Rattle.std.specs.Prelude.{All}
use Rattle.record_pages.specs.Recs.{Rec}
use Rattle.klog.specs.Log.{Shape, shape_of}
use Rattle.kset.specs.Laws.{IsKeyOf}
use Rattle.mover.specs.Store.{StoreState}
use Rattle.mover.proofs.Gathering.{planned_placed}
use Rattle.mover.proofs.store.Store.land.Goals as goal

pub rewrite-rewritten-requires : goal.rewrite-rewritten-requires
rewrite-rewritten-requires g c =
    let small = c.self.invariant.page_size in
    let flight = c.args.flight.now in
    let shape = subst (λ (x : StoreState g.row.D.Denot). x.log.shape ≡ shape_of x.layout) c.self.view_is c.self.invariant.shape in (
      search rules,
      (
        search rules,
        (
          subst (λ n. flight.moving.set < n) (ap (λ (h : Shape). h.sets) shape) c.requires.its.set,
          λ is. subst (All (λ (r : Rec). IsKeyOf c.args.self.now.log.shape.lanes c.args.self.now.log.shape.sets flight.moving.set r.key)) (sym c.fill.ensures)
              (planned_placed g.row.PAGE c.args.self.now.log.shape flight c.args.plan.now c.requires.fitting (c.requires.placed is)),
        ),
      ),
    )
