-- A commit after a removal.
use Rattle.std.proofs.Common.{IsTrue, sym, subst}
use Rattle.mover.specs.Lane.{lane_of}
use Rattle.tier_tests.proofs.Struck.{removed_is_not_written}
use Rattle.tier_tests.proofs.tests.store.rows.a_commit_brings_nothing_back.Goals as goal

pub returns : goal.returns
returns g c value here =
    let d = g.D.PageDevice in
    removed_is_not_written g.row.PAGE c.args.plan.now c.args.number c.args.key.now value c.move_commit.result (lane_of d.held c.args.store.now) (lane_of d.held c.remove.new.self) (lane_of d.held c.move_commit.new.self)
    c.removal_shows.ensures c.commit_shows.ensures (c.layout-layout.ensures.order c.requires.honest) c.remove.ensures.removed
    (c.move_commit.ensures.gives (subst (λ (x : g.row.D.Denot). IsTrue (d.honest x)) (sym c.remove.ensures.device) c.requires.honest)) here
