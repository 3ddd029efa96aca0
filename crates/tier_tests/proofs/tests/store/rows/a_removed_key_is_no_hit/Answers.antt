-- A get after a removal.
use Rattle.std.proofs.Common.{IsTrue, sym, subst}
use Rattle.mover.specs.Lane.{lane_of}
use Rattle.tier_tests.proofs.Struck.{removed_is_missed}
use Rattle.tier_tests.proofs.tests.store.rows.a_removed_key_is_no_hit.Goals as goal

pub returns : goal.returns
returns g c value tier told =
    let d = g.D.PageDevice in
    removed_is_missed c.args.key.now c.args.moment value tier c.in_ok-answer.answer (lane_of d.held c.args.store.now) (lane_of d.held c.remove.new.self) (lane_of d.held c.get.new.self)
    c.removal_shows.ensures c.get_shows.ensures (c.layout-layout.ensures.order c.requires.honest) c.remove.ensures.removed
    (c.in_ok-answer.ensures.gives (subst (λ (x : g.row.D.Denot). IsTrue (d.honest x)) (sym c.remove.ensures.device) c.requires.honest)) told
