-- A get after a put.
use Rattle.std.specs.Prelude.{List, ℕ}
use Rattle.mover.specs.Get.{GetGives}
use Rattle.std.proofs.Common.{IsTrue, sym, subst}
use Rattle.mover.specs.Lane.{lane_of}
use Rattle.tier_tests.proofs.Struck.{put_is_hit}
use Rattle.tier_tests.proofs.tests.store.rows.a_hit_is_what_was_put.Goals as goal

pub returns : goal.returns
returns g c told tier hit =
    let d = g.D.PageDevice in
    let gives = c.in_ok-answer.ensures.gives (subst (λ (x : g.row.D.Denot). IsTrue (d.honest x)) (sym c.put.ensures.device) c.requires.honest) in
    put_is_hit g.row.PAGE c.args.store.now.layout.admit c.args.word c.args.key c.args.value c.args.expires c.args.moment told tier c.in-Ok.field-0 c.in_ok-answer.answer (lane_of d.held c.args.store.now) (lane_of d.held c.put.new.self) (lane_of d.held c.get.new.self)
    c.put_shows.ensures c.get_shows.ensures (c.layout-layout.ensures.order c.requires.honest) c.in-Ok.ensures.gives
    (subst (λ (k : List ℕ). GetGives k c.args.moment (lane_of d.held c.put.new.self) c.in_ok-answer.answer (lane_of d.held c.get.new.self)) c.requires.same gives) hit
