-- A get that touches: its expiry is the one that the client says.
use Rattle.std.proofs.Common.{ℕ, Option, subst}
use Rattle.item_lane.specs.Choosing.{touch_plan}
use Rattle.item_lane.specs.Doing.{DoesAndGives}
use Rattle.memcached_session.proofs.performing.find_and_touch.Goals as goal

pub returns-clause-does : goal.returns-clause-does
returns-clause-does g c =
    let d = g.D.PageDevice in
    let a = c.args in
    let t = c.get_and_touch-touched in
    λ cas. record {
      item = t.result.item;
      result = t.result.reply;
      does_it =
          subst (λ (e : Option ℕ). DoesAndGives g.row.PAGE d.honest d.failures d.held a.key.now a.turn (touch_plan e) a.lane.now t.result.item t.result.reply t.new.lane) c.expires_at-expires.ensures t.ensures.does;
      said_is = c.to_item.ensures.said;
    }

pub get_and_touch-touched-requires : goal.get_and_touch-touched-requires
get_and_touch-touched-requires g c = assumption
