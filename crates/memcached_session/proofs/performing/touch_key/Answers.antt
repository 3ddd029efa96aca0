-- A touch: its expiry is the one that the client says.
use Rattle.std.proofs.Common.{ℕ, Option, subst}
use Rattle.item_lane.specs.Choosing.{touch_plan}
use Rattle.item_lane.specs.Doing.{Does}
use Rattle.memcached_session.proofs.performing.touch_key.Goals as goal

pub returns : goal.returns
returns g c =
    let d = g.D.PageDevice in
    let a = c.args in
    record {
      does_it =
          subst (λ (e : Option ℕ). Does g.row.PAGE d.honest d.failures d.held a.key.now a.turn (touch_plan e) a.lane.now c.touch.result c.touch.new.lane) c.expires_at-expires.ensures c.touch.ensures;
    }

pub touch-requires : goal.touch-requires
touch-requires g c = assumption
