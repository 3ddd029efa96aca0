-- A store that depends on the live item.
use Rattle.std.proofs.Common.{Option, Some, subst}
use Rattle.item_lane.specs.declared.condition.Condition.{Condition}
use Rattle.item_lane.specs.Cells.{Kept}
use Rattle.memcached_text.specs.Asked.{storing_shown}
use Rattle.memcached_session.specs.Doing.{kept_of, StoresBy}
use Rattle.memcached_session.specs.Framing.{frame_of}
use Rattle.memcached_session.proofs.performing.store.Goals as goal

pub returns-in-Some : goal.returns-in-Some
returns-in-Some g c =
    let d = g.D.PageDevice in
    let a = c.args in
    let s = c.store_if in
    subst
    (λ (o : Option Condition). StoresBy (frame_of g.row.PAGE d.honest d.failures d.held a.turn.command a.turn.cas) a.request.key.now (kept_of a.turn.command.moment a.turn.cas (storing_shown a.request) a.block.now) o a.lane.now s.result s.new.lane)
    c.in-Some.ensures
    (subst
    (λ (k : Kept). StoresBy (frame_of g.row.PAGE d.honest d.failures d.held a.turn.command a.turn.cas) a.request.key.now k (Some c.in-Some.condition) a.lane.now s.result s.new.lane)
    c.item_of-item.ensures s.ensures)

pub set-requires : goal.set-requires
set-requires g c = assumption

pub store_if-requires : goal.store_if-requires
store_if-requires g c = assumption
