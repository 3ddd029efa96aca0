-- A removal, and one of an item that has another number.
use Rattle.std.proofs.Common.{◌≡◌, ℕ, Bool, true, false, cond, Option, Some, Ok, refl, ap, sym, ◌∙◌}
use Rattle.std.specs.Option.{option_map}
use Rattle.item_lane.specs.declared.command_reply.CommandReply.TheVariants.{NotFound, Deleted, Exists}
use Rattle.item_lane.specs.declared.cache_item.CacheItem.{CacheItem}
use Rattle.item_lane.specs.Cells.{kept_shown}
use Rattle.item_lane.specs.Choosing.{agrees, delete_plan}
use Rattle.item_lane.specs.Plans.{Keep, Remove}
use Rattle.item_lane.proofs.DoneLaws.{done}
use Rattle.item_lane.proofs.deleting.delete.Goals as goal

-- the plan for an item by whether it has the number
by_agreeing : (compare : Option ℕ) (live : Option CacheItem) (item : CacheItem) (b : Bool) → live ≡ Some item → agrees compare item.head ≡ b → cond b (Remove Deleted) (Keep Exists) ≡ delete_plan compare (option_map kept_shown live)
by_agreeing compare live item b is e =
    ap (λ (v : Bool). cond v (Remove Deleted) (Keep Exists)) (sym e) ∙ ap (λ (o : Option CacheItem). delete_plan compare (option_map kept_shown o)) (sym is)

pub returns-in-None : goal.returns-in-None
returns-in-None g c =
    let d = g.D.PageDevice in
    let a = c.args in
    let l = c.look-seen in
    done g.row.PAGE d.honest d.failures d.held a.key.now a.turn (delete_plan a.compare) a.lane.now l.new.lane c.remove.new.lane l.result l.new.found c.bytes.result.now c.bytes.ensures.value l.ensures
    c.live_item.result c.live_item.ensures.live (Remove NotFound) (ap (λ (o : Option CacheItem). delete_plan a.compare (option_map kept_shown o)) (sym c.in-None.is)) (Ok NotFound) (refl, c.remove.ensures)

pub returns-in-Some : goal.returns-in-Some
returns-in-Some g c =
    let d = g.D.PageDevice in
    let a = c.args in
    let l = c.look-seen in
    done g.row.PAGE d.honest d.failures d.held a.key.now a.turn (delete_plan a.compare) a.lane.now l.new.lane c.remove-in-Some.new.lane l.result l.new.found c.bytes.result.now c.bytes.ensures.value l.ensures
    c.live_item.result c.live_item.ensures.live (Remove Deleted) (by_agreeing a.compare c.live_item.result c.in-Some.item true c.in-Some.is (sym c.agrees.ensures ∙ c.if-agrees.true)) (Ok Deleted) (refl, c.remove-in-Some.ensures)

pub returns-in-Some-2 : goal.returns-in-Some-2
returns-in-Some-2 g c =
    let d = g.D.PageDevice in
    let a = c.args in
    let l = c.look-seen in
    done g.row.PAGE d.honest d.failures d.held a.key.now a.turn (delete_plan a.compare) a.lane.now l.new.lane l.new.lane l.result l.new.found c.bytes.result.now c.bytes.ensures.value l.ensures
    c.live_item.result c.live_item.ensures.live (Keep Exists) (by_agreeing a.compare c.live_item.result c.in-Some.item false c.in-Some.is (sym c.agrees.ensures ∙ c.if-agrees.false)) (Ok Exists) (refl, refl)

pub look-seen-requires : goal.look-seen-requires
look-seen-requires g c = assumption

pub remove-requires : goal.remove-requires
remove-requires g c = assumption

pub remove-requires-in-Some : goal.remove-requires-in-Some
remove-requires-in-Some g c = assumption
