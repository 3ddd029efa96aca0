-- The lane after a store, and after one that was refused.
use Rattle.std.proofs.Common.{◌≡◌, Result, Ok, Err}
use Rattle.record_pages.specs.declared.put_fault.PutFault.{PutFault}
use Rattle.record_pages.specs.declared.put_fault.PutFault.TheVariants.{TooLarge}
use Rattle.record_pages.specs.declared.pushed.Pushed.{Pushed}
use Rattle.item_lane.specs.declared.follow.CellObject.{CellObject}
use Rattle.item_lane.specs.Plans.{parts_shown}
use Rattle.item_lane.proofs.StoreLaws.{stored, refused_put, refused_cell}
use Rattle.item_lane.proofs.follow.store.Goals as goal

is_made : (o : CellObject) → ◌≡◌ {A = Result CellObject PutFault} (Ok o) (Err TooLarge) → ⊥
is_made o e = absurd cc

pub returns-in-Ok-put_or_remove : goal.returns-in-Ok-put_or_remove
returns-in-Ok-put_or_remove g c =
    let a = c.args in
    let o = c.in-Ok in
    stored g.row.PAGE g.D.PageDevice.held a.key.now (parts_shown a.parts) o.object.key o.object.value o.ensures.key o.ensures.value a.lane.now c.put_or_remove.new.self a.word c.expires-expires.result c.in-Ok-put_or_remove.field-0
    c.expires-expires.ensures c.in-Ok-put_or_remove.ensures.stored

pub returns-in-Err-put_or_remove : goal.returns-in-Err-put_or_remove
returns-in-Err-put_or_remove g c =
    let a = c.args in
    let o = c.in-Ok in
    let e = c.in-Err-put_or_remove in
    refused_put g.row.PAGE g.D.PageDevice.held a.key.now (parts_shown a.parts) o.object.key o.object.value o.ensures.key o.ensures.value a.lane.now c.put_or_remove.new.self {A = Pushed} e.fault (λ big. is_made o.object (o.ensures.large.1 big)) e.ensures.large e.ensures.removed

pub returns-in-Err : goal.returns-in-Err
returns-in-Err g c =
    let a = c.args in
    refused_cell g.row.PAGE g.D.PageDevice.held a.key.now (parts_shown a.parts) a.lane.now c.remove.new.lane {A = CellObject} c.in-Err.fault c.in-Err.ensures.large c.remove.ensures

pub put_or_remove-requires : goal.put_or_remove-requires
put_or_remove-requires g c = assumption

pub remove-requires : goal.remove-requires
remove-requires g c = assumption
