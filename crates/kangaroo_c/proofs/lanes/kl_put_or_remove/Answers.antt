-- The put or removal of the lane in a place is said whole.
use Rattle.std.proofs.Common.{rules}
use Rattle.c_lane.specs.Putting.{PutsOrRemoves}
use Rattle.kangaroo_c.specs.Telling.{page_laws}
use Rattle.kangaroo_c.proofs.lanes.kl_put_or_remove.Goals as goal

pub returns-clause-put : goal.returns-clause-put
returns-clause-put c = λ here.
    let a = c.args in
    let said = c.put_or_remove-status.ensures in
    let whole : PutsOrRemoves page_laws a.key.now a.value.now a.expires c.deref_mut.result.now.lane c.put_or_remove-status.result c.put_or_remove-status.new.self =
    record { refuses = record { wrong_key = said.wrong_key; too_large = said.too_large }; leaves = said.leaves } in
    record { status = c.put_or_remove-status.result; number_is = search rules; does_it = search rules }
