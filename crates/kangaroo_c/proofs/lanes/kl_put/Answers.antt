-- The put of the lane in a place is said whole.
use Rattle.std.proofs.Common.{rules}
use Rattle.c_lane.specs.Putting.{Puts}
use Rattle.kangaroo_c.specs.Telling.{page_laws}
use Rattle.kangaroo_c.proofs.lanes.kl_put.Goals as goal

pub returns-clause-put : goal.returns-clause-put
returns-clause-put c = λ here.
    let a = c.args in
    let said = c.put-status.ensures in
    let whole : Puts page_laws a.key.now a.value.now a.expires c.deref_mut.result.now.lane c.put-status.result c.put-status.new.self =
    record { refuses = record { wrong_key = said.wrong_key; too_large = said.too_large }; leaves = said.leaves } in
    record { status = c.put-status.result; number_is = search rules; does_it = search rules }
