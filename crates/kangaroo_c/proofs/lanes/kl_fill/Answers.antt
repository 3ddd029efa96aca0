-- The fill of the lane in a place is said whole.
use Rattle.std.proofs.Common.{rules}
use Rattle.c_lane.specs.Putting.{FillsOrNot}
use Rattle.kangaroo_c.specs.Telling.{page_laws}
use Rattle.kangaroo_c.proofs.lanes.kl_fill.Goals as goal

pub returns-clause-filled : goal.returns-clause-filled
returns-clause-filled c = λ here.
    let a = c.args in
    let said = c.fill-status.ensures in
    let whole : FillsOrNot page_laws a.lease.now a.key.now a.value.now a.expires c.deref_mut.result.now.lane c.fill-status.result c.fill-status.new.self =
    record { refuses = record { wrong_key = said.wrong_key; too_large = said.too_large }; leaves = said.leaves } in
    record { status = c.fill-status.result; number_is = search rules; does_it = search rules }
