-- The lanes' calls are those that the passes list.
use Rattle.recorded_tests.proofs.FinishRow.{weighs_alike}
use Rattle.recorded_tests.proofs.cache.rows.a_finish_has_each_listed_call_once.Goals as goal

pub returns-in-Ok : goal.returns-in-Ok
returns-in-Ok g c = λ h.
    weighs_alike h c.args.cache.layout.lanes c.args.passes.items c.in-Ok.finished.history c.in-Ok.finished.certificate c.in-Ok.ensures.finished
