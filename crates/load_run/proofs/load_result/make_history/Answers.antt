-- The passes that were taken out list all calls.
use Rattle.load_run.proofs.Counting.{whole}
use Rattle.load_run.proofs.load_result.make_history.Goals as goal

pub returns-in-Ok-finish-clause-whole : goal.returns-in-Ok-finish-clause-whole
returns-in-Ok-finish-clause-whole g c =
    whole c.args.load.now c.args.cache.layout.lanes c.in-Ok-take_left.left.passes.items c.in-Ok-finish.finished.history c.in-Ok-finish.finished.certificate c.in-Ok-finish.ensures.finished c.in-Ok-take_left.ensures.all c.in-Ok-take_left.left.stopped c.in-Ok-take_left.ensures.stopped
