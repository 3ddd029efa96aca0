-- The store of a book after a step of flushing.
use Rattle.std.proofs.Common.{subst}
use Rattle.mover.specs.Calls.{StoreFlushes}
use Rattle.recorded_lane.specs.Lane.{Lane}
use Rattle.shared_cache.proofs.books.LaneBook.flush.Goals as goal

pub returns-clause-flushes : goal.returns-clause-flushes
returns-clause-flushes g c =
    let d = g.D.PageDevice in
    subst (λ (old : Lane g.row.D.Denot). StoreFlushes d.honest d.failures d.held old.store c.flush_step.result c.flush_step.new.self.store) c.self.view_is c.flush_step.ensures.flushes
