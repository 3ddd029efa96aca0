-- The store of a book after a move was given up.
use Rattle.std.proofs.Common.{subst}
use Rattle.mover.specs.Calls.{StoreAborts}
use Rattle.recorded_lane.specs.Lane.{Lane}
use Rattle.shared_cache.proofs.books.LaneBook.abort.Goals as goal

pub returns-clause-aborts : goal.returns-clause-aborts
returns-clause-aborts g c =
    let d = g.D.PageDevice in
    subst (λ (old : Lane g.row.D.Denot). StoreAborts d.held c.args.number old.store c.move_abort.result c.move_abort.new.self.store) c.self.view_is c.move_abort.ensures.aborts
