-- The store of a book after a move began.
use Rattle.std.proofs.Common.{subst}
use Rattle.mover.specs.Calls.{StoreBegins}
use Rattle.recorded_lane.specs.Lane.{Lane}
use Rattle.shared_cache.proofs.books.LaneBook.begin.Goals as goal

pub returns-clause-begins : goal.returns-clause-begins
returns-clause-begins g c =
    let d = g.D.PageDevice in
    subst (λ (old : Lane g.row.D.Denot). StoreBegins g.row.PAGE d.honest d.failures d.held old.store c.move_begin.result c.move_begin.new.self.store) c.self.view_is c.move_begin.ensures.begins
