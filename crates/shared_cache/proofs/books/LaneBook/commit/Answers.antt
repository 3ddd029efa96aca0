-- The store of a book after a move ended, or was not to end.
use Rattle.std.proofs.Common.{subst}
use Rattle.mover.specs.Calls.{StoreCommits}
use Rattle.recorded_lane.specs.Lane.{Lane}
use Rattle.shared_cache.proofs.books.LaneBook.commit.Goals as goal

pub returns-clause-commits : goal.returns-clause-commits
returns-clause-commits g c =
    let d = g.D.PageDevice in
    subst (λ (old : Lane g.row.D.Denot). StoreCommits g.row.PAGE d.honest d.failures d.held c.args.plan.now c.args.number old.store c.move_commit.result c.move_commit.new.self.store) c.self.view_is c.move_commit.ensures.commits
