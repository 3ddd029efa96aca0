-- The lane after a move ended, or was not to end.
use Rattle.std.proofs.Common.{refl, subst}
use Rattle.mover.specs.Calls.{StoreCommits}
use Rattle.recorded_lane.proofs.public_laws.Ending.{commit_keeps_layout}
use Rattle.recorded_lane.specs.Lane.{Lane}
use Rattle.recorded_lane.proofs.Noting.{noted_step}
use Rattle.recorded_lane.proofs.lane.RecordedLane.move_commit.Goals as goal

pub invariant_of-self : goal.invariant_of-self
invariant_of-self g c =
    let inside = c.self.inside in
    let old : Lane g.row.D.Denot = record { store = inside.store.store; lane = inside.lane; calls = inside.calls } in
    let new = c.move_commit.new.self in
    noted_step old inside.store.deeds c.self.invariant new.store inside.calls new.deeds (commit_keeps_layout c.args.plan.now c.args.number inside.store.store c.move_commit.result new.store c.move_commit.ensures.commits.leaves) refl c.move_commit.ensures.deeds

pub returns-clause-commits : goal.returns-clause-commits
returns-clause-commits g c =
    let d = g.D.PageDevice in
    subst (λ (old : Lane g.row.D.Denot). StoreCommits g.row.PAGE d.honest d.failures d.held c.args.plan.now c.args.number old.store c.move_commit.result c.move_commit.new.self.store) c.self.view_is c.move_commit.ensures.commits
