-- What a commit leaves of other sets if its page was not written.
use Rattle.std.proofs.Common.{subst}
use Rattle.mover.specs.Commit.{CommitLeaves}
use Rattle.tier_tests.proofs.PutRow.{others_stay}
use Rattle.tier_tests.proofs.tests.store.rows.a_forgotten_commit_keeps_other_sets.Goals as goal

pub returns : goal.returns
returns g c f set flies other is =
    others_stay c.args.plan.now c.args.number c.args.store.now c.move_commit.new.self f set flies other (subst (λ answer. CommitLeaves c.args.plan.now c.args.number c.args.store.now answer c.move_commit.new.self) is c.move_commit.ensures.leaves)
