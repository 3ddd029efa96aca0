-- What a commit leaves of the other moves in flight.
use Rattle.std.proofs.Common.{subst}
use Rattle.mover.specs.Commit.{CommitLeaves}
use Rattle.tier_tests.proofs.OthersRow.{committed_others, committed_over}
use Rattle.tier_tests.proofs.tests.store.rows.a_commit_leaves_the_other_moves.Goals as goal

pub returns-clause-others : goal.returns-clause-others
returns-clause-others g c other apart = committed_others c.args.plan.now c.args.number other c.args.store.now c.move_commit.new.self c.move_commit.result c.move_commit.ensures.leaves apart

pub returns-clause-over : goal.returns-clause-over
returns-clause-over g c is =
    committed_over c.args.plan.now c.args.number c.args.store.now c.move_commit.new.self (subst (λ answer. CommitLeaves c.args.plan.now c.args.number c.args.store.now answer c.move_commit.new.self) is c.move_commit.ensures.leaves)
