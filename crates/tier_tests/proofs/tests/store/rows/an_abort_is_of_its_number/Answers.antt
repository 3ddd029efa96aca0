-- What an abort leaves of the other moves in flight.
use Rattle.std.proofs.Common.{◌≡◌, subst}
use Rattle.mover.specs.Commit.{after_abort}
use Rattle.tier_tests.proofs.OthersRow.{aborted_others, aborted_over}
use Rattle.tier_tests.proofs.tests.store.rows.an_abort_is_of_its_number.Goals as goal

pub returns-clause-others : goal.returns-clause-others
returns-clause-others g c other apart = aborted_others c.args.number other c.args.store.now c.move_abort.new.self c.move_abort.result c.move_abort.ensures.leaves apart

pub returns-clause-over : goal.returns-clause-over
returns-clause-over g c is =
    aborted_over c.args.number c.args.store.now c.move_abort.new.self (subst (λ answer. c.move_abort.new.self ≡ after_abort c.args.number answer c.args.store.now) is c.move_abort.ensures.leaves)
