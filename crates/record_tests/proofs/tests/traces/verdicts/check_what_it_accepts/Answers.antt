use Rattle.certificate_checker.specs.Orders.{in_order}
use Rattle.record_tests.proofs.VerdictLaws.{empty_accepted, hits_latest}
use Rattle.record_tests.proofs.tests.traces.verdicts.check_what_it_accepts.Goals as goal

pub returns-in-Ok-clause-latest : goal.returns-in-Ok-clause-latest
returns-in-Ok-clause-latest c = λ accepted. hits_latest c.latest_is_current.ensures (in_order c.args.history.now c.args.certificate.now) ((c.in-Ok.ensures.accepted.0 accepted).lawful)

pub returns-in-Ok-clause-empty : goal.returns-in-Ok-clause-empty
returns-in-Ok-clause-empty c = λ none no_place. c.in-Ok.ensures.accepted.1 (empty_accepted c.args.history.now c.args.certificate.now none no_place)
