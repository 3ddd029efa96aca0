-- No fault is the same as accepted, and a first fault is a fault.
use Rattle.std.proofs.Common.{refl}
use Rattle.certificate_checker.proofs.public_laws.Accepting.{accepted, no_fault}
use Rattle.certificate_checker.proofs.acceptance.check_with_hasher.Goals as goal

pub returns-in-None-clause-accepted : goal.returns-in-None-clause-accepted
returns-in-None-clause-accepted g c =
    let none = rw c.in-None.is at c.in_ok-first_fault.ensures in
    (λ _. accepted c.args.history.now c.args.certificate.now none, λ _. refl)

pub returns-in-Some-clause-accepted : goal.returns-in-Some-clause-accepted
returns-in-Some-clause-accepted g c =
    let first = rw c.in-Some.is at c.in_ok-first_fault.ensures in
    (λ e. cc, λ a. absurd (no_fault c.args.history.now c.args.certificate.now a c.in-Some.fault first.found))
