use Rattle.std.proofs.Common.{ℕ, ◌<◌, []}
use Rattle.certificate_checker.specs.Faults.{HasFault}
use Rattle.certificate_checker.specs.declared.fault.Fault.TheVariants.{BadInterval}
use Rattle.certificate_checker.proofs.places.bad_interval.Given as goal

-- the positions so far are good
abbrev pub invariant-loop-position : goal.invariant-loop-position
invariant-loop-position l = (q : ℕ) → q < l.position → ¬ HasFault l.history [] (BadInterval q)
