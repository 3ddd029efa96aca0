-- Which reason a witness, or a fault of a certificate, is.
use Rattle.certificate_finder.specs.declared.witness.Witness.{Witness}
use Rattle.certificate_finder.specs.declared.witness.Witness.TheVariants as witnesses
use Rattle.history_picture.specs.declared.reason.Reason.{Reason}
use Rattle.history_picture.specs.declared.reason.Reason.TheVariants as reasons

-- the reason that a witness is
abbrev pub reason_of : Witness → Reason
reason_of (witnesses.Interval position) = reasons.Interval position
reason_of (witnesses.Hit hit puts) = reasons.Hit hit puts
reason_of (witnesses.Crossed one other) = reasons.Crossed one other
reason_of (witnesses.Unread unread) = reasons.Unread unread
