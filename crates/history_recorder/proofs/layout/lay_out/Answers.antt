-- The history and the certificate are a layout, and a layout of well recorded lanes is accepted.
use Rattle.std.proofs.Common.{List, subst}
use Rattle.certificate_checker.specs.declared.done.Done.{Done}
use Rattle.certificate_checker.proofs.public_laws.LaneLemmas.{lanes_accepted}
use Rattle.history_recorder.specs.Merging.{ListsAll}
use Rattle.history_recorder.proofs.Listings.{laid_out}
use Rattle.history_recorder.proofs.layout.lay_out.Goals as goal

pub returns-clause-laid_out : goal.returns-clause-laid_out
returns-clause-laid_out c =
    laid_out c.args.lanes.items c.in_ok-history.history c.in_ok-certificate.certificate c.in_ok-history.ensures
    (subst (λ (lanes : List (List Done)). ListsAll lanes c.in_ok-certificate.certificate) c.as_slice.ensures.value c.in_ok-certificate.ensures)

pub returns-clause-accepted : goal.returns-clause-accepted
returns-clause-accepted c = λ sound apart.
    lanes_accepted c.args.lanes.items sound apart c.in_ok-history.history c.in_ok-certificate.certificate (returns-clause-laid_out c)
