use Rattle.std.proofs.Common.{sym, subst}
use Rattle.certificate_finder.specs.Offering.{HitsInTurn}
use Rattle.certificate_finder.proofs.DecidingLemmas.{none_gives}
use Rattle.certificate_finder.proofs.deciding.certificate_by_rules.Goals as goal

pub returns-in-Ok : goal.returns-in-Ok
returns-in-Ok c = none_gives c.args.steps.now c.args.owners.now c.args.unsure.now c.as_slice-4.result.now (subst (λ hits. HitsInTurn c.args.steps.now c.args.unsure.now hits) (sym c.as_slice-4.ensures.value) c.in_ok-hits.ensures) c.in-Ok.certificate c.in-Ok.ensures
