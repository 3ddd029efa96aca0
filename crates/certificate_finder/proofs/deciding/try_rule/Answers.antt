use Rattle.std.proofs.Common.{sym, subst}
use Rattle.std.specs.Prelude.{All}
use Rattle.certificate_finder.specs.Lining.{positions_in}
use Rattle.certificate_finder.specs.Offering.{GoesByItself}
use Rattle.certificate_finder.proofs.DecidingLemmas.{all_alone, all_unsure}
use Rattle.certificate_finder.proofs.FoundLemmas.{single_owners_in, single_sure}
use Rattle.certificate_finder.proofs.deciding.try_rule.Goals as goal

pub of-requires-clause-within : goal.of-requires-clause-within
of-requires-clause-within c = single_owners_in c.args.steps.now c.args.owners.now (single_sure c.args.steps.now c.args.owners.now c.requires.ready.unsure c.requires.ready.own)

pub choose-requires-clause-unsure : goal.choose-requires-clause-unsure
choose-requires-clause-unsure c = all_unsure c.args.steps.now c.args.owners.now c.args.linked.puts.now c.args.linked.links.now c.args.hits.now c.requires.ready

pub choose-requires-clause-alone : goal.choose-requires-clause-alone
choose-requires-clause-alone c = subst (λ os. All (GoesByItself os) (positions_in c.args.hits.now)) (sym c.in_ok-groups.ensures.owners) (all_alone c.args.steps.now c.args.owners.now c.args.linked.puts.now c.args.linked.links.now c.args.hits.now c.requires.ready)
