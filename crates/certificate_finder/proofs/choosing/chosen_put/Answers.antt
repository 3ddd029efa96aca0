use Rattle.std.proofs.Common.{length, subst}
use Rattle.certificate_finder.specs.Offering.{IsBestOffer}
use Rattle.certificate_finder.proofs.ChoosingLemmas.{is_chosen, none_chosen}
use Rattle.certificate_finder.proofs.choosing.chosen_put.Goals as goal

pub returns-in-Some : goal.returns-in-Some
returns-in-Some c = is_chosen c.args.steps.now c.args.puts.now c.requires.puts c.requires.fit c.args.hit c.requires.unsure.step c.requires.unsure.at c.args.groups.now.owners.items c.args.rule c.in-Some.offer (subst (λ b. IsBestOffer c.args.steps.now c.args.puts.now c.args.groups.now.owners.items c.args.rule c.args.hit 0 (length c.args.puts.now) b) c.in-Some.is c.best_offer.ensures)

pub returns-in-None : goal.returns-in-None
returns-in-None c = absurd (none_chosen c.args.steps.now c.args.puts.now c.requires.puts c.requires.fit c.args.hit c.requires.unsure.step c.requires.unsure.at c.requires.unsure (subst (λ b. IsBestOffer c.args.steps.now c.args.puts.now c.args.groups.now.owners.items c.args.rule c.args.hit 0 (length c.args.puts.now) b) c.in-None.is c.best_offer.ensures))
