use Rattle.std.proofs.Common.{sym, arith, rules}
use Rattle.record_pages.specs.Reading.{set_page_at}
use Rattle.record_pages.proofs.public_laws.PageLaws.{set_page_takes}
use Rattle.record_pages.proofs.set_page.set_page_at.Goals as goal

pub returns-clause-exact : goal.returns-clause-exact
unfolding set_page_at
returns-clause-exact c = search rules

pub returns-clause-found : goal.returns-clause-found
returns-clause-found c =
    set_page_takes c.args.bytes.now _ (λ i. omega (arith, c.type_inv.bytes i)) (sym (returns-clause-exact c))
