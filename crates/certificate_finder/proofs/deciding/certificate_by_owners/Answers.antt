use Rattle.certificate_finder.proofs.FoundLemmas.{owners_in}
use Rattle.certificate_finder.proofs.deciding.certificate_by_owners.Goals as goal

pub zones_of-requires-clause-within : goal.zones_of-requires-clause-within
zones_of-requires-clause-within c = owners_in c.args.steps.now c.args.owners.now c.requires.owners
