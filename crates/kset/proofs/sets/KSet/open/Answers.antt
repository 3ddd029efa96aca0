use Rattle.std.proofs.Common.{ap}
use Rattle.kset.specs.Sets.{SetsState}
use Rattle.kset.proofs.public_laws.ShownLaws.{shown-opening}
use Rattle.kset.proofs.sets.KSet.open.Goals as goal

pub returns-clause-shown : goal.returns-clause-shown
returns-clause-shown g c = λ held set. shown-opening held c.in_ok-sets.sets c.args.layout.now.sets set (ap (λ (k : SetsState). k.notes) c.in_ok-sets.ensures)
