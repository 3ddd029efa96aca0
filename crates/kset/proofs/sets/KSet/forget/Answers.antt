use Rattle.std.proofs.Common.{◌∙◌, ap, arith}
use Rattle.std.proofs.lemmas.Grind.{common_steps}
use Rattle.kset.specs.Shown.{visible_in}
use Rattle.kset.proofs.public_laws.ShownLaws.{shown-forgotten}
use Rattle.kset.proofs.sets.KSet.forget.Goals as goal

pub returns-clause-forgotten : goal.returns-clause-forgotten
returns-clause-forgotten g c = grind (arith, common_steps)

pub returns-clause-shown : goal.returns-clause-shown
returns-clause-shown g c = λ held. ap (visible_in held) (returns-clause-forgotten g c) ∙ shown-forgotten held c.args.self.now c.args.set c.requires
