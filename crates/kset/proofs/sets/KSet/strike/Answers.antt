use Rattle.std.proofs.Common.{◌≡◌, ◌∙◌, ap, false, sym, subst, arith}
use Rattle.std.proofs.lemmas.Grind.{common_steps}
use Rattle.kset.specs.Notes.{lets_show}
use Rattle.kset.specs.Sets.{SetsState, notes_of}
use Rattle.kset.proofs.public_laws.NotesLaws.{hidden_in}
use Rattle.kset.specs.Shown.{visible_in}
use Rattle.kset.proofs.public_laws.ShownLaws.{shown-struck}
use Rattle.kset.proofs.sets.KSet.strike.Goals as goal

pub returns-clause-struck : goal.returns-clause-struck
returns-clause-struck g c = grind (arith, common_steps)

pub returns-clause-hidden : goal.returns-clause-hidden
returns-clause-hidden g c =
    let at = c.args.placed.now in
    subst (λ (k : SetsState). lets_show (notes_of k at.set) at.hash ≡ false) (sym (returns-clause-struck g c)) (hidden_in c.args.self.now at.set at.hash c.requires.set)

pub returns-clause-shown : goal.returns-clause-shown
returns-clause-shown g c =
    let at = c.args.placed.now in
    λ held. ap (visible_in held) (returns-clause-struck g c) ∙ shown-struck held c.args.self.now at.set at.hash c.requires.set
