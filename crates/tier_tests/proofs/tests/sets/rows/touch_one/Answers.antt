use Rattle.std.proofs.Common.{true, refl, ◌∙◌, ◌||◌, ap}
use Rattle.std.proofs.lemmas.Bool.{eq-eqb, ne_eqb}
use Rattle.std.specs.FinSet.{contains}
use Rattle.kset.specs.Sets.{notes_of}
use Rattle.tier_tests.proofs.SetRowLaws.{touched-own}
use Rattle.tier_tests.proofs.tests.sets.rows.touch_one.Goals as goal

pub returns-clause-noted : goal.returns-clause-noted
returns-clause-noted g c =
    let hits = (notes_of c.args.sets.now c.args.set).hits in
    touched-own c.args.sets.now c.touch.new.self c.args.set c.args.slot c.args.slot c.requires.set c.touch.ensures.touched
    ∙ ap (λ b. b || contains hits c.args.slot) (eq-eqb c.args.slot c.args.slot refl)

pub returns-clause-slots : goal.returns-clause-slots
returns-clause-slots g c = λ other differs.
    let hits = (notes_of c.args.sets.now c.args.set).hits in
    touched-own c.args.sets.now c.touch.new.self c.args.set c.args.slot other c.requires.set c.touch.ensures.touched
    ∙ ap (λ b. b || contains hits other) (ne_eqb other c.args.slot differs)
