use Rattle.std.proofs.Common.{refl, sym, ap, ◌∙◌}
use Rattle.std.specs.Prelude.{slice_get}
use Rattle.certificate_finder.proofs.OfferLemmas.{groups_joined}
use Rattle.certificate_finder.proofs.groups.Groups.join.Goals as goal

pub returns-clause-groups : goal.returns-clause-groups
returns-clause-groups c = groups_joined c.args.steps.now c.args.self.now _ c.args.hit c.args.put c.item_at-known.result c.item_at-noted.result c.earlier-early.result c.later-late.result c.item_at-step.result c.requires.groups c.requires.alone c.item_at-step.ensures (ap (λ xs. slice_get xs c.args.put) (sym c.as_slice.ensures.value) ∙ c.item_at-known.ensures) (ap (λ xs. slice_get xs c.args.put) (sym c.as_slice-2.ensures.value) ∙ c.item_at-noted.ensures) c.earlier-early.ensures c.later-late.ensures refl refl refl
