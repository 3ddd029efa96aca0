use Rattle.std.proofs.Common.{sym, ap, ◌∙◌}
use Rattle.std.specs.Prelude.{slice_get}
use Rattle.certificate_finder.proofs.OfferLemmas.{offer_is}
use Rattle.certificate_finder.proofs.groups.Groups.offer.Goals as goal

pub returns-clause-offer : goal.returns-clause-offer
returns-clause-offer c = offer_is c.args.steps.now c.args.self.now c.args.rule c.args.hit c.args.put c.item_at-early.result c.item_at-late.result c.item_at-asked.result c.item_at-given.result c.item_at-first.result c.item_at-last.result c.times-hit_times.result c.times-put_times.result c.cost-cost.result c.requires.groups c.item_at-asked.ensures c.item_at-given.ensures (ap (λ xs. slice_get xs c.args.put) (sym c.as_slice.ensures.value) ∙ c.item_at-early.ensures) (ap (λ xs. slice_get xs c.args.put) (sym c.as_slice-2.ensures.value) ∙ c.item_at-late.ensures) c.item_at-first.ensures c.item_at-last.ensures c.times-hit_times.ensures c.times-put_times.ensures c.cost-cost.ensures
