use Rattle.std.proofs.Common.{sym, ap, ◌∙◌}
use Rattle.std.specs.Prelude.{slice_get}
use Rattle.certificate_finder.proofs.IfReadLemmas.{side_is}
use Rattle.certificate_finder.proofs.groups.Groups.side_if.Goals as goal

pub returns : goal.returns
returns c = side_is c.args.steps.now c.args.self.now c.requires.groups c.args.hit c.args.put c.item_at-step.result c.item_at-step.ensures c.item_at-known.result c.item_at-noted.result c.earlier-early.result c.later-late.result (ap (λ xs. slice_get xs c.args.put) (sym c.as_slice.ensures.value) ∙ c.item_at-known.ensures) (ap (λ xs. slice_get xs c.args.put) (sym c.as_slice-2.ensures.value) ∙ c.item_at-noted.ensures) c.earlier-early.ensures c.later-late.ensures
