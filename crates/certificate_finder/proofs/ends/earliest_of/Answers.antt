use Rattle.std.proofs.Common.{◌<◌, length, sym, ap, ◌∙◌, arith}
use Rattle.std.specs.Prelude.{slice_get}
use Rattle.certificate_finder.proofs.Listing.{all_at}
use Rattle.certificate_finder.proofs.EndLemmas.{EndsBefore, ends_self, ends_join, are_earliest, best_begins, best_kept, best_taken, known_within}
use Rattle.certificate_finder.proofs.ends.earliest_of.Goals as goal
use Rattle.certificate_finder.proofs.ends.earliest_of.Goals.{then-step-best, else-step-best}

pub loop-position-init : goal.loop-position-init
loop-position-init c = best_begins EndsBefore ends_self ends_join c.args.steps.now c.args.owners.now c.in_ok-earliest.earliest.items c.in_ok-earliest.ensures

pub item_at-best-requires : goal.item_at-best-requires
item_at-best-requires c = known_within EndsBefore c.args.steps.now c.args.owners.now c.loop-position.position c.loop-position.earliest.items c.loop-position.invariant c.item_at-owner.result c.item_at-known.result c.as_slice.result.now c.as_slice.ensures.value c.item_at-known.ensures

pub loop-position-preserved : goal.loop-position-preserved
loop-position-preserved c = elim c.if-step-best.branch [
  | then-step-best w ↦ rw w.earliest-is (best_taken EndsBefore ends_self ends_join c.args.steps.now c.args.owners.now c.loop-position.position c.item_at-owner.result c.item_at-known.result c.item_at-step.result c.item_at-best.result c.loop-position.earliest.items c.loop-position.invariant c.item_at-step.ensures c.item_at-owner.ensures (ap (λ xs. slice_get xs c.item_at-owner.result) (sym c.as_slice.ensures.value) ∙ c.item_at-known.ensures) c.item_at-best.ensures (omega arith))
  | else-step-best w ↦ rw w.earliest-is (best_kept EndsBefore ends_self ends_join c.args.steps.now c.args.owners.now c.loop-position.position c.item_at-owner.result c.item_at-known.result c.item_at-step.result c.item_at-best.result c.loop-position.earliest.items c.loop-position.invariant c.item_at-step.ensures c.item_at-owner.ensures (ap (λ xs. slice_get xs c.item_at-owner.result) (sym c.as_slice.ensures.value) ∙ c.item_at-known.ensures) c.item_at-best.ensures (omega arith))
]

pub returns : goal.returns
returns c = are_earliest c.args.steps.now c.args.owners.now c.loop-position.position c.loop-position.earliest.items c.loop-position.invariant (omega arith)

pub item_at-known-requires : goal.item_at-known-requires
item_at-known-requires c = let l = all_at (λ owner. owner < length c.args.steps.now) c.args.owners.now c.loop-position.position c.item_at-owner.result c.requires.within c.item_at-owner.ensures in let same = ap length c.as_slice.ensures.value in let count = c.loop-position.invariant.count in omega arith
