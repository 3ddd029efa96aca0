use Rattle.std.proofs.Common.{sym, ap, ◌∙◌, arith}
use Rattle.std.specs.Prelude.{slice_get}
use Rattle.certificate_finder.specs.WarmSteps.{IsWriteEnd}
use Rattle.certificate_finder.specs.Writing.{Writing}
use Rattle.certificate_finder.proofs.WarmLemmas.{least_all, least_begins, least_more, rank_once}
use Rattle.certificate_finder.proofs.unput.first_ends_of.Goals as goal

pub loop-position-init : goal.loop-position-init
loop-position-init c = least_begins IsWriteEnd (λ p s a b one other. rank_once (Writing s) s.end a b one other) c.args.steps.now c.in_ok-ends.ends.items c.keys_in.result c.keys_in.ensures (c.in_ok-ends.ensures.items_if_clones_equal (λ y same. same))

pub loop-position-preserved : goal.loop-position-preserved
loop-position-preserved c = least_more IsWriteEnd (λ p s a b one other. rank_once (Writing s) s.end a b one other) c.args.steps.now c.loop-position.position c.item_at-step.result c.write_end-end.result c.item_at.result c.min.result c.loop-position.ends.items c.loop-position.invariant c.item_at-step.ensures c.write_end-end.ensures (ap (λ xs. slice_get xs c.item_at-step.result.key) (sym c.as_slice.ensures.value) ∙ c.item_at.ensures) c.min.ensures

pub returns : goal.returns
returns c = least_all IsWriteEnd (λ p s a b one other. rank_once (Writing s) s.end a b one other) c.args.steps.now c.loop-position.position c.loop-position.ends.items c.loop-position.invariant (omega arith)
