use Rattle.std.proofs.Common.{◌+◌, sym, subst, arith}
use Rattle.certificate_finder.specs.Offering.{AreListed}
use Rattle.certificate_finder.proofs.InTurnLemmas.{listed_more}
use Rattle.certificate_finder.proofs.in_turn.listed_hits.Goals as goal

pub loop-index-preserved : goal.loop-index-preserved
loop-index-preserved c = subst (λ items. AreListed c.args.stamp c.args.steps.now c.args.positions.now (c.loop-index.index + 1) items) (sym c.in_ok-push.ensures.items) (listed_more c.args.stamp c.args.steps.now c.args.positions.now c.loop-index.index c.item_at-position.result _ c.loop-index.hits.items c.item_at-step.result c.loop-index.invariant c.item_at-position.ensures c.item_at-step.ensures (omega arith) (let same = c.stamp.ensures in omega arith))
