use Rattle.certificate_finder.specs.WarmSteps.{IsWarmStep}
use Rattle.certificate_finder.proofs.Listing.{all_below_if}
use Rattle.certificate_finder.proofs.WarmLemmas.{first_from, warm_of}
use Rattle.certificate_finder.proofs.warm_hits.first_hits_of.Goals as goal

pub loop-position-preserved : goal.loop-position-preserved
loop-position-preserved c = all_below_if (IsWarmStep c.args.steps.now) c.is_first_of-is_first.result c.loop-position.position c.loop-position.hits.items c.list_if.new.positions.items c.loop-position.invariant c.in_ok-list_if.ensures
    (λ test. warm_of c.args.steps.now c.args.pairs.now c.args.turns.now c.args.ends.now c.requires.fit c.requires.few c.requires.pairs c.requires.turns c.requires.ends c.loop-position.position c.item_at-step.result c.item_at-step.ensures (c.is_first_of-is_first.ensures.0 test))
    (λ warm. c.is_first_of-is_first.ensures.1 (first_from c.args.steps.now c.args.pairs.now c.args.turns.now c.args.ends.now c.requires.fit c.requires.few c.requires.pairs c.requires.turns c.requires.ends c.loop-position.position warm c.item_at-step.result c.item_at-step.ensures))
