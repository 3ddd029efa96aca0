use Rattle.certificate_finder.proofs.WarmLemmas.{first_test}
use Rattle.certificate_finder.proofs.warm_hits.is_first_of.Goals as goal

pub returns-then-turn-item_at : goal.returns-then-turn-item_at
returns-then-turn-item_at c = first_test c.args.pairs.now c.args.turns.now c.args.ends.now c.args.position c.args.step.now c.turn_rank-turn.result c.item_at.result c.item_at-then-turn-item_at.result (c.is_unlisted.ensures.0 c.if-not-is_unlisted.false) c.turn_rank-turn.ensures c.item_at.ensures c.if-turn-item_at.true c.item_at-then-turn-item_at.ensures
