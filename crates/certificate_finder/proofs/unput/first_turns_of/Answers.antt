use Rattle.std.proofs.Common.{sym, ap, ◌∙◌, arith}
use Rattle.std.specs.Prelude.{slice_get}
use Rattle.certificate_finder.specs.WarmSteps.{IsTurn, IsUnlisted, turn_at}
use Rattle.certificate_finder.proofs.WarmLemmas.{least_all, least_begins, least_more, rank_once}
use Rattle.certificate_finder.proofs.unput.first_turns_of.Goals as goal

pub loop-position-init : goal.loop-position-init
loop-position-init c = least_begins (IsTurn c.args.pairs.now) (λ p s a b one other. rank_once (IsUnlisted c.args.pairs.now s) (turn_at p s) a b one other) c.args.steps.now c.in_ok-turns.turns.items c.keys_in.result c.keys_in.ensures (c.in_ok-turns.ensures.items_if_clones_equal (λ y same. same))

pub loop-position-preserved : goal.loop-position-preserved
loop-position-preserved c = least_more (IsTurn c.args.pairs.now) (λ p s a b one other. rank_once (IsUnlisted c.args.pairs.now s) (turn_at p s) a b one other) c.args.steps.now c.loop-position.position c.item_at-step.result c.turn_of-turn.result c.item_at.result c.min.result c.loop-position.turns.items c.loop-position.invariant c.item_at-step.ensures c.turn_of-turn.ensures (ap (λ xs. slice_get xs c.item_at-step.result.key) (sym c.as_slice.ensures.value) ∙ c.item_at.ensures) c.min.ensures

pub returns : goal.returns
returns c = least_all (IsTurn c.args.pairs.now) (λ p s a b one other. rank_once (IsUnlisted c.args.pairs.now s) (turn_at p s) a b one other) c.args.steps.now c.loop-position.position c.loop-position.turns.items c.loop-position.invariant (omega arith)
