use Rattle.std.proofs.Common.{◌+◌, ◌<◌, length, sym, subst, arith}
use Rattle.certificate_finder.specs.Lining.{AreTurned}
use Rattle.certificate_finder.proofs.Listing.{all_at}
use Rattle.certificate_finder.proofs.SpotLemmas.{turned_begin, turned_more}
use Rattle.certificate_finder.proofs.line.listed_turns.Goals as goal

pub loop-position-init : goal.loop-position-init
loop-position-init c = subst (λ items. AreTurned c.args.steps.now c.args.owners.now c.args.places.now c.args.zones 0 items) (sym c.new-line.ensures.items) (turned_begin c.args.steps.now c.args.owners.now c.args.places.now c.args.zones)

pub item_at-place-requires : goal.item_at-place-requires
item_at-place-requires c = let l = all_at (λ owner. owner < length c.args.steps.now) c.args.owners.now c.loop-position.position c.item_at-owner.result c.requires.within c.item_at-owner.ensures in let e = c.requires.places in omega arith

pub loop-position-preserved : goal.loop-position-preserved
loop-position-preserved c = subst (λ items. AreTurned c.args.steps.now c.args.owners.now c.args.places.now c.args.zones (c.loop-position.position + 1) items) (sym c.in_ok-push.ensures.items) (turned_more c.args.steps.now c.args.owners.now c.args.places.now c.args.zones c.loop-position.position c.item_at-owner.result c.item_at-place.result c.item_at-step.result c.loop-position.line.items c.turn_rank-rank.result c.loop-position.invariant c.item_at-step.ensures c.item_at-owner.ensures c.item_at-place.ensures c.turn_rank-rank.ensures)
