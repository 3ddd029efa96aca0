use Rattle.std.proofs.Common.{◌+◌, ◌*◌, [], ◌∷◌, ◌++◌, refl, sym, subst, arith}
use Rattle.certificate_finder.specs.Lining.{HavePoints}
use Rattle.certificate_finder.specs.declared.ranked.Ranked.{Ranked}
use Rattle.certificate_finder.proofs.Listing.{same_at}
use Rattle.certificate_finder.proofs.SpotLemmas.{spots_begin, spots_go_on}
use Rattle.certificate_finder.proofs.line.listed_spots.Goals as goal

pub loop-place-init : goal.loop-place-init
loop-place-init c = λ history are inline. subst (λ items. HavePoints history c.args.line.now items 0 0) (sym c.new-spots.ensures.items) (spots_begin history c.args.line.now)

pub loop-place-preserved : goal.loop-place-preserved
loop-place-preserved c = λ history are inline.
    let at = c.point_at-next.ensures in
    let turn = same_at c.args.line.now c.loop-place.place c.loop-place.place at.turn c.item_at-turn.result refl at.at c.item_at-turn.ensures in
    subst (λ items. HavePoints history c.args.line.now items (c.loop-place.place + 1) c.point_at-next.result) (sym c.in_ok-push.ensures.items) (subst (λ (t : Ranked). HavePoints history c.args.line.now (c.loop-place.spots.items ++ record { position = t.position; rank = c.point_at-next.result * 4294967296 + c.loop-place.place } ∷ []) (c.loop-place.place + 1) c.point_at-next.result) turn (spots_go_on history c.args.steps.now are c.args.line.now inline c.loop-place.spots.items c.loop-place.place c.loop-place.point c.point_at-next.result at.turn at.step at.before (c.loop-place.invariant history are inline) (omega arith) at.at at.step_at at.first at.later at.chosen))
