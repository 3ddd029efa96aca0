use Rattle.std.proofs.Common.{rules, subst, sym, ◌∙◌}
use Rattle.std.proofs.lemmas.List.{take_all}
use Rattle.shared_cache.specs.Settled.{FindsFirst}
use Rattle.shared_cache.proofs.SideBySide.{next_plain, next_strange}
use Rattle.shared_cache.proofs.claims.first_place.Goals as goal
use Rattle.shared_cache.proofs.claims.first_place.Goals.{in-Some, in_default}

pub loop-lane-preserved : goal.loop-lane-preserved
loop-lane-preserved c = elim c.match-strange_place.branch [
  | in-Some w ↦ rw w.first-is (next_strange c.args.other c.args.settled.now c.loop-lane.lane-index c.lane-item.result c.loop-lane.first w.in-Some.place w.earlier.result c.loop-lane-test.true c.lane-item.is c.loop-lane.invariant (sym c.strange_place.ensures ∙ w.in-Some.is) w.earlier.ensures)
  | in_default w ↦ rw w.first-is (next_plain c.args.other c.args.settled.now c.loop-lane.lane-index c.lane-item.result c.loop-lane.first c.loop-lane-test.true c.lane-item.is c.loop-lane.invariant (sym c.strange_place.ensures ∙ w.in_default.is))
]

pub returns : goal.returns
returns c = subst (λ rs. FindsFirst c.args.other rs c.loop-lane.first) (take_all c.loop-lane.lane-index c.args.settled.now (search rules)) c.loop-lane.invariant
