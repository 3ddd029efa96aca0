-- A device in memory does not fail, so a whole move is its function.
use Rattle.std.proofs.Common.{◌≡◌, ◌∙◌, subst}
use Rattle.rriparoo.specs.Rriparoo.{rriparoo_plan}
use Rattle.mover.specs.Whole.{move_step}
use Rattle.recorded_lane.specs.Lane.{Lane}
use Rattle.scripts.specs.Own.{Pages, seen_of, with_lane}
use Rattle.scripts.proofs.Seen.{moved}
use Rattle.scripts.proofs.script_lane.ScriptLane.move_whole.Goals as goal

pub returns-clause-answer : goal.returns-clause-answer
returns-clause-answer g c =
    let said = c.in_ok-moved.ensures in
    subst (λ (old : Lane Pages). c.in_ok-moved.moved ≡ (move_step g.row.PAGE old.store.layout.threshold rriparoo_plan (seen_of old).lane).reply) (c.deref_mut.ensures.value ∙ c.self.view_is)
    (moved g.row.PAGE rriparoo_plan c.deref_mut.result.now c.move_whole.new.self c.in_ok-moved.moved said.unrecorded said.moves).0

pub returns-clause-after : goal.returns-clause-after
returns-clause-after g c =
    let said = c.in_ok-moved.ensures in
    subst (λ (old : Lane Pages). seen_of c.move_whole.new.self ≡ with_lane (seen_of old) (move_step g.row.PAGE old.store.layout.threshold rriparoo_plan (seen_of old).lane).lane) (c.deref_mut.ensures.value ∙ c.self.view_is)
    (moved g.row.PAGE rriparoo_plan c.deref_mut.result.now c.move_whole.new.self c.in_ok-moved.moved said.unrecorded said.moves).1
