-- A device in memory does not fail, so a flush step is its function.
use Rattle.std.proofs.Common.{◌≡◌, ◌∙◌, subst}
use Rattle.mover.specs.Flush.{flush_step}
use Rattle.recorded_lane.specs.Lane.{Lane}
use Rattle.scripts.specs.Own.{Pages, seen_of, with_lane}
use Rattle.scripts.proofs.Seen.{flushed}
use Rattle.scripts.proofs.script_lane.ScriptLane.flush_step.Goals as goal

pub returns-clause-answer : goal.returns-clause-answer
returns-clause-answer g c =
    let said = c.flush_step.ensures in
    subst (λ (old : Lane Pages). c.flush_step.result ≡ (flush_step (seen_of old).lane).reply) (c.deref_mut.ensures.value ∙ c.self.view_is)
    (flushed c.deref_mut.result.now c.flush_step.new.self c.flush_step.result said.unrecorded said.flushes).0

pub returns-clause-after : goal.returns-clause-after
returns-clause-after g c =
    let said = c.flush_step.ensures in
    subst (λ (old : Lane Pages). seen_of c.flush_step.new.self ≡ with_lane (seen_of old) (flush_step (seen_of old).lane).lane) (c.deref_mut.ensures.value ∙ c.self.view_is)
    (flushed c.deref_mut.result.now c.flush_step.new.self c.flush_step.result said.unrecorded said.flushes).1
