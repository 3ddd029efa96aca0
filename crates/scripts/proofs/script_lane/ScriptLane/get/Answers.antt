-- A device in memory does not fail, so a get is its step.
use Rattle.std.proofs.Common.{◌≡◌, length, sym, ap, ◌∙◌, subst}
use Rattle.mover.specs.Get.{get_step}
use Rattle.recorded_lane.specs.Lane.{Lane, act_of}
use Rattle.scripts.specs.Own.{Pages, IsOfScript, seen_of, after_call}
use Rattle.scripts.proofs.Seen.{got, goes_on}
use Rattle.scripts.proofs.script_lane.ScriptLane.get.Goals as goal

pub returns-clause-answer : goal.returns-clause-answer
returns-clause-answer g c =
    let count = c.len-count.ensures.count ∙ ap (λ (l : Lane Pages). length l.calls) (c.deref.ensures ∙ sym c.deref_mut.ensures.value) in
    let said = c.in_ok-answer.ensures in
    subst (λ (old : Lane Pages). c.in_ok-answer.answer ≡ (get_step c.args.key.now c.args.moment (seen_of old).lane).reply) (c.deref_mut.ensures.value ∙ c.self.view_is)
    (got g.row.PAGE c.deref_mut.result.now c.get.new.self c.args.key.now c.args.moment c.in_ok-answer.answer (rw (← count) said.recorded) said.gets).0

pub returns-clause-after : goal.returns-clause-after
returns-clause-after g c =
    let count = c.len-count.ensures.count ∙ ap (λ (l : Lane Pages). length l.calls) (c.deref.ensures ∙ sym c.deref_mut.ensures.value) in
    let said = c.in_ok-answer.ensures in
    subst (λ (old : Lane Pages). seen_of c.get.new.self ≡ after_call (seen_of old) (get_step c.args.key.now c.args.moment (seen_of old).lane).lane c.args.key.now (act_of c.args.moment c.in_ok-answer.answer)) (c.deref_mut.ensures.value ∙ c.self.view_is)
    (got g.row.PAGE c.deref_mut.result.now c.get.new.self c.args.key.now c.args.moment c.in_ok-answer.answer (rw (← count) said.recorded) said.gets).1

pub invariant_of-self-2 : goal.invariant_of-self-2
invariant_of-self-2 g c =
    let count = c.len-count.ensures.count ∙ ap (λ (l : Lane Pages). length l.calls) (c.deref.ensures ∙ sym c.deref_mut.ensures.value) in
    let said = c.in_ok-answer.ensures in
    goes_on c.deref_mut.result.now c.get.new.self c.args.key.now (act_of c.args.moment c.in_ok-answer.answer) (subst IsOfScript (sym c.deref_mut.ensures.value) c.self.invariant) (rw (← count) said.recorded) said.gets.reads.layout
