use Rattle.std.proofs.Common.{ap, length, arith}
use Rattle.std.proofs.lemmas.List.{length_push}
use Rattle.set_hash.specs.declared.placed.Placed.{Placed}
use Rattle.record_pages.specs.Lent.{record_shown}
use Rattle.kset.specs.Sets.{notes_of}
use Rattle.kset.proofs.VisibleLaws.{hidden_adds, visible_adds, some_visible}
use Rattle.kset.proofs.sets.visible.Goals as goal

pub loop-slot-preserved-then-not-lets_show : goal.loop-slot-preserved-then-not-lets_show
loop-slot-preserved-then-not-lets_show c = record {
  rest = hidden_adds (notes_of c.args.sets.now c.args.set) c.loop-slot.slot c.loop-slot.records _ (record_shown c.in-Some.lent) c.place-placed.result.hash c.loop-slot.visible _ c.in-Some.ensures.steps.steps (ap (λ (p : Placed). p.hash) c.place-placed.ensures.placed) c.if-not-lets_show.ensures c.loop-slot.invariant.rest;
  left = omega (arith, ap length c.in-Some.ensures.steps.steps, c.loop-slot.invariant.left);
  few = omega (arith, c.loop-slot.invariant.few);
}

pub loop-slot-preserved : goal.loop-slot-preserved
loop-slot-preserved c = record {
  rest = visible_adds (notes_of c.args.sets.now c.args.set) c.loop-slot.slot c.loop-slot.records _ (record_shown c.in-Some.lent) c.in-Ok.stored c.place-placed.result.hash c.was_hit-hit.result c.loop-slot.visible _ _ c.in-Some.ensures.steps.steps (ap (λ (p : Placed). p.hash) c.place-placed.ensures.placed) c.if-not-lets_show.ensures c.in-Ok.ensures c.was_hit-hit.ensures c.in-Ok-push.ensures.ok c.loop-slot.invariant.rest;
  left = omega (arith, ap length c.in-Some.ensures.steps.steps, c.loop-slot.invariant.left);
  few = omega (arith, ap length c.in-Ok-push.ensures.ok, length_push c.loop-slot.visible (record { stored = c.in-Ok.stored; hit = c.was_hit-hit.result }), c.loop-slot.invariant.few);
}

pub returns-in_default-to_record-clause-short : goal.returns-in_default-to_record-clause-short
returns-in_default-to_record-clause-short c = some_visible (notes_of c.args.sets.now c.args.set) c.loop-slot.slot c.loop-slot.records _ (record_shown c.in-Some.lent) c.place-placed.result.hash c.loop-slot.visible _ c.in-Some.ensures.steps.steps (ap (λ (p : Placed). p.hash) c.place-placed.ensures.placed) c.if-not-lets_show.ensures c.loop-slot.invariant.rest

pub returns-in_default-push-clause-short : goal.returns-in_default-push-clause-short
returns-in_default-push-clause-short c = some_visible (notes_of c.args.sets.now c.args.set) c.loop-slot.slot c.loop-slot.records _ (record_shown c.in-Some.lent) c.place-placed.result.hash c.loop-slot.visible _ c.in-Some.ensures.steps.steps (ap (λ (p : Placed). p.hash) c.place-placed.ensures.placed) c.if-not-lets_show.ensures c.loop-slot.invariant.rest
