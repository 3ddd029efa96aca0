use Rattle.std.proofs.Common.{◌≡◌, not, true, false, arith, rules, ◌∙◌}
use Rattle.record_pages.specs.Lent.{record_shown}
use Rattle.policy_laws.specs.declared.choice.Choice.{Choice}
use Rattle.mover.specs.Flight.{is_struck}
use Rattle.mover.proofs.Filling.{chosen_within, next_fits, planned_as, kept_next, kept_same}
use Rattle.mover.proofs.store.commit.fill.Goals.{then-not-is_struck, else-not-is_struck}
use Rattle.mover.proofs.store.commit.fill.Goals as goal

pub record-record-requires : goal.record-record-requires
record-record-requires g c = chosen_within g.row.PAGE c.args.flight.now.moving c.args.plan.now c.loop-number.number c.at-choice.result.now c.requires.fitting c.at-choice.ensures

pub push-requires : goal.push-requires
push-requires g c =
    let flight = c.args.flight.now in
    let choice = c.at-choice.result.now in
    let this = planned_as flight.moving choice c.record-record.result.now (record_shown c.new-anew.result) c.record-record.ensures c.new-anew.ensures.shown in
    let passes : not (is_struck flight choice.item) ≡ true = search rules in
    let small = c.requires.page_size in (
      omega (arith, small.0, small.1),
      (
        c.new-anew.ensures.lawful,
        next_fits g.row.PAGE flight.moving c.args.plan.now (λ (x : Choice). not (is_struck flight x.item)) c.loop-number.number choice (record_shown c.new-anew.result) c.loop-number.writer c.requires.fitting c.at-choice.ensures passes c.loop-number.invariant this,
      ),
    )

pub loop-number-preserved : goal.loop-number-preserved
loop-number-preserved g c =
    let flight = c.args.flight.now in
    let choice = c.at-choice.result.now in
    elim c.if-not-is_struck.branch [
      | then-not-is_struck w ↦
          let this = planned_as flight.moving choice w.record-record.result.now (record_shown w.new-anew.result) w.record-record.ensures w.new-anew.ensures.shown in
          let passes : not (is_struck flight choice.item) ≡ true = search rules in
          kept_next flight.moving c.args.plan.now (λ (x : Choice). not (is_struck flight x.item)) c.loop-number.number choice (record_shown w.new-anew.result) c.loop-number.writer c.if-not-is_struck.writer c.at-choice.ensures passes c.loop-number.invariant this (w.writer-is ∙ w.push.ensures)
      | else-not-is_struck w ↦
          let fails : not (is_struck flight choice.item) ≡ false = search rules in
          kept_same flight.moving c.args.plan.now (λ (x : Choice). not (is_struck flight x.item)) c.loop-number.number choice c.loop-number.writer c.if-not-is_struck.writer c.at-choice.ensures fails c.loop-number.invariant w.writer-is
    ]
