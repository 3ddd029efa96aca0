use Rattle.std.proofs.Common.{◌<◌, ◌≤◌, ◌+◌, true, false, set, length, replicate, take, arith, sym, ap, subst, ◌∙◌}
use Rattle.std.proofs.lemmas.Bool.{false≢true}
use Rattle.std.proofs.lemmas.List.{length-set, length-replicate}
use Rattle.record_pages.specs.Recs.{size}
use Rattle.record_pages.specs.Sizes.{max_set_records}
use Rattle.klog.specs.Moves.{most_taken}
use Rattle.mover.specs.Job.{job_of, items_of}
use Rattle.mover.specs.Commit.{IsFitting}
use Rattle.mover.proofs.Filling.{as_many}
use Rattle.mover.proofs.Plans.{IsTested, tested_none, unmarked, next_tested, out_of_range, repeated, too_large, item_size}
use Rattle.mover.proofs.fitting.is_fitting.Goals.{then-item-len-via-then-item-len, then-item-len-via-else-item-len+then-named-item}
use Rattle.mover.proofs.fitting.is_fitting.Goals as goal

pub loop-number-init : goal.loop-number-init
loop-number-init g c = (
  tested_none (job_of g.row.PAGE c.args.moving.now) (replicate (max_set_records + most_taken) false) (unmarked (max_set_records + most_taken)),
  length-replicate (max_set_records + most_taken) false,
  omega arith,
  omega (arith, c.if-len-gt-MAX_SET_RECORDS.false, c.len.ensures),
)

pub returns-then-item-len : goal.returns-then-item-len
returns-then-item-len g c =
    let moving = c.args.moving.now in
    let job = job_of g.row.PAGE moving in
    let no : IsFitting job c.args.plan.now → ⊥ = λ fits.
    elim c.then-item-len.branch [
      | then-item-len-via-then-item-len w ↦
          out_of_range job c.args.plan.now c.loop-number.number c.at.result.now c.at.ensures (omega (arith, as_many moving, c.len-in-loop-number.ensures, w.if-item-len.true)) fits
      | then-item-len-via-else-item-len+then-named-item w ↦
          repeated job c.args.plan.now c.loop-number.number c.at.result.now c.loop-number.named c.loop-number.size c.at.ensures c.loop-number.invariant.0 w.if-named-item.true fits
    ] in
    (λ is. absurd (false≢true is), λ fits. absurd (no fits))

pub returns-then-size : goal.returns-then-size
returns-then-size g c =
    let moving = c.args.moving.now in
    let job = job_of g.row.PAGE moving in
    let sized = c.size-size.ensures ∙ ap size c.lent.ensures.shown ∙ sym (item_size moving c.at.result.now.item c.record.result.now c.record.ensures) in (
      λ is. absurd (false≢true is),
      λ fits. absurd (too_large job c.args.plan.now c.loop-number.number c.at.result.now c.loop-number.named c.loop-number.size c.at.ensures c.loop-number.invariant.0
          (subst (λ n. job.room < c.loop-number.size + n) sized c.if-size.true) fits),
    )

pub loop-number-preserved : goal.loop-number-preserved
loop-number-preserved g c =
    let moving = c.args.moving.now in
    let job = job_of g.row.PAGE moving in
    let item = c.at.result.now.item in
    let sized = c.size-size.ensures ∙ ap size c.lent.ensures.shown ∙ sym (item_size moving item c.record.result.now c.record.ensures) in
    let many = as_many moving in
    let long = c.loop-number.invariant.1 in
    let few = c.requires.few in
    let range : item < length (items_of moving) = omega (arith, many, c.len-in-loop-number.ensures, c.if-item-len.false) in
    let below : item < length c.loop-number.named = omega (arith, many, range, long, few) in
    let fits = c.if-size.false in (
      subst (λ n. IsTested job (take (c.loop-number.number + 1) c.args.plan.now) (set c.loop-number.named item true) (c.loop-number.size + n)) (sym sized)
          (next_tested job c.args.plan.now c.loop-number.number c.at.result.now c.loop-number.named c.loop-number.size c.at.ensures c.loop-number.invariant.3 c.loop-number.invariant.0 range below c.if-named-item.false
          (subst (λ n. c.loop-number.size + n ≤ job.room) sized (omega (arith, fits)))),
      length-set c.loop-number.named item true ∙ long,
      omega (arith, fits),
      c.loop-number.invariant.3,
    )
