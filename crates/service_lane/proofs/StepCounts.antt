-- What steps add to the counts of a lane.
use Rattle.std.proofs.Common.{◌≡◌, ◌≤◌, ◌<◌, ℕ, suc, ◌+◌, ◌%◌, ◌^◌, Option, Some, None, true, ap, ◌∙◌, arith}
use Rattle.std.proofs.lemmas.Bool.{ltb-true}
use Rattle.klog.specs.declared.flushed.Flushed.{Flushed}
use Rattle.klog.specs.declared.flushed.Flushed.TheVariants as flushed
use Rattle.mover.specs.declared.moved_whole.MovedWhole.{MovedWhole}
use Rattle.mover.specs.declared.moved_whole.MovedWhole.TheVariants as moved
use Rattle.service_lane.specs.declared.counter.Counter.{Counter}
use Rattle.service_lane.specs.declared.counter.Counter.TheVariants as counter
use Rattle.service_lane.specs.declared.counts.Counts.{Counts}
use Rattle.service_lane.specs.Counters.{is_left_by_steps, number, place_of, with_one_if}
use Rattle.service_lane.specs.Counting.{counter_of_flush, counter_of_move, counts_help, counts_step, CountsHelps}
use Rattle.service_lane.proofs.public_laws.Numbers.{more_other, more_same}

-- a step more was due, and the numbers that steps leave stay
pub record CountsStep (old new : Counts) : Type 0 where
  pub steps : number counter.UpkeepSteps new ≡ (number counter.UpkeepSteps old + 1) % 2 ^ 64
  pub in_help : number counter.StepsInHelp new ≡ number counter.StepsInHelp old
  pub rest : (c : Counter) → is_left_by_steps c ≡ true → number c new ≡ number c old

-- a counter of what steps do, or none
abbrev pub IsWork : Option Counter → Type 0
IsWork None = Unit {0}
IsWork (Some c) = (25 ≤ place_of c) × (place_of c ≤ 33)

pub work_of_flush : (answer : Flushed) → IsWork (counter_of_flush answer)
work_of_flush flushed.Sealed = (omega arith, omega arith)
work_of_flush flushed.Wrote = (omega arith, omega arith)
work_of_flush flushed.PageLost = (omega arith, omega arith)
work_of_flush flushed.Nothing = tt
work_of_flush flushed.LogFull = tt

pub work_of_move : (answer : MovedWhole) → IsWork (counter_of_move answer)
work_of_move moved.Nothing = tt
work_of_move moved.Busy = tt
work_of_move moved.Freed = (omega arith, omega arith)
work_of_move moved.Readmitted = (omega arith, omega arith)
work_of_move moved.Dropped = (omega arith, omega arith)
work_of_move moved.PageLost = (omega arith, omega arith)
work_of_move moved.Written = (omega arith, omega arith)
work_of_move moved.Forgotten = (omega arith, omega arith)

-- a number that steps leave stands before theirs
before : (c : Counter) → is_left_by_steps c ≡ true → place_of c < 25
before c left = ltb-true (place_of c) 25 left

-- a step that was due is one more
due_counted : (counts : Counts) → CountsStep counts (counts_step counts)
due_counted counts = record {
  steps = more_same 1 counter.UpkeepSteps counts;
  in_help = more_other 1 counter.UpkeepSteps counter.StepsInHelp counts (λ same. omega (arith, same));
  rest = λ c left. let first = before c left in more_other 1 counter.UpkeepSteps c counts (λ same. omega (arith, first, same));
}

-- and so it is with what it did
pub step_counted : (did : Option Counter) (counts : Counts) → IsWork did → CountsStep counts (with_one_if did (counts_step counts))
step_counted None counts work = due_counted counts
step_counted (Some d) counts work =
    let due = due_counted counts in
    let above = work.0 in
    let below = work.1 in
    record {
      steps = more_other 1 d counter.UpkeepSteps (counts_step counts) (λ same. omega (arith, below, same)) ∙ due.steps;
      in_help = more_other 1 d counter.StepsInHelp (counts_step counts) (λ same. omega (arith, below, same)) ∙ due.in_help;
      rest = λ c left. (let first = before c left in more_other 1 d c (counts_step counts) (λ same. omega (arith, above, first, same))) ∙ due.rest c left;
    }

-- a step that was due was done in help
pub help_counted : (old between : Counts) → CountsStep old between → CountsHelps 1 old (counts_help between)
help_counted old between step = record {
  steps = more_other 1 counter.StepsInHelp counter.UpkeepSteps between (λ same. omega (arith, same)) ∙ step.steps;
  in_help = more_same 1 counter.StepsInHelp between ∙ ap (λ n. (n + 1) % 2 ^ 64) step.in_help;
  rest = λ c left. (let first = before c left in more_other 1 counter.StepsInHelp c between (λ same. omega (arith, first, same))) ∙ step.rest c left;
}

-- and one step more
pub helps_more : (times : ℕ) (old between new : Counts) → CountsHelps times old between → CountsHelps 1 between new → CountsHelps (suc times) old new
helps_more times old between new many one = record {
  steps = one.steps ∙ ap (λ n. (n + 1) % 2 ^ 64) many.steps;
  in_help = one.in_help ∙ ap (λ n. (n + 1) % 2 ^ 64) many.in_help;
  rest = λ c left. one.rest c left ∙ many.rest c left;
}
