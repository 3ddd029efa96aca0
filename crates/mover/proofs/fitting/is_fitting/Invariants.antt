use Rattle.std.proofs.Common.{◌≡◌, ◌≤◌, ◌+◌, length, take}
use Rattle.record_pages.specs.Sizes.{max_set_records, room}
use Rattle.klog.specs.Moves.{most_taken}
use Rattle.mover.specs.Job.{job_of}
use Rattle.mover.proofs.Plans.{IsTested}
use Rattle.mover.proofs.fitting.is_fitting.Given as goal

abbrev pub invariant-loop-number : goal.invariant-loop-number
invariant-loop-number g l = IsTested (job_of g.row.PAGE l.moving) (take l.number l.plan) l.named l.size × (length l.named ≡ max_set_records + most_taken) × (l.size ≤ room g.row.PAGE) × (length l.plan ≤ max_set_records)
