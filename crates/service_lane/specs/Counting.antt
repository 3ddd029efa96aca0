-- What each call adds to the counts of a lane.
use Rattle.std.specs.Prelude.{◌≡◌, ℕ, zero, suc, ◌+◌, ◌%◌, ◌^◌, List, length, Option, Some, None, option_and_then, true}
use Rattle.record_pages.specs.declared.answer.Answer.{Answer}
use Rattle.record_pages.specs.declared.answer.Answer.TheVariants.{Hit, Miss}
use Rattle.record_pages.specs.declared.tier.Tier.{Tier}
use Rattle.record_pages.specs.declared.tier.Tier.TheVariants.{Memory, Log, Set}
use Rattle.record_pages.specs.declared.miss_cause.MissCause.{MissCause}
use Rattle.record_pages.specs.declared.miss_cause.MissCause.TheVariants.{Absent, Expired, Fault, Damaged}
use Rattle.record_pages.specs.declared.pushed.Pushed.{Pushed}
use Rattle.record_pages.specs.declared.pushed.Pushed.TheVariants.{Nobody, Declined, Logged, Full, IndexFull}
use Rattle.record_pages.specs.declared.put_fault.PutFault.{PutFault}
use Rattle.record_pages.specs.declared.put_fault.PutFault.TheVariants.{TooLarge, OutOfMemory}
use Rattle.klog.specs.declared.flushed.Flushed.{Flushed}
use Rattle.klog.specs.declared.flushed.Flushed.TheVariants as flushed
use Rattle.mover.specs.declared.copy_fate.CopyFate.{CopyFate}
use Rattle.mover.specs.declared.copy_fate.CopyFate.TheVariants as fates
use Rattle.mover.specs.declared.moved_whole.MovedWhole.{MovedWhole}
use Rattle.mover.specs.declared.moved_whole.MovedWhole.TheVariants as moved
use Rattle.service_lane.specs.declared.copied.Copied.{Copied}
use Rattle.service_lane.specs.declared.copied.Copied.TheVariants.{Nothing, Answered, Made}
use Rattle.service_lane.specs.declared.counter.Counter.{Counter}
use Rattle.service_lane.specs.declared.counter.Counter.TheVariants as counter
use Rattle.service_lane.specs.declared.counts.Counts.{Counts}
use Rattle.service_lane.specs.Counters.{number, with_more, with_one, with_one_if, is_left_by_steps}

-- the counter of hits in a tier
abbrev pub counter_of_hit : Tier → Counter
counter_of_hit Memory = counter.MemoryHits
counter_of_hit Log = counter.LogHits
counter_of_hit Set = counter.SetHits

-- the counter of misses of a cause
abbrev pub counter_of_miss : MissCause → Counter
counter_of_miss Absent = counter.Absent
counter_of_miss Expired = counter.Expired
counter_of_miss Fault = counter.Faults
counter_of_miss Damaged = counter.Damaged

-- the counter of an answer
abbrev pub counter_of_answer : Answer → Counter
counter_of_answer (Hit value tier) = counter_of_hit tier
counter_of_answer (Miss cause) = counter_of_miss cause

-- the counter of puts that were refused so
abbrev pub counter_of_refused_put : PutFault → Counter
counter_of_refused_put TooLarge = counter.PutsTooLarge
counter_of_refused_put OutOfMemory = counter.PutsOutOfMemory

-- the counter of fills that were refused so
abbrev pub counter_of_refused_fill : PutFault → Counter
counter_of_refused_fill TooLarge = counter.FillsTooLarge
counter_of_refused_fill OutOfMemory = counter.FillsOutOfMemory

-- the counter of what became of a pair, if one was pushed out of memory
abbrev pub counter_of_pushed : Pushed → Option Counter
counter_of_pushed Nobody = None
counter_of_pushed Declined = Some counter.Declined
counter_of_pushed Logged = Some counter.Logged
counter_of_pushed Full = Some counter.LogFull
counter_of_pushed IndexFull = Some counter.IndexFull

-- the counter of what a get did with the copies, if it did something
abbrev pub counter_of_copied : Copied → Option Counter
counter_of_copied Nothing = None
counter_of_copied Answered = Some counter.CopyHits
counter_of_copied (Made fate) = Some counter.BroughtBack

-- what became of the copy that a get pushed out, if it pushed one out
abbrev pub fate_after : Copied → Option CopyFate
fate_after Nothing = None
fate_after Answered = None
fate_after (Made fate) = fate

-- the counter of what became of a copy that was pushed out of memory; none for one that has no room in the log, which was never there
abbrev pub counter_of_fate : CopyFate → Option Counter
counter_of_fate fates.Known = Some counter.PushedCopies
counter_of_fate fates.TooLarge = None
counter_of_fate fates.Logged = Some counter.Logged
counter_of_fate fates.Full = Some counter.LogFull
counter_of_fate fates.IndexFull = Some counter.IndexFull

-- the counter of a step of flushing, if it did something
abbrev pub counter_of_flush : Flushed → Option Counter
counter_of_flush flushed.Sealed = Some counter.Sealed
counter_of_flush flushed.Wrote = Some counter.PagesWritten
counter_of_flush flushed.PageLost = Some counter.PagesLost
counter_of_flush flushed.Nothing = None
counter_of_flush flushed.LogFull = None

-- the counter of a move, if it did something
abbrev pub counter_of_move : MovedWhole → Option Counter
counter_of_move moved.Nothing = None
counter_of_move moved.Busy = None
counter_of_move moved.Freed = Some counter.SegmentsFreed
counter_of_move moved.Readmitted = Some counter.Readmitted
counter_of_move moved.Dropped = Some counter.Dropped
counter_of_move moved.PageLost = Some counter.PagesLost
counter_of_move moved.Written = Some counter.SetsWritten
counter_of_move moved.Forgotten = Some counter.SetsForgotten

-- the bytes of an object
abbrev pub bytes_of : List ℕ → List ℕ → ℕ
bytes_of key value = length key + length value

-- a lane's counts with one more answer
abbrev pub counts_answer : Answer → Counts → Counts
counts_answer answer c = with_one (counter_of_answer answer) c

-- with one more answer, what it did with the copies, and what became of the copy that it pushed out
abbrev pub counts_get : Copied → Answer → Counts → Counts
counts_get copied answer c = with_one_if (option_and_then counter_of_fate (fate_after copied)) (with_one_if (counter_of_copied copied) (counts_answer answer c))

-- with one more put that was stored, its bytes, and what became of the pair that it pushed out
abbrev pub counts_put : List ℕ → List ℕ → Pushed → Counts → Counts
counts_put key value pushed c = with_one_if (counter_of_pushed pushed) (with_more (bytes_of key value) counter.PutsBytes (with_one counter.PutsStored c))

-- with one more fill that was stored, its bytes, and what became of the pair that it pushed out
abbrev pub counts_fill : List ℕ → List ℕ → Pushed → Counts → Counts
counts_fill key value pushed c = with_one_if (counter_of_pushed pushed) (with_more (bytes_of key value) counter.FillsBytes (with_one counter.FillsStored c))

-- with one more put that was refused
abbrev pub counts_refused_put : PutFault → Counts → Counts
counts_refused_put fault c = with_one (counter_of_refused_put fault) c

-- with one more fill that was refused
abbrev pub counts_refused_fill : PutFault → Counts → Counts
counts_refused_fill fault c = with_one (counter_of_refused_fill fault) c

-- with one more fill that came too late
abbrev pub counts_stale : Counts → Counts
counts_stale c = with_one counter.FillsStale c

-- with one more lease
abbrev pub counts_lease : Counts → Counts
counts_lease c = with_one counter.LeasesGiven c

-- with one more removal
abbrev pub counts_removal : Counts → Counts
counts_removal c = with_one counter.Removals c

-- with one more step of flushing
abbrev pub counts_flush : Flushed → Counts → Counts
counts_flush answer c = with_one_if (counter_of_flush answer) c

-- with one more move
abbrev pub counts_move : MovedWhole → Counts → Counts
counts_move answer c = with_one_if (counter_of_move answer) c

-- with one more move that was refused memory
abbrev pub counts_refused_move : Counts → Counts
counts_refused_move c = with_one counter.MovesOutOfMemory c

-- with one more step that was due
abbrev pub counts_step : Counts → Counts
counts_step c = with_one counter.UpkeepSteps c

-- with one more step that was done in help
abbrev pub counts_help : Counts → Counts
counts_help c = with_one counter.StepsInHelp c

-- so many times one more, modulo 2^64
abbrev pub more_times : ℕ → ℕ → ℕ
more_times zero n = n
more_times (suc times) n = (more_times times n + 1) % 2 ^ 64

-- so many steps more were due, all of them done in help; and the numbers that steps leave stay
pub record CountsHelps (times : ℕ) (old new : Counts) : Type 0 where
  pub steps : number counter.UpkeepSteps new ≡ more_times times (number counter.UpkeepSteps old)
  pub in_help : number counter.StepsInHelp new ≡ more_times times (number counter.StepsInHelp old)
  pub rest : (c : Counter) → is_left_by_steps c ≡ true → number c new ≡ number c old
