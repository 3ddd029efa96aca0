-- The numbers of a lane's counters. They are modulo 2^64.
use Rattle.std.specs.Prelude.{ℕ, ◌+◌, ◌%◌, ◌^◌, map, Option, Some, None, Bool, ◌==◌, nat_lt, if◌then◌else◌, slice_index_or}
use Rattle.std.specs.List.{range_with_len}
use Rattle.service_lane.specs.declared.counter.Counter.{Counter}
use Rattle.service_lane.specs.declared.counter.Counter.TheVariants as counter
use Rattle.service_lane.specs.declared.counts.Counts.{Counts}
use Rattle.service_lane.specs.declared.counts.TheConstants.{COUNTERS}

-- where the number of a counter stands
abbrev pub place_of : Counter → ℕ
place_of counter.MemoryHits = 0
place_of counter.LogHits = 1
place_of counter.SetHits = 2
place_of counter.Absent = 3
place_of counter.Expired = 4
place_of counter.Faults = 5
place_of counter.Damaged = 6
place_of counter.PutsStored = 7
place_of counter.PutsBytes = 8
place_of counter.PutsTooLarge = 9
place_of counter.PutsOutOfMemory = 10
place_of counter.FillsStored = 11
place_of counter.FillsBytes = 12
place_of counter.FillsTooLarge = 13
place_of counter.FillsOutOfMemory = 14
place_of counter.FillsStale = 15
place_of counter.LeasesGiven = 16
place_of counter.Removals = 17
place_of counter.Declined = 18
place_of counter.Logged = 19
place_of counter.LogFull = 20
place_of counter.IndexFull = 21
place_of counter.CopyHits = 22
place_of counter.BroughtBack = 23
place_of counter.PushedCopies = 24
place_of counter.Sealed = 25
place_of counter.PagesWritten = 26
place_of counter.PagesLost = 27
place_of counter.SetsWritten = 28
place_of counter.SetsForgotten = 29
place_of counter.SegmentsFreed = 30
place_of counter.Readmitted = 31
place_of counter.Dropped = 32
place_of counter.MovesOutOfMemory = 33
place_of counter.UpkeepSteps = 34
place_of counter.StepsInHelp = 35

-- the number that stands at a place
abbrev pub number_at : Counts → ℕ → ℕ
number_at counts place = slice_index_or counts.numbers place 0

-- the number of a counter
abbrev pub number : Counter → Counts → ℕ
number c counts = number_at counts (place_of c)

-- the counts with these numbers, each at its place
unfoldable pub counts_by : (ℕ → ℕ) → Counts
counts_by f = record { numbers = map f (range_with_len 0 COUNTERS) }

-- nothing was counted
abbrev pub no_counts : Counts
no_counts = counts_by (λ place. 0)

-- so many more of a counter, modulo 2^64; every other number stays
unfoldable pub with_more : ℕ → Counter → Counts → Counts
with_more n c counts = counts_by (λ place. if place == place_of c then (number_at counts place + n) % 2 ^ 64 else number_at counts place)

-- one more of a counter
abbrev pub with_one : Counter → Counts → Counts
with_one c counts = with_more 1 c counts

-- one more of a counter, if there is one
abbrev pub with_one_if : Option Counter → Counts → Counts
with_one_if None counts = counts
with_one_if (Some c) counts = with_one c counts

-- each number of the one and of the other together, modulo 2^64
unfoldable pub together : Counts → Counts → Counts
together one other = counts_by (λ place. (number_at one place + number_at other place) % 2 ^ 64)

-- whether steps of flushing, moves and upkeep leave the number of a counter: they leave those before `Sealed`
abbrev pub is_left_by_steps : Counter → Bool
is_left_by_steps c = nat_lt (place_of c) (place_of counter.Sealed)
