-- The numbers before this place are added.
use Rattle.std.proofs.Common.{◌≡◌, ◌+◌, ◌%◌, ◌^◌, ℕ, ◌<◌, get_or, length}
use Rattle.service_lane.specs.declared.counts.TheConstants.{COUNTERS}
use Rattle.service_lane.specs.Counters.{number_at}
use Rattle.service_lane.proofs.counts.Counts.together.Given as goal

abbrev pub invariant-loop-place : goal.invariant-loop-place
invariant-loop-place l =
    record {
      all : length l.numbers ≡ COUNTERS;
      added : (place : ℕ) → place < l.place → get_or l.numbers place 0 ≡ (number_at l.self place + number_at l.other place) % 2 ^ 64;
    }
