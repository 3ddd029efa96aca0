use Rattle.std.proofs.Common.{true}
use Rattle.service_cache.specs.Sorted.{lane_by}
use Rattle.service_tests.proofs.tests.cache.seats.two_callers_of_a_cache.Given as goal

-- the lanes of keys by the seed that was drawn; each device is honest, since it is memory
abbrev pub ghosts-sorted : goal.ghosts-sorted
ghosts-sorted g a = record { lanes = 4; lane_of = λ key. lane_by a.seed 4 key; is_honest = λ number. true }
