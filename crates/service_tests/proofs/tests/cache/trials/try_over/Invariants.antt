use Rattle.std.proofs.Common.{length}
use Rattle.service_cache.specs.Sorted.{honest_by, lane_by}
use Rattle.service_tests.proofs.tests.cache.trials.try_over.Given as goal

-- the lanes of keys by the seed, and which have an honest device
abbrev pub ghosts-try_sorted : goal.ghosts-try_sorted
ghosts-try_sorted g a = record { lanes = length a.devices.items; lane_of = λ key. lane_by a.seed (length a.devices.items) key; is_honest = honest_by g.D.PageDevice.honest a.devices.items }
