use Rattle.std.proofs.Common.{length, true}
use Rattle.service_cache.specs.Sorted.{lane_by}
use Rattle.serving_example.proofs.main.Given as goal

-- the lanes of keys by the seed that was drawn; each device is honest, since it is memory
abbrev pub ghosts-made_over : goal.ghosts-made_over
ghosts-made_over g a = record { lanes = length a.devices.items; lane_of = λ key. lane_by a.seed (length a.devices.items) key; is_honest = λ number. true }
