-- In which lane a key is.
use Rattle.std.specs.Prelude.{ℕ, ◌/◌, ◌%◌, ◌^◌, List}
use Rattle.key_hash.specs.declared.random_seed.RandomSeed.{RandomSeed}
use Rattle.key_hash.specs.Hashing.{fixed_seed, derived}
use Rattle.service_lane.specs.Leases.{hash_by}
use Rattle.c_lane.specs.declared.key_place.KeyPlace.{KeyPlace}
use Rattle.c_lane.specs.declared.seed.Seed.{Seed}

-- the low half of a word of 64 bits
abbrev pub low_half : ℕ → ℕ
low_half word = word % 2 ^ 32

-- the high half
abbrev pub high_half : ℕ → ℕ
high_half word = word / 2 ^ 32

-- the seed of tables: made of the fixed one and of all bytes that were drawn
unfoldable pub seed_of : Seed → RandomSeed
seed_of s = derived (derived (derived (derived fixed_seed (low_half s.first)) (high_half s.first)) (low_half s.second)) (high_half s.second)

-- where a key is among this many lanes: the remainder of its hash, and the high half of it
unfoldable pub place_in : Seed → ℕ → List ℕ → KeyPlace
place_in seed lanes key = record { lane = hash_by (seed_of seed) key % lanes; word = hash_by (seed_of seed) key / 2 ^ 32 }
