-- Where a key belongs, by its hash.
use Rattle.std.specs.Prelude.{ℕ, ◌+◌, ◌*◌, ◌/◌, ◌%◌, ◌^◌, List, [], ◌∷◌, map, bit_or}
use Rattle.set_hash.specs.declared.placed.Placed.{Placed}

-- the number that a hash has among all sets of all lanes
abbrev pub number_of : ℕ → ℕ → ℕ → ℕ
number_of lanes sets hash = hash % (lanes * sets)

-- the low 32 bits of a hash
abbrev pub low_half : ℕ → ℕ
low_half hash = hash % 2 ^ 32

-- the high 32 bits of a hash, with the lowest of them set, so that the steps between probes are odd
abbrev pub odd_high_half : ℕ → ℕ
odd_high_half hash = bit_or (hash / 2 ^ 32) 1

-- the bits of a filter that a hash asks for: two hashes make any number (Kirsch and Mitzenmacher 2006)
abbrev pub probe_of : ℕ → ℕ → ℕ
probe_of hash i = (low_half hash + i * odd_high_half hash) % 256

-- the four bits of a filter that a hash asks for
abbrev pub probes_of : ℕ → List ℕ
probes_of hash = map (probe_of hash) (0 ∷ 1 ∷ 2 ∷ 3 ∷ [])

-- where a hash belongs among this many lanes of this many sets
abbrev pub placed_of : ℕ → ℕ → ℕ → Placed
placed_of lanes sets hash = record {
  hash = hash;
  lane = number_of lanes sets hash % lanes;
  set = number_of lanes sets hash / lanes;
  tag = hash / 2 ^ 48;
  probes = probes_of hash;
}
