-- What a key hasher computes.
use Rattle.std.specs.Prelude.{ℕ, zero, suc, ◌+◌, ◌-◌, ◌*◌, ◌/◌, ◌^◌, List, length, if◌then◌else◌, nat_le, bit_and, bit_xor}
use Rattle.key_hash.specs.declared.key_hasher.KeyHasher.{KeyHasher}
use Rattle.key_hash.specs.declared.random_seed.RandomSeed.{RandomSeed}
use Rattle.key_hash.specs.Words.{word, short}

-- the hasher that a seed begins with
abbrev pub started : RandomSeed → KeyHasher
started seed = record { state = seed.start; multiplier = seed.multiplier }

-- the two halves of the 128 bits of a product, joined by xor
unfoldable pub folded : ℕ → ℕ → ℕ
folded a b = bit_xor (bit_and (a * b) (2 ^ 64 - 1)) (a * b / 2 ^ 64)

-- the seed that is the same in every run: the first fractional bits of pi
abbrev pub fixed_seed : RandomSeed
fixed_seed = record { start = 0x243f6a8885a308d3; multiplier = 0x13198a2e03707344 }

-- the seed that is made of one and a number: two products of the one, after twice the number and one more were joined to its start by xor
abbrev pub derived : RandomSeed → ℕ → RandomSeed
derived seed n = record { start = folded (bit_xor seed.start (2 * n)) seed.multiplier; multiplier = folded (bit_xor seed.start (2 * n + 1)) seed.multiplier }

-- the state after the words at two places
abbrev pub mixed : ℕ → List ℕ → ℕ → ℕ → ℕ → ℕ
mixed multiplier bytes state i j = folded (bit_xor (word bytes i) state) (bit_xor (word bytes j) multiplier)

-- the state after this many blocks of 16 bytes
unfoldable pub mixed_blocks : ℕ → List ℕ → ℕ → ℕ → ℕ
mixed_blocks multiplier bytes state zero = state
mixed_blocks multiplier bytes state (suc n) = mixed multiplier bytes (mixed_blocks multiplier bytes state n) (16 * n) (16 * n + 8)

-- the state after up to eight bytes
abbrev pub after_short : KeyHasher → List ℕ → ℕ
after_short h bytes = folded (bit_xor h.state (short bytes)) (bit_xor h.multiplier (2 * length bytes))

-- the state after more: their count, by a multiplication of its own, then the blocks of 16 bytes before the last 1 to 16 bytes, then the last 16
abbrev pub after_long : KeyHasher → List ℕ → ℕ
after_long h bytes =
    let n = length bytes in
    mixed h.multiplier bytes (mixed_blocks h.multiplier bytes (folded (bit_xor h.state n) h.multiplier) ((n - 1) / 16)) (n - 16) (n - 8)

-- the hasher after bytes
unfoldable pub written : KeyHasher → List ℕ → KeyHasher
written h bytes = record {
  state = if nat_le (length bytes) 8 then after_short h bytes else after_long h bytes;
  multiplier = h.multiplier;
}
