-- The hash FNV-1a with 64 bits (Fowler, Noll, Vo).
use Rattle.std.specs.Prelude.{ℕ, ◌*◌, ◌%◌, ◌^◌, List, fold, bit_xor}

-- a hash with one byte more: the byte is taken into it bit by bit, then it is multiplied, modulo 2^64
abbrev pub with_byte : ℕ → ℕ → ℕ
with_byte hash byte = bit_xor hash byte * 1099511628211 % 2 ^ 64

-- the hash of bytes, taken in one after the other
abbrev pub fnv1a : List ℕ → ℕ
fnv1a bytes = fold with_byte 14695981039346656037 bytes
