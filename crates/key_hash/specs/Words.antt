-- Numbers that bytes are read as.
use Rattle.std.specs.Prelude.{ℕ, ◌+◌, ◌-◌, ◌*◌, ◌/◌, ◌%◌, ◌^◌, List, length, if◌then◌else◌, nat_le, nat_lt, slice_index, bit_or}

-- the four bytes from a place on as a number, the first of them lowest
unfoldable pub half : List ℕ → ℕ → ℕ
half bytes i = slice_index bytes i + slice_index bytes (i + 1) * 256 + slice_index bytes (i + 2) * 65536 + slice_index bytes (i + 3) * 16777216

-- a number of 64 bits moved up by this many, without those that leave it
abbrev pub moved_up : ℕ → ℕ → ℕ
moved_up x by = (x * 2 ^ by) % 2 ^ 64

-- the eight bytes from a place on as a number, the first of them lowest
unfoldable pub word : List ℕ → ℕ → ℕ
word bytes i = bit_or (half bytes i) (moved_up (half bytes (i + 4)) 32)

-- up to eight bytes as a number: from four on their first four and their last four, otherwise the first, the middle and the last
unfoldable pub short : List ℕ → ℕ
short bytes =
    let n = length bytes in
    if nat_le 4 n then bit_or (half bytes 0) (moved_up (half bytes (n - 4)) 32)
    else (if nat_lt 0 n then bit_or (bit_or (slice_index bytes 0) (moved_up (slice_index bytes (n / 2)) 8)) (moved_up (slice_index bytes (n - 1)) 16) else 0)
