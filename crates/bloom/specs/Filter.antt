-- A Bloom filter as the set of the numbers of its bits.
use Rattle.std.specs.Prelude.{ℕ, ◌/◌, ◌%◌, Bool, ◌==◌, List, slice_index}
use Rattle.std.specs.List.{list_all, concat}
use Rattle.std.specs.Int.{bit_at}
use Rattle.std.specs.Ordering.{nat_cmp}
use Rattle.std.specs.FinSet.{FinSet, contains, union, from_list}
use Rattle.record_pages.specs.Passing.{passing_below}

-- the bit with this number, 64 of them a word, is one
abbrev pub has_bit : List ℕ → ℕ → Bool
has_bit words bit = bit_at (slice_index words (bit / 64)) (bit % 64) == 1

-- the numbers of the bits of four words that are one
unfoldable pub set_bits : List ℕ → FinSet nat_cmp
set_bits words = passing_below (has_bit words) 256

-- a filter with these bits beside its own
abbrev pub with_bits : FinSet nat_cmp → List ℕ → FinSet nat_cmp
with_bits filter probes = union filter (from_list probes)

-- a filter admits what asks for these bits if it has each of them
abbrev pub admits : FinSet nat_cmp → List ℕ → Bool
admits filter probes = list_all (contains filter) probes

-- the filter that has just the bits that all these ask for
abbrev pub filter_of : List (List ℕ) → FinSet nat_cmp
filter_of asked = from_list (concat asked)
