-- The places of a page as the bits of one word.
use Rattle.std.specs.Prelude.{ℕ, ◌==◌}
use Rattle.std.specs.Int.{bit_at}
use Rattle.std.specs.Ordering.{nat_cmp}
use Rattle.std.specs.FinSet.{FinSet}
use Rattle.record_pages.specs.Sizes.{max_set_records}
use Rattle.record_pages.specs.Passing.{passing_below}

-- the numbers of the bits of a word that are one, of as many bits as a set page may have records
unfoldable pub bits_of : ℕ → FinSet nat_cmp
bits_of word = passing_below (λ place. bit_at word place == 1) max_set_records
