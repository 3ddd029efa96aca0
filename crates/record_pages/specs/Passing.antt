-- The numbers below a bound that pass a test, as a set.
use Rattle.std.specs.Prelude.{ℕ, zero, suc, Bool, if◌then◌else◌}
use Rattle.std.specs.Ordering.{nat_cmp}
use Rattle.std.specs.FinSet.{FinSet, empty, insert}

-- the numbers below n that pass a test
abbrev pub passing_below : (ℕ → Bool) → ℕ → FinSet nat_cmp
passing_below test zero = empty
passing_below test (suc n) = if test n then insert (passing_below test n) n else passing_below test n
