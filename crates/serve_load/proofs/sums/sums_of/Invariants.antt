-- This many tallies add up to the sums.
use Rattle.std.proofs.Common.{◌≡◌, ◌≤◌, ◌*◌}
use Rattle.serve_load.specs.Tallies.{AddUp}
use Rattle.serve_load.proofs.sums.sums_of.Given as goal

abbrev pub invariant-loop : goal.invariant-loop
invariant-loop g l =
    (l.sums.operations ≤ l.counter * g.M.Tallying.most) × (l.sums.refused ≤ l.sums.operations) × (l.sums.whole ≤ l.counter)
    × AddUp g.M.Tallying.is_tally l.counter l.sums.operations l.sums.refused l.sums.whole l.sums.hits.items
    × (g.M.Tallying.seconds ≡ 0 → l.sums.whole * g.M.Tallying.most ≤ l.sums.operations)
