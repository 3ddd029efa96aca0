-- The hits so far.
use Rattle.std.proofs.Common.{◌≡◌, ◌≤◌, count_by, take}
use Rattle.load_run.specs.Summaries.{is_hit}
use Rattle.load_run.proofs.hits.hits_of.Given as goal

abbrev pub invariant-loop-position : goal.invariant-loop-position
invariant-loop-position l = (l.hits ≡ count_by is_hit (take l.position l.history)) × (l.hits ≤ l.position)
