-- As many passes as were taken out, and those of them that are short.
use Rattle.std.proofs.Common.{◌≡◌, ◌≤◌, count_by, length}
use Rattle.load_run.specs.Wholes.{is_short}
use Rattle.load_run.proofs.load_result.take_left.Given as goal

abbrev pub invariant-loop : goal.invariant-loop
invariant-loop g l = (length l.passes.items ≡ l.counter) × (l.stopped ≡ count_by (is_short l.load.operations) l.passes.items) × (l.stopped ≤ l.counter)
