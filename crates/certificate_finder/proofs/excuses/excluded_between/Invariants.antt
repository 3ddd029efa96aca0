use Rattle.std.proofs.Common.{◌≡◌, ◌≤◌}
use Rattle.certificate_finder.specs.Excluding.{excused_between}
use Rattle.certificate_finder.proofs.excuses.excluded_between.Given as goal

-- the puts so far have their excuses
abbrev pub invariant-loop-index : goal.invariant-loop-index
invariant-loop-index l = (l.from ≤ l.index) × (l.index ≤ l.upto) × (l.excluded.items ≡ excused_between l.puts l.hit l.from l.index)
