use Rattle.std.proofs.Common.{◌≡◌, slice_get, take}
use Rattle.std.specs.List.{filter_map}
use Rattle.history_text.proofs.keeping.lines_at.Given as goal

-- what was copied is what stands at the positions that were passed
abbrev pub invariant-loop-position : goal.invariant-loop-position
invariant-loop-position l = l.kept.items ≡ filter_map (slice_get l.lines) (take l.position-index l.positions)
