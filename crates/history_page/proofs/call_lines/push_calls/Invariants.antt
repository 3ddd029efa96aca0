-- The lines of the calls so far stand after what the page had.
use Rattle.std.proofs.Common.{◌≡◌, ◌++◌}
use Rattle.std.specs.List.{flat_map, range_with_len}
use Rattle.history_picture.specs.Names.{names_of}
use Rattle.history_page.specs.CallLines.{line_at}
use Rattle.history_page.specs.Guarding.{guard}
use Rattle.history_page.proofs.call_lines.push_calls.Given as goal

abbrev pub invariant-loop-position : goal.invariant-loop-position
invariant-loop-position l =
    l.page.items ≡ l.fn.page.items ++ guard (flat_map (line_at l.scene.history.now l.scene.lines.now (names_of l.scene.callers.now) l.recorded) (range_with_len 0 l.position))
