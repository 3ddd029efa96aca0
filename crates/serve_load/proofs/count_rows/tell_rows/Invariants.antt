-- The rows so far are told.
use Rattle.std.proofs.Common.{◌≡◌, map, string_bytes, take}
use Rattle.figures.specs.Figures.{with_rows}
use Rattle.serve_load.specs.Telling.{row_of}
use Rattle.serve_load.proofs.count_rows.tell_rows.Given as goal

abbrev pub invariant-loop-row : goal.invariant-loop-row
invariant-loop-row l = string_bytes l.text ≡ with_rows l.fn.form (string_bytes l.fn.text) (map (row_of l.counts) (take l.row-index l.rows))
