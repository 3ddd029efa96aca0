-- The hits so far are told.
use Rattle.std.proofs.Common.{◌≡◌, map, string_bytes, take}
use Rattle.figures.specs.Figures.{with_rows}
use Rattle.serve_load.specs.WrongHits.{hit_row}
use Rattle.serve_load.proofs.hit_rows.tell_hits.Given as goal

abbrev pub invariant-loop-hit : goal.invariant-loop-hit
invariant-loop-hit l = string_bytes l.text ≡ with_rows l.fn.form (string_bytes l.fn.text) (map (hit_row l.load) (take l.hit-index l.hits))
