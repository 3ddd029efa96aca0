-- What a row of the table of counters tells.
use Rattle.std.specs.Prelude.{ℕ}
use Rattle.figures.specs.Figures.{Row, number, row}
use Rattle.service_lane.specs.declared.counts.Counts.{Counts}
use Rattle.service_lane.specs.Counters.{number as number_in}
use Rattle.serve_load.specs.declared.count_rows.CountRow.{CountRow}
use Rattle.serve_load.specs.declared.count_rows.Told.{Told}
use Rattle.serve_load.specs.declared.count_rows.Told.TheVariants.{Of, Both}
use Rattle.serve_load.specs.Totals.{added}

-- the number of a counter, or of two together
abbrev pub number_of : Counts → Told → ℕ
number_of counts (Of counter) = number_in counter counts
number_of counts (Both one other) = added (number_in one counts) (number_in other counts)

-- its name, and that number
abbrev pub row_of : Counts → CountRow → Row
row_of counts told = row told.0.now (number (number_of counts told.1))
