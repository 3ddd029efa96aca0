-- How what is judged differs from what a text spells.
use Rattle.std.specs.Prelude.{ℕ, ◌+◌, ◌-◌, ◌^◌, min, List, [], ◌∷◌, ◌++◌, codes, Option, Some, None, option_map, unwrap_or}
use Rattle.std.specs.Fmt.{decimal}
use Rattle.figures.specs.Figures.{Row, number, row}
use Rattle.judge_run.specs.declared.extent.Extent.{Extent}
use Rattle.judge_run.specs.declared.forgotten.Forgotten.{Forgotten}

-- how many of so many calls, from the first on, are the text's own: all but the puts that were added for values that were there from the start
abbrev pub own_of : Extent → ℕ → ℕ
own_of extent calls = calls - unwrap_or extent.from_start 0

-- how many calls were judged and forgotten. A number that 64 bits can't hold stops at the last that they can, here and below
abbrev pub forgotten_of : Option Forgotten → ℕ
forgotten_of None = 0
forgotten_of (Some gone) = min (gone.puts + gone.removals + gone.hits + gone.misses) (2 ^ 64 - 1)

-- so many calls, and those that were forgotten
abbrev pub with_forgotten : ℕ → ℕ → ℕ
with_forgotten own gone = min (own + gone) (2 ^ 64 - 1)

-- how many puts were added with earlier pieces, whether they are held or not
abbrev pub added_before : Option Forgotten → ℕ
added_before None = 0
added_before (Some gone) = gone.added

-- how many calls of a text were judged: its own of so many, and those that were forgotten, without the puts that were added with earlier pieces
abbrev pub recorded_of : Extent → ℕ → ℕ
recorded_of extent calls = with_forgotten (own_of extent calls) (forgotten_of extent.forgotten) - added_before extent.forgotten

-- how many values were taken as there from the start, if that was asked for
abbrev pub from_start_of : Extent → Option ℕ
from_start_of extent = option_map (λ values. with_forgotten values (added_before extent.forgotten)) extent.from_start

-- a number as a line of its own, if it is asked for
abbrev pub count_text : List ℕ → Option ℕ → List ℕ
count_text says None = []
count_text says (Some count) = decimal count ++ says

-- the same as a row
abbrev pub count_row : List ℕ → Option ℕ → List Row
count_row name None = []
count_row name (Some count) = row name (number count) ∷ []

-- how many calls were forgotten, if some could be
abbrev pub forgotten_if : Option Forgotten → Option ℕ
forgotten_if None = None
forgotten_if (Some gone) = Some (forgotten_of (Some gone))

-- the lines that tell how what is judged differs from what the text spells, each if that was asked for
abbrev pub extent_text : Extent → List ℕ
extent_text extent =
    count_text (codes " values were taken as there from the start\n") (from_start_of extent)
    ++ (count_text (codes " bad lines were passed over\n") extent.skipped
    ++ count_text (codes " calls were judged and forgotten\n") (forgotten_if extent.forgotten))

-- the same as rows
abbrev pub extent_rows : Extent → List Row
extent_rows extent =
    count_row (codes "values-from-start") (from_start_of extent)
    ++ (count_row (codes "bad-lines") extent.skipped
    ++ count_row (codes "calls-forgotten") (forgotten_if extent.forgotten))
