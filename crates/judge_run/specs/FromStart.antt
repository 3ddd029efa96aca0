-- What is told of the puts that were added for values that were there from the start. Each has the line of the hit that read its value first.
use Rattle.std.specs.Prelude.{ℕ, nat_le, List, [], ◌∷◌, ◌++◌, codes, filter}
use Rattle.std.specs.Fmt.{decimal}
use Rattle.std.specs.List.{flat_map}
use Rattle.certificate_finder.specs.declared.witness.Witness.{Witness}
use Rattle.figures.specs.Figures.{Row, numbers, row}
use Rattle.judge_run.specs.Telling.{ascending, lines_at, witness_positions}

-- the positions of puts that were added: those after so many recorded calls
abbrev pub added_among : ℕ → List ℕ → List ℕ
added_among recorded positions = filter (nat_le recorded) positions

-- the lines of the hits that read first what was there from the start, of the values that a reason speaks of
abbrev pub start_lines : List ℕ → ℕ → Witness → List ℕ
start_lines lines recorded witness = ascending (lines_at lines (added_among recorded (witness_positions witness)))

-- what is said of one of them on the line of a fault
unfoldable pub start_words : ℕ → List ℕ
start_words line = codes ", a value was there from the start, read in line " ++ decimal line

-- what is said of all of them there
abbrev pub start_text : List ℕ → List ℕ
start_text lines = flat_map start_words lines

-- what is said of one of them after an explanation
unfoldable pub start_sentence : ℕ → List ℕ
start_sentence line =
    codes "the put at 0 (line " ++ (decimal line ++ (codes ") was not recorded: its value was there from the start, read in line " ++ (decimal line ++ codes "\n")))

-- what is said of all of them there
abbrev pub start_why : List ℕ → List ℕ
start_why lines = flat_map start_sentence lines

-- the same as a row, if there are any
abbrev pub start_rows : List ℕ → List Row
start_rows [] = []
start_rows (line ∷ others) = row (codes "from-start-lines") (numbers (line ∷ others)) ∷ []
