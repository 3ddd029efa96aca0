-- The text of an answer, in the form that is wanted.
use Rattle.std.specs.Prelude.{ℕ, List, [], ◌++◌, codes, drop, Option, None, Some}
use Rattle.figures.specs.declared.form.Form.{Form}
use Rattle.figures.specs.declared.form.Form.TheVariants.{Lines, Json}
use Rattle.figures.specs.Figures.{Row, ended, row, with_row, with_rows, word}

-- an answer that is begun: its line, or its rows as members of a JSON object
abbrev pub begun : Form → List ℕ → List Row → List ℕ
begun Lines line rows = line
begun Json line rows = with_rows Json [] rows

-- an answer with nothing after it
abbrev pub answered : Form → List ℕ → List Row → List ℕ
answered form line rows = ended form (begun form line rows)

-- the row of an explanation
abbrev pub why_row : List ℕ → Row
why_row why = row (codes "explanation") (word why)

-- what was begun, and an explanation after it: as it is after a line, or as a member more
abbrev pub with_why : Form → List ℕ → List ℕ → List ℕ
with_why Lines text why = text ++ why
with_why Json text why = with_row Json text (why_row why)

-- the object of an answer, with a member more before its others: the name of the file that it is about
abbrev pub named_object : List ℕ → List ℕ → List ℕ
named_object file object = with_row Json [] (row (codes "file") (word file)) ++ (codes "," ++ drop 1 object)

-- the same if a file is named
abbrev pub with_file : Option (List ℕ) → List ℕ → List ℕ
with_file None told = told
with_file (Some file) told = named_object file told
