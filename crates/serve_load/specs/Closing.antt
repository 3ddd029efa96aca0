-- How the text of a report ends.
use Rattle.std.specs.Prelude.{ℕ, List, ◌++◌, codes}
use Rattle.figures.specs.declared.form.Form.{Form}
use Rattle.figures.specs.declared.form.Form.TheVariants.{Lines, Json}
use Rattle.figures.specs.Figures.{ended}

-- what the last line says
abbrev pub last_line : List ℕ
last_line = codes "no history was recorded, so nothing was judged beyond each caller's check of the hits of its own keys\n"

-- the end of a text: lines have a last one, and an object its brace
abbrev pub closed : Form → List ℕ → List ℕ
closed Lines text = text ++ last_line
closed Json text = ended Json text
