-- Names with figures, and the text that tells them: lines, or a JSON object.
use Rattle.std.specs.Prelude.{ℕ, ◌/◌, ◌%◌, Bool, true, false, List, [], ◌∷◌, ◌++◌, codes, fold}
use Rattle.std.specs.Fmt.{decimal}
use Rattle.std.specs.List.{flat_map}
use Rattle.serde_json.specs.Data.{string}
use Rattle.serde_json.specs.Written.{compact_text}
use Rattle.figures.specs.declared.figure.Figure.TheVariants as figures
use Rattle.figures.specs.declared.figure.Figure.{Figure}
use Rattle.figures.specs.declared.form.Form.{Form}
use Rattle.figures.specs.declared.form.Form.TheVariants.{Lines, Json}

-- the form that is wanted
abbrev pub form_of : Bool → Form
form_of true = Json
form_of false = Lines

-- what goes with a name: a number, a number of thousandths, a text, or some numbers
pub data Shown : Type 0 where
  number : ℕ → Shown
  thousandths : ℕ → Shown
  word : List ℕ → Shown
  numbers : List ℕ → Shown

-- what a figure shows
abbrev pub figure_of : Figure → Shown
figure_of (figures.Count n) = number n
figure_of (figures.Thousandths n) = thousandths n
figure_of (figures.Word text) = word text.now
figure_of (figures.Numbers ns) = numbers ns.now

-- a name, and what goes with it
pub record Row : Type 0 where
  pub name : List ℕ
  pub figure : Shown

abbrev pub row : List ℕ → Shown → Row
row name figure = record { name = name; figure = figure }

-- a number of thousandths, with three decimals
abbrev pub thousandths_text : ℕ → List ℕ
thousandths_text n =
    decimal (n / 1000) ++ (codes "." ++ (decimal (n % 1000 / 100) ++ (decimal (n % 1000 / 10 % 10) ++ decimal (n % 1000 % 10))))

-- numbers, with this mark between them
abbrev pub parted : List ℕ → List ℕ → List ℕ
parted mark [] = []
parted mark (n ∷ ns) = decimal n ++ flat_map (λ m. mark ++ decimal m) ns

-- a figure on a line
abbrev pub plain_text : Shown → List ℕ
plain_text (number n) = decimal n
plain_text (thousandths n) = thousandths_text n
plain_text (word text) = text
plain_text (numbers ns) = parted (codes " ") ns

-- a figure in a JSON object
abbrev pub json_text : Shown → List ℕ
json_text (number n) = decimal n
json_text (thousandths n) = thousandths_text n
json_text (word text) = compact_text (string text)
json_text (numbers ns) = codes "[" ++ (parted (codes ",") ns ++ codes "]")

-- what stands before a member of an object of which this was written
abbrev pub mark_after : List ℕ → List ℕ
mark_after [] = codes "{\""
mark_after (c ∷ cs) = codes ",\""

-- what was written, and one row more
abbrev pub with_row : Form → List ℕ → Row → List ℕ
with_row Lines text r = text ++ (r.name ++ (codes " " ++ (plain_text r.figure ++ codes "\n")))
with_row Json text r = text ++ (mark_after text ++ (r.name ++ (codes "\":" ++ json_text r.figure)))

-- what was written, and some rows more, in their order
abbrev pub with_rows : Form → List ℕ → List Row → List ℕ
with_rows form text rows = fold (with_row form) text rows

-- what was written, ended
abbrev pub ended : Form → List ℕ → List ℕ
ended Lines text = text
ended Json text = text ++ codes "}\n"

-- the text of some rows
abbrev pub text_of_rows : Form → List Row → List ℕ
text_of_rows form rows = ended form (with_rows form [] rows)
