-- Where the parts of a picture lie, in pixels.
use Rattle.std.specs.Prelude.{ℕ, ◌+◌, ◌*◌, List, ◌++◌, ◌==◌, nat_lt, max, codes, length, count_by, if◌then◌else◌}
use Rattle.std.specs.Fmt.{decimal}
use Rattle.std.specs.List.{flat_map}
use Rattle.history_picture.specs.Escaping.{escape_of}
use Rattle.history_picture.specs.Rows.{column, never_ended}
use Rattle.history_picture.specs.Scale.{first_of}
use Rattle.history_picture.specs.declared.drawing.Drawing.{Drawing}

-- a text in which no sign means anything to XML
abbrev pub escaped : List ℕ → List ℕ
escaped text = flat_map escape_of text

-- where a column lies: 24 for each, after the callers' names
abbrev pub across : Drawing → ℕ → ℕ
across drawing column = 24 * column + 8 * drawing.sheet.callers + 32

-- where the columns end
abbrev pub right_end : Drawing → ℕ
right_end drawing = across drawing (length drawing.sheet.stamps.items) + 48

-- where a stamp lies: in its column, and at the end of the columns what never comes
abbrev pub x_of : Drawing → ℕ → ℕ
x_of drawing stamp = if stamp == never_ended then right_end drawing else across drawing (column drawing.sheet.stamps.items stamp)

-- where the rows begin: under the lines of the sentence, and those of the labels
abbrev pub top_of : Drawing → ℕ
top_of drawing = 18 * (drawing.feeds + drawing.labels) + 36

-- where a caller's row lies: 46 below the one before
abbrev pub y_of : Drawing → ℕ → ℕ
y_of drawing caller = 46 * count_by (λ other. nat_lt other caller) drawing.callers.items + top_of drawing + 20

-- where the times are written, under the rows
abbrev pub axis_of : Drawing → ℕ
axis_of drawing = 46 * length drawing.callers.items + top_of drawing + 8

-- the picture's width and height
abbrev pub width_of : Drawing → ℕ
width_of drawing = max (right_end drawing + 16) 800

abbrev pub height_of : Drawing → ℕ
height_of drawing = axis_of drawing + 8 * drawing.times + 40

-- where an element lies, and how large it is
unfoldable pub place_text : ℕ → ℕ → ℕ → ℕ → List ℕ
place_text left top width height =
    codes "x=\"" ++ (decimal left ++ (codes "\" y=\"" ++ (decimal top ++ (codes "\" width=\"" ++ (decimal width ++ (codes "\" height=\"" ++ (decimal height
    ++ codes "\"")))))))

-- a line across
unfoldable pub line_text : ℕ → ℕ → ℕ → List ℕ
line_text left top right =
    codes "<path d=\"M " ++ (decimal left ++ (codes " " ++ (decimal top ++ (codes " H " ++ (decimal right ++ codes "\" stroke=\"#e4e4e4\"/>\n")))))

-- a text on a line
unfoldable pub words_text : ℕ → ℕ → List ℕ → List ℕ
words_text left base words =
    codes "<text x=\"" ++ (decimal left ++ (codes "\" y=\"" ++ (decimal base ++ (codes "\">" ++ (words ++ codes "</text>\n")))))

-- a line downwards
unfoldable pub down_text : ℕ → ℕ → ℕ → List ℕ → List ℕ
down_text x top bottom colour =
    codes "<path d=\"M " ++ (decimal x ++ (codes " " ++ (decimal top ++ (codes " V " ++ (decimal bottom ++ (codes "\" stroke=\"" ++ (colour ++ codes "\"/>\n")))))))

-- the first stamp that is shown, 0 if there is none
abbrev pub first_stamp : Drawing → ℕ
first_stamp drawing = first_of drawing.sheet.stamps.items
