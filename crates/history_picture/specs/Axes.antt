-- The axis of a picture: how long after the first stamp each stamp came.
use Rattle.std.specs.Prelude.{ℕ, ◌+◌, ◌-◌, ◌*◌, List, ◌++◌, codes}
use Rattle.std.specs.Fmt.{decimal}
use Rattle.std.specs.List.{flat_map}
use Rattle.history_picture.specs.Layout.{axis_of, down_text, first_stamp, top_of, words_text, x_of}
use Rattle.history_picture.specs.declared.drawing.Drawing.{Drawing}

-- a number, written downwards
unfoldable pub turned_text : ℕ → ℕ → ℕ → List ℕ
turned_text x top number =
    codes "<text transform=\"translate(" ++ (decimal x ++ (codes " " ++ (decimal top ++ (codes ") rotate(90)\">" ++ (decimal number ++ codes "</text>\n")))))

-- a stamp on the axis: a line down through the rows, and under it how long after the first stamp it came
unfoldable pub tick_text : Drawing → ℕ → List ℕ
tick_text drawing stamp =
    down_text (x_of drawing stamp) (top_of drawing) (axis_of drawing) (codes "#eeeeee") ++ turned_text (x_of drawing stamp - 4) (axis_of drawing + 4) (stamp - first_stamp drawing)

-- what the axis shows, in words
unfoldable pub caption_words : ℕ → List ℕ
caption_words first = codes "the time after stamp " ++ (decimal first ++ codes ": in order, and not to scale")

-- where these stand: under the times
abbrev pub caption_base : Drawing → ℕ
caption_base drawing = axis_of drawing + 8 * drawing.times + 28

-- what the axis shows
abbrev pub caption_text : Drawing → List ℕ
caption_text drawing = words_text 16 (caption_base drawing) (caption_words (first_stamp drawing))

-- the axis: each stamp that is shown, and what it shows
unfoldable pub axis_text : Drawing → List ℕ
axis_text drawing = flat_map (tick_text drawing) drawing.sheet.stamps.items ++ caption_text drawing
