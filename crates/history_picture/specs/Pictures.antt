-- The parts of a picture.
use Rattle.std.specs.Prelude.{ℕ, ◌+◌, ◌-◌, List, [], ◌∷◌, ◌++◌, Bool, ◌==◌, ◌&&◌, nat_lt, max, min, codes, slice_get, Option, Some, None, if◌then◌else◌}
use Rattle.std.specs.Fmt.{decimal}
use Rattle.std.specs.List.{flat_map}
use Rattle.trace_file.specs.declared.act.Act.{Act}
use Rattle.trace_file.specs.declared.act.Act.TheVariants.{Put, Remove, Hit, Miss}
use Rattle.trace_file.specs.declared.call.Call.{Call}
use Rattle.history_picture.specs.Axes.{axis_text}
use Rattle.history_picture.specs.Escaping.{escape_of}
use Rattle.history_picture.specs.Labels.{is_marked, label_at}
use Rattle.history_picture.specs.Layout.{across, escaped, height_of, line_text, place_text, right_end, width_of, words_text, x_of, y_of}
use Rattle.history_picture.specs.Naming.{act_words, label_of}
use Rattle.history_picture.specs.Rows.{act_name, caller_words, end_words}
use Rattle.history_picture.specs.declared.arrows.Arrow.{Arrow}
use Rattle.history_picture.specs.declared.drawing.Drawing.{Drawing}

-- the row of a caller: its name, and a line across
unfoldable pub caller_row : List (List ℕ) → Drawing → ℕ → List ℕ
caller_row callers drawing caller =
    line_text (across drawing 0 - 8) (y_of drawing caller + 8) (width_of drawing) ++ words_text 16 (y_of drawing caller + 12) (escaped (caller_words (slice_get callers caller) caller))

-- where the next call of a caller starts, after a stamp, if this is one
abbrev pub next_at : Drawing → ℕ → ℕ → Option Call → ℕ
next_at drawing caller start None = right_end drawing
next_at drawing caller start (Some other) = if other.caller == caller && nat_lt start other.start then x_of drawing other.start else right_end drawing

-- where the next of these calls of a caller starts, after a stamp, or the columns end
abbrev pub next_of : Drawing → List Call → ℕ → ℕ → List ℕ → ℕ
next_of drawing history caller start [] = right_end drawing
next_of drawing history caller start (position ∷ shown) =
    min (next_at drawing caller start (slice_get history position)) (next_of drawing history caller start shown)

-- the word for what a call did, over its bar, cut where the next one starts
unfoldable pub word_text : Drawing → ℕ → Call → List ℕ
word_text drawing room call =
    codes "<svg " ++ (place_text (x_of drawing call.start) (y_of drawing call.caller - 16) room 16 ++ (codes "><text y=\"12\">" ++ (act_name call.act
    ++ codes "</text></svg>\n")))

-- the word for what a call did, unless it has a label
abbrev pub words_over : Drawing → ℕ → Bool → Call → List ℕ
words_over drawing room marked call = if marked then [] else word_text drawing room call

-- all that is said of a call
unfoldable pub title_text : List ℕ → ℕ → Call → List ℕ
title_text lines position call =
    label_of lines position ++ (codes ": " ++ (escaped (act_words call.act) ++ (codes ", from " ++ (decimal call.start ++ (codes " to " ++ end_words call.end)))))

-- the colour of a bar: of a call that matters blue for a write and red for a read, otherwise grey
abbrev pub act_colour : Act → List ℕ
act_colour (Put value expires) = codes "#7fb2e5"
act_colour Remove = codes "#7fb2e5"
act_colour (Hit value moment) = codes "#ee8a80"
act_colour Miss = codes "#ee8a80"

abbrev pub colour_for : Bool → Act → List ℕ
colour_for marked act = if marked then act_colour act else codes "#d4d4d4"

-- a box
unfoldable pub box_text : List ℕ → List ℕ → List ℕ → List ℕ
box_text place colour title =
    codes "<rect " ++ (place ++ (codes " rx=\"3\" fill=\"" ++ (colour ++ (codes "\" stroke=\"#444444\"><title>" ++ (title ++ codes "</title></rect>\n")))))

-- where the bar of a call lies: from its start to its end, in its caller's row, and not too narrow to be seen
abbrev pub bar_place : Drawing → Call → List ℕ
bar_place drawing call =
    place_text (min (x_of drawing call.start) (x_of drawing call.end)) (y_of drawing call.caller)
    (max (max (x_of drawing call.start) (x_of drawing call.end) - min (x_of drawing call.start) (x_of drawing call.end)) 6) 16

-- the bar of a call, with what it did above it if it has no label
unfoldable pub bar_drawn : List ℕ → Drawing → ℕ → Bool → ℕ → Call → List ℕ
bar_drawn lines drawing room marked position call =
    words_over drawing room marked call ++ box_text (bar_place drawing call) (colour_for marked call.act) (title_text lines position call)

-- the bar of the call at a position, if there is one
abbrev pub bar_of : List Call → List ℕ → Drawing → List ℕ → List ℕ → ℕ → Option Call → List ℕ
bar_of history lines drawing marks shown position None = []
bar_of history lines drawing marks shown position (Some call) =
    bar_drawn lines drawing (next_of drawing history call.caller call.start shown - x_of drawing call.start) (is_marked marks position) position call

unfoldable pub bar_at : List Call → List ℕ → Drawing → List ℕ → List ℕ → ℕ → List ℕ
bar_at history lines drawing marks shown position = bar_of history lines drawing marks shown position (slice_get history position)

-- how a curve leaves the end of a call, to the right
unfoldable pub leaving_text : ℕ → ℕ → List ℕ
leaving_text first top = codes "M " ++ (decimal first ++ (codes " " ++ (decimal top ++ (codes " C " ++ (decimal (first + 24) ++ (codes " " ++ decimal top))))))

-- how it comes to the start of another, from the left
unfoldable pub reaching_text : ℕ → ℕ → List ℕ
reaching_text last bottom = decimal (last - 24) ++ (codes " " ++ (decimal bottom ++ (codes " " ++ (decimal last ++ (codes " " ++ decimal bottom)))))

-- a curve with a point at its end
unfoldable pub curve_text : ℕ → ℕ → ℕ → ℕ → List ℕ
curve_text first top last bottom =
    codes "<path d=\"" ++ (leaving_text first top ++ (codes " " ++ (reaching_text last bottom
    ++ codes "\" fill=\"none\" stroke=\"#b3261e\" stroke-width=\"2\" marker-end=\"url(#point)\"/>\n")))

-- an arrow from the end of a call to the start of another, if the one precedes the other
abbrev pub arrow_between : Drawing → Option Call → Option Call → List ℕ
arrow_between drawing (Some from) (Some to) =
    if nat_lt from.end to.start
    then curve_text (x_of drawing from.end) (y_of drawing from.caller + 8) (x_of drawing to.start) (y_of drawing to.caller + 8)
    else []
arrow_between drawing (Some from) None = []
arrow_between drawing None to = []

unfoldable pub arrow_text : List Call → Drawing → Arrow → List ℕ
arrow_text history drawing arrow = arrow_between drawing (slice_get history arrow.from) (slice_get history arrow.to)

-- a sign of the sentence, which stands on lines
abbrev pub sign_text : ℕ → List ℕ
sign_text sign = if sign == 10 then codes "</tspan>\n<tspan x=\"16\" dy=\"18\">" else escape_of sign

-- what a picture begins with: its size, the point of an arrow, a white ground, and the lines of the sentence
unfoldable pub head_text : Drawing → List ℕ → List ℕ
head_text drawing sentence =
    codes "<svg xmlns=\"http://www.w3.org/2000/svg\" width=\"" ++ (decimal (width_of drawing) ++ (codes "\" height=\"" ++ (decimal (height_of drawing)
    ++ (codes "\" font-family=\"monospace\" font-size=\"13\">\n<defs><marker id=\"point\" viewBox=\"0 0 8 8\" refX=\"8\" refY=\"4\" markerWidth=\"7\" markerHeight=\"7\" orient=\"auto\"><path d=\"M 0 0 L 8 4 L 0 8 z\" fill=\"#b3261e\"/></marker></defs>\n<rect width=\"100%\" height=\"100%\" fill=\"#ffffff\"/>\n<text y=\"6\"><tspan x=\"16\" dy=\"18\">"
    ++ (sentence ++ codes "</tspan></text>\n")))))

-- the calls: the labels of those that matter, and a bar for each
unfoldable pub calls_text : List Call → List ℕ → Drawing → List ℕ → List ℕ → List ℕ
calls_text history lines drawing marks shown =
    flat_map (label_at history lines drawing marks shown) shown ++ flat_map (bar_at history lines drawing marks shown) shown

-- a picture: its head, the axis, a row for each caller, the calls, and the arrows
unfoldable pub picture_text : List Call → List ℕ → List (List ℕ) → List ℕ → Drawing → List ℕ → List ℕ → List Arrow → List ℕ
picture_text history lines callers sentence drawing marks shown arrows =
    head_text drawing (flat_map sign_text sentence) ++ (axis_text drawing ++ (flat_map (caller_row callers drawing) drawing.callers.items
    ++ (calls_text history lines drawing marks shown ++ (flat_map (arrow_text history drawing) arrows ++ codes "</svg>\n"))))
