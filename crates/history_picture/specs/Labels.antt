-- The labels of the calls that matter, each on a line of its own.
use Rattle.std.specs.Prelude.{ℕ, ◌+◌, ◌-◌, ◌*◌, List, [], ◌++◌, Bool, ◌==◌, ◌&&◌, ◌||◌, nat_lt, min, codes, length, count_by, slice_get, Option, Some, None, if◌then◌else◌}
use Rattle.std.specs.List.{list_any}
use Rattle.trace_file.specs.declared.call.Call.{Call}
use Rattle.history_picture.specs.Layout.{down_text, escaped, width_of, words_text, x_of, y_of}
use Rattle.history_picture.specs.Naming.{act_words, label_of}
use Rattle.history_picture.specs.Shown.{started}
use Rattle.history_picture.specs.declared.drawing.Drawing.{Drawing}

-- whether a call matters
abbrev pub is_marked : List ℕ → ℕ → Bool
is_marked marks position = list_any (λ mark. mark == position) marks

-- the call at a position matters, and is labelled before another: it starts earlier, or at the same stamp and its position is lower
abbrev pub is_before : List Call → List ℕ → ℕ → ℕ → Bool
is_before history marks position other =
    is_marked marks other && (nat_lt (started history other) (started history position) || ((started history other == started history position) && nat_lt other position))

-- the line of a label: how many labels stand before it
abbrev pub label_line : List Call → List ℕ → List ℕ → ℕ → ℕ
label_line history marks shown position = count_by (is_before history marks position) shown

-- where a label's letters stand: each label has a line of its own, under the sentence
abbrev pub base_of : Drawing → ℕ → ℕ
base_of drawing line = 18 * (drawing.feeds + line) + 46

-- what the label of a call says: where it was recorded, and what it did
unfoldable pub label_words_of : List ℕ → ℕ → Call → List ℕ
label_words_of lines position call = label_of lines position ++ (codes ": " ++ act_words call.act)

-- a label: its words, whole, over its bar or as far to the right as they have room, and a line down to the bar
unfoldable pub label_text : Drawing → ℕ → Call → List ℕ → List ℕ
label_text drawing line call words =
    down_text (x_of drawing call.start) (base_of drawing line + 4) (y_of drawing call.caller) (codes "#9a9a9a")
    ++ words_text (min (x_of drawing call.start) (width_of drawing - (8 * length words + 16))) (base_of drawing line) (escaped words)

-- the label of a call, if it is there and matters
abbrev pub label_for : List ℕ → Drawing → ℕ → Bool → ℕ → Option Call → List ℕ
label_for lines drawing line marked position None = []
label_for lines drawing line marked position (Some call) = if marked then label_text drawing line call (label_words_of lines position call) else []

unfoldable pub label_at : List Call → List ℕ → Drawing → List ℕ → List ℕ → ℕ → List ℕ
label_at history lines drawing marks shown position =
    label_for lines drawing (label_line history marks shown position) (is_marked marks position) position (slice_get history position)
