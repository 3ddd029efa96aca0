-- What is drawn is plain.
use Rattle.std.proofs.Common.{◌≡◌, ℕ, ◌+◌, ◌-◌, List, ◌++◌, Bool, true, refl, Option, Some, None}
use Rattle.std.specs.Prelude.{◌==◌, codes, nat_lt, slice_get}
use Rattle.std.specs.Fmt.{decimal}
use Rattle.std.specs.List.{list_all}
use Rattle.trace_file.specs.declared.act.Act.{Act}
use Rattle.trace_file.specs.declared.act.Act.TheVariants.{Put, Remove, Hit, Miss}
use Rattle.trace_file.specs.declared.call.Call.{Call}
use Rattle.history_picture.specs.Naming.{act_words}
use Rattle.history_picture.specs.Axes.{axis_text, caption_text, caption_words, tick_text, turned_text}
use Rattle.history_picture.specs.Labels.{label_at, label_for, label_text}
use Rattle.history_picture.specs.Layout.{down_text, first_stamp, line_text, place_text, words_text}
use Rattle.history_picture.specs.Pictures.{act_colour, arrow_between, arrow_text, bar_at, bar_drawn, bar_of, box_text, caller_row, calls_text, colour_for, curve_text, head_text, leaving_text, picture_text, reaching_text, sign_text, title_text, word_text, words_over}
use Rattle.history_picture.specs.Plain.{IsPlain, is_plain}
use Rattle.history_picture.specs.Rows.{caller_words}
use Rattle.history_picture.specs.declared.arrows.Arrow.{Arrow}
use Rattle.history_picture.specs.declared.drawing.Drawing.{Drawing}
use Rattle.history_picture.proofs.PlainLaws.{plain_append, plain_decimal, plain_flat_map, plain_lit, plain_nil}
use Rattle.history_picture.proofs.PlainTexts.{plain_act_name, plain_end, plain_escape, plain_escaped, plain_if, plain_label}

-- a text that passes, then more
lit : (text rest : List ℕ) → list_all is_plain text ≡ true → IsPlain rest → IsPlain (text ++ rest)
lit text rest passes p = plain_append text rest (plain_lit text passes) p

-- a number, then more
number : (n : ℕ) (rest : List ℕ) → IsPlain rest → IsPlain (decimal n ++ rest)
number n rest p = plain_append (decimal n) rest (plain_decimal n) p

plain_place : (left top width height : ℕ) → IsPlain (place_text left top width height)
unfolding place_text
plain_place left top width height =
    lit (codes "x=\"") _ refl (number left _ (lit (codes "\" y=\"") _ refl (number top _ (lit (codes "\" width=\"") _ refl (number width _ (lit (codes "\" height=\"") _ refl (number height _ (plain_lit (codes "\"") refl))))))))

plain_line : (left top right : ℕ) → IsPlain (line_text left top right)
unfolding line_text
plain_line left top right = lit (codes "<path d=\"M ") _ refl (number left _ (lit (codes " ") _ refl (number top _ (lit (codes " H ") _ refl (number right _ (plain_lit (codes "\" stroke=\"#e4e4e4\"/>\n") refl))))))

plain_words_text : (left base : ℕ) (words : List ℕ) → IsPlain words → IsPlain (words_text left base words)
unfolding words_text
plain_words_text left base words p = lit (codes "<text x=\"") _ refl (number left _ (lit (codes "\" y=\"") _ refl (number base _ (lit (codes "\">") _ refl (plain_append words _ p (plain_lit (codes "</text>\n") refl))))))

plain_down : (x top bottom : ℕ) (colour : List ℕ) → IsPlain colour → IsPlain (down_text x top bottom colour)
unfolding down_text
plain_down x top bottom colour p = lit (codes "<path d=\"M ") _ refl (number x _ (lit (codes " ") _ refl (number top _ (lit (codes " V ") _ refl (number bottom _ (lit (codes "\" stroke=\"") _ refl (plain_append colour _ p (plain_lit (codes "\"/>\n") refl))))))))

plain_turned : (x top n : ℕ) → IsPlain (turned_text x top n)
unfolding turned_text
plain_turned x top n = lit (codes "<text transform=\"translate(") _ refl (number x _ (lit (codes " ") _ refl (number top _ (lit (codes ") rotate(90)\">") _ refl (number n _ (plain_lit (codes "</text>\n") refl))))))

plain_tick : (drawing : Drawing) (stamp : ℕ) → IsPlain (tick_text drawing stamp)
unfolding tick_text
plain_tick drawing stamp = plain_append _ _ (plain_down _ _ _ (codes "#eeeeee") (plain_lit (codes "#eeeeee") refl)) (plain_turned _ _ _)

plain_caption_words : (first : ℕ) → IsPlain (caption_words first)
unfolding caption_words
plain_caption_words first = lit (codes "the time after stamp ") _ refl (number first _ (plain_lit (codes ": in order, and not to scale") refl))

plain_caption : (drawing : Drawing) → IsPlain (caption_text drawing)
plain_caption drawing = plain_words_text _ _ _ (plain_caption_words (first_stamp drawing))

plain_axis : (drawing : Drawing) → IsPlain (axis_text drawing)
unfolding axis_text
plain_axis drawing = plain_append _ _ (plain_flat_map (tick_text drawing) drawing.sheet.stamps.items (plain_tick drawing)) (plain_caption drawing)

plain_caller_row : (callers : List (List ℕ)) (drawing : Drawing) (caller : ℕ) → IsPlain (caller_row callers drawing caller)
unfolding caller_row
plain_caller_row callers drawing caller = plain_append _ _ (plain_line _ _ _) (plain_words_text _ _ _ (plain_escaped (caller_words (slice_get callers caller) caller)))

plain_word_text : (drawing : Drawing) (room : ℕ) (call : Call) → IsPlain (word_text drawing room call)
unfolding word_text
plain_word_text drawing room call =
    lit (codes "<svg ") _ refl (plain_append _ _ (plain_place _ _ _ _) (lit (codes "><text y=\"12\">") _ refl (plain_append _ _ (plain_act_name call.act) (plain_lit (codes "</text></svg>\n") refl))))

plain_words_over : (drawing : Drawing) (room : ℕ) (marked : Bool) (call : Call) → IsPlain (words_over drawing room marked call)
plain_words_over drawing room marked call = plain_if marked _ _ plain_nil (plain_word_text drawing room call)

plain_label_text : (drawing : Drawing) (line : ℕ) (call : Call) (words : List ℕ) → IsPlain (label_text drawing line call words)
unfolding label_text
plain_label_text drawing line call words = plain_append _ _ (plain_down _ _ _ (codes "#9a9a9a") (plain_lit (codes "#9a9a9a") refl)) (plain_words_text _ _ _ (plain_escaped words))

plain_label_for : (lines : List ℕ) (drawing : Drawing) (line : ℕ) (marked : Bool) (position : ℕ) (call : Option Call) → IsPlain (label_for lines drawing line marked position call)
plain_label_for lines drawing line marked position None = plain_nil
plain_label_for lines drawing line marked position (Some call) = plain_if marked _ _ (plain_label_text drawing line call _) plain_nil

plain_label_at : (history : List Call) (lines : List ℕ) (drawing : Drawing) (marks shown : List ℕ) (position : ℕ) → IsPlain (label_at history lines drawing marks shown position)
unfolding label_at
plain_label_at history lines drawing marks shown position = plain_label_for lines drawing _ _ position (slice_get history position)

plain_title : (lines : List ℕ) (position : ℕ) (call : Call) → IsPlain (title_text lines position call)
unfolding title_text
plain_title lines position call =
    plain_append _ _ (plain_label lines position) (lit (codes ": ") _ refl (plain_append _ _ (plain_escaped (act_words call.act)) (lit (codes ", from ") _ refl (number call.start _ (lit (codes " to ") _ refl (plain_end call.end))))))

plain_act_colour : (act : Act) → IsPlain (act_colour act)
plain_act_colour (Put value expires) = plain_lit (codes "#7fb2e5") refl
plain_act_colour Remove = plain_lit (codes "#7fb2e5") refl
plain_act_colour (Hit value moment) = plain_lit (codes "#ee8a80") refl
plain_act_colour Miss = plain_lit (codes "#ee8a80") refl

plain_colour : (marked : Bool) (act : Act) → IsPlain (colour_for marked act)
plain_colour marked act = plain_if marked _ _ (plain_act_colour act) (plain_lit (codes "#d4d4d4") refl)

plain_box : (place colour title : List ℕ) → IsPlain place → IsPlain colour → IsPlain title → IsPlain (box_text place colour title)
unfolding box_text
plain_box place colour title p c t =
    lit (codes "<rect ") _ refl (plain_append place _ p (lit (codes " rx=\"3\" fill=\"") _ refl (plain_append colour _ c (lit (codes "\" stroke=\"#444444\"><title>") _ refl (plain_append title _ t (plain_lit (codes "</title></rect>\n") refl))))))

plain_bar_drawn : (lines : List ℕ) (drawing : Drawing) (room : ℕ) (marked : Bool) (position : ℕ) (call : Call) → IsPlain (bar_drawn lines drawing room marked position call)
unfolding bar_drawn
plain_bar_drawn lines drawing room marked position call =
    plain_append _ _ (plain_words_over drawing room marked call) (plain_box _ _ _ (plain_place _ _ _ _) (plain_colour marked call.act) (plain_title lines position call))

plain_bar_of : (history : List Call) (lines : List ℕ) (drawing : Drawing) (marks shown : List ℕ) (position : ℕ) (call : Option Call) → IsPlain (bar_of history lines drawing marks shown position call)
plain_bar_of history lines drawing marks shown position None = plain_nil
plain_bar_of history lines drawing marks shown position (Some call) = plain_bar_drawn lines drawing _ _ position call

plain_bar_at : (history : List Call) (lines : List ℕ) (drawing : Drawing) (marks shown : List ℕ) (position : ℕ) → IsPlain (bar_at history lines drawing marks shown position)
unfolding bar_at
plain_bar_at history lines drawing marks shown position = plain_bar_of history lines drawing marks shown position (slice_get history position)

plain_leaving : (first top : ℕ) → IsPlain (leaving_text first top)
unfolding leaving_text
plain_leaving first top = lit (codes "M ") _ refl (number first _ (lit (codes " ") _ refl (number top _ (lit (codes " C ") _ refl (number (first + 24) _ (lit (codes " ") _ refl (plain_decimal top)))))))

plain_reaching : (last bottom : ℕ) → IsPlain (reaching_text last bottom)
unfolding reaching_text
plain_reaching last bottom = number (last - 24) _ (lit (codes " ") _ refl (number bottom _ (lit (codes " ") _ refl (number last _ (lit (codes " ") _ refl (plain_decimal bottom))))))

plain_curve : (first top last bottom : ℕ) → IsPlain (curve_text first top last bottom)
unfolding curve_text
plain_curve first top last bottom =
    lit (codes "<path d=\"") _ refl (plain_append _ _ (plain_leaving first top) (lit (codes " ") _ refl (plain_append _ _ (plain_reaching last bottom)
    (plain_lit (codes "\" fill=\"none\" stroke=\"#b3261e\" stroke-width=\"2\" marker-end=\"url(#point)\"/>\n") refl))))

plain_arrow_between : (drawing : Drawing) (from to : Option Call) → IsPlain (arrow_between drawing from to)
plain_arrow_between drawing (Some from) (Some to) = plain_if (nat_lt from.end to.start) _ _ (plain_curve _ _ _ _) plain_nil
plain_arrow_between drawing (Some from) None = plain_nil
plain_arrow_between drawing None to = plain_nil

plain_arrow : (history : List Call) (drawing : Drawing) (arrow : Arrow) → IsPlain (arrow_text history drawing arrow)
unfolding arrow_text
plain_arrow history drawing arrow = plain_arrow_between drawing (slice_get history arrow.from) (slice_get history arrow.to)

plain_sign : (sign : ℕ) → IsPlain (sign_text sign)
plain_sign sign = plain_if (sign == 10) _ _ (plain_lit (codes "</tspan>\n<tspan x=\"16\" dy=\"18\">") refl) (plain_escape sign)

plain_head : (drawing : Drawing) (sentence : List ℕ) → IsPlain sentence → IsPlain (head_text drawing sentence)
unfolding head_text
plain_head drawing sentence p =
    lit (codes "<svg xmlns=\"http://www.w3.org/2000/svg\" width=\"") _ refl (number _ _ (lit (codes "\" height=\"") _ refl (number _ _ (lit (codes "\" font-family=\"monospace\" font-size=\"13\">\n<defs><marker id=\"point\" viewBox=\"0 0 8 8\" refX=\"8\" refY=\"4\" markerWidth=\"7\" markerHeight=\"7\" orient=\"auto\"><path d=\"M 0 0 L 8 4 L 0 8 z\" fill=\"#b3261e\"/></marker></defs>\n<rect width=\"100%\" height=\"100%\" fill=\"#ffffff\"/>\n<text y=\"6\"><tspan x=\"16\" dy=\"18\">") _ refl (plain_append sentence _ p (plain_lit (codes "</tspan></text>\n") refl))))))

plain_calls : (history : List Call) (lines : List ℕ) (drawing : Drawing) (marks shown : List ℕ) → IsPlain (calls_text history lines drawing marks shown)
unfolding calls_text
plain_calls history lines drawing marks shown =
    plain_append _ _ (plain_flat_map (label_at history lines drawing marks shown) shown (plain_label_at history lines drawing marks shown))
    (plain_flat_map (bar_at history lines drawing marks shown) shown (plain_bar_at history lines drawing marks shown))

-- a picture is plain
pub plain_picture : (history : List Call) (lines : List ℕ) (callers : List (List ℕ)) (sentence : List ℕ) (drawing : Drawing) (marks shown : List ℕ) (arrows : List Arrow) → IsPlain (picture_text history lines callers sentence drawing marks shown arrows)
unfolding picture_text
plain_picture history lines callers sentence drawing marks shown arrows =
    plain_append _ _ (plain_head drawing _ (plain_flat_map sign_text sentence plain_sign)) (plain_append _ _ (plain_axis drawing) (plain_append _ _ (plain_flat_map (caller_row callers drawing) _ (plain_caller_row callers drawing))
    (plain_append _ _ (plain_calls history lines drawing marks shown)
    (plain_append _ _ (plain_flat_map (arrow_text history drawing) arrows (plain_arrow history drawing)) (plain_lit (codes "</svg>\n") refl)))))
