-- The lines of the calls that are shown.
use Rattle.std.specs.Prelude.{ℕ, ◌-◌, List, [], ◌++◌, ◌==◌, nat_lt, codes, length, replicate, count_by, slice_get, Option, Some, None, if◌then◌else◌}
use Rattle.std.specs.Fmt.{decimal}
use Rattle.std.specs.List.{list_any}
use Rattle.trace_file.specs.declared.act.Act.{Act}
use Rattle.trace_file.specs.declared.act.Act.TheVariants.{Put, Remove, Hit, Miss}
use Rattle.trace_file.specs.declared.call.Call.{Call}
use Rattle.history_picture.specs.Coding.{shown_word}
use Rattle.history_picture.specs.declared.sheet.Sheet.{Sheet}

-- a word with spaces after it, up to a width
unfoldable pub left : ℕ → List ℕ → List ℕ
left width word = word ++ replicate (width - length word) 32

-- a word with spaces before it, up to a width
unfoldable pub right : ℕ → List ℕ → List ℕ
right width word = replicate (width - length word) 32 ++ word

-- the end of a call that never returned
abbrev pub never_ended : ℕ
never_ended = 18446744073709551615

-- the column of a stamp: how many of the stamps are below it
unfoldable pub column : List ℕ → ℕ → ℕ
column stamps stamp = count_by (λ other. nat_lt other stamp) stamps

-- the bar of a call that starts in a column and ends in another: a bar from the one to the other, if it ends before it starts a bar with its ends turned
abbrev pub bar_between : ℕ → ℕ → List ℕ
bar_between first last =
    if nat_lt first last then replicate first 32 ++ (codes "[" ++ (replicate (last - first - 1) 61 ++ codes "]"))
    else (if nat_lt last first then replicate last 32 ++ (codes "]" ++ (replicate (first - last - 1) 61 ++ codes "["))
    else replicate first 32 ++ codes "|")

-- the bar of a call, on and on if it never returned
unfoldable pub bar_text : List ℕ → ℕ → ℕ → List ℕ
bar_text stamps start end =
    if end == never_ended
    then replicate (column stamps start) 32 ++ (codes "[" ++ (replicate (length stamps - column stamps start) 61 ++ codes ">"))
    else bar_between (column stamps start) (column stamps end)

-- the number that tells where a call was recorded: its line if it has one, otherwise its position
abbrev pub label_number : Option ℕ → ℕ → ℕ
label_number (Some line) position = line
label_number None position = position

-- the end of a call, a hyphen if it never returned
abbrev pub end_words : ℕ → List ℕ
end_words end = if end == never_ended then codes "-" else decimal end

-- a caller by its name if it has one, otherwise by its number
abbrev pub caller_words : Option (List ℕ) → ℕ → List ℕ
caller_words (Some name) number = shown_word name
caller_words None number = decimal number

-- what was done
abbrev pub act_name : Act → List ℕ
act_name (Put value expires) = codes "put"
act_name Remove = codes "remove"
act_name (Hit value moment) = codes "hit"
act_name Miss = codes "miss"

-- the value that was put or read
abbrev pub value_words : Act → List ℕ
value_words (Put value expires) = shown_word value
value_words Remove = []
value_words (Hit value moment) = shown_word value
value_words Miss = []

-- an asterisk if the call matters
abbrev pub mark_words : List ℕ → ℕ → List ℕ
mark_words marks position = if list_any (λ mark. mark == position) marks then codes "* " else codes "  "

-- the stamps of a call
unfoldable pub times_text : Sheet → ℕ → ℕ → List ℕ
times_text sheet start end = right sheet.starts (decimal start) ++ (codes "  " ++ right sheet.ends (end_words end))

-- where a call was recorded, who made it, and its stamps
unfoldable pub front_text : List ℕ → List (List ℕ) → Sheet → ℕ → Call → List ℕ
front_text lines callers sheet position call =
    right sheet.labels (decimal (label_number (slice_get lines position) position)) ++ (codes "  "
    ++ (left sheet.callers (caller_words (slice_get callers call.caller) call.caller) ++ (codes "  " ++ times_text sheet call.start call.end)))

-- what a call did, and its bar
unfoldable pub back_text : Sheet → Call → List ℕ
back_text sheet call =
    left 6 (act_name call.act) ++ (codes " " ++ (left sheet.values (value_words call.act) ++ (codes "  "
    ++ bar_text sheet.stamps.items call.start call.end)))

-- the line of a call, or nothing if there is no call
abbrev pub line_of : List ℕ → List (List ℕ) → List ℕ → Sheet → ℕ → Option Call → List ℕ
line_of lines callers marks sheet position None = []
line_of lines callers marks sheet position (Some call) =
    mark_words marks position ++ (front_text lines callers sheet position call ++ (codes "  " ++ (back_text sheet call ++ codes "\n")))

-- the line of the call at a position
unfoldable pub row_text : List Call → List ℕ → List (List ℕ) → List ℕ → Sheet → ℕ → List ℕ
row_text history lines callers marks sheet position = line_of lines callers marks sheet position (slice_get history position)
