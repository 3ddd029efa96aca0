-- The lines of calls in a page: those of the text of a history, each after the number of the line where the call was recorded.
use Rattle.std.specs.Prelude.{ℕ, Bool, true, false, nat_lt, List, [], ◌++◌, Option, Some, None, codes, length, slice_get}
use Rattle.std.specs.Fmt.{decimal}
use Rattle.std.specs.List.{flat_map, range_with_len}
use Rattle.trace_file.specs.declared.call.Call.{Call}
use Rattle.history_text.specs.Coding.{word_of}
use Rattle.history_text.specs.Writing.{act_text, end_text}

-- the number of the line of the call at a position, and its position if it has no line
abbrev pub line_number : Option ℕ → ℕ → ℕ
line_number (Some line) position = line
line_number None position = position

-- a line's number as a word; a plus before it says that the call was not recorded: its value was there from the start, and read first in that line
abbrev pub line_word : Bool → ℕ → List ℕ
line_word true line = decimal line
line_word false line = codes "+" ++ decimal line

-- a caller by its name as a word, or by its number if it has no name
abbrev pub caller_word : Option (List ℕ) → ℕ → List ℕ
caller_word (Some name) caller = word_of name
caller_word None caller = decimal caller

-- what the line of a call begins with: the line where it was recorded, its caller and its stamps
unfoldable pub front_text : List (List ℕ) → Bool → ℕ → Call → List ℕ
front_text names is_recorded line call =
    line_word is_recorded line
    ++ (codes " "
    ++ (caller_word (slice_get names call.caller) call.caller
    ++ (codes " " ++ (decimal call.start ++ (codes " " ++ end_text call.end)))))

-- the line of a call, with its line feed: after the number it is as in the text of a history
abbrev pub call_line : List (List ℕ) → Bool → ℕ → Call → List ℕ
call_line names is_recorded line call = act_text (front_text names is_recorded line call) (word_of call.key) call.act

-- the line of a call, if there is one
abbrev pub line_of : List (List ℕ) → Bool → ℕ → Option Call → List ℕ
line_of names is_recorded line (Some call) = call_line names is_recorded line call
line_of names is_recorded line None = []

-- the line of the call at a position, if so many calls were recorded
abbrev pub line_at : List Call → List ℕ → List (List ℕ) → ℕ → ℕ → List ℕ
line_at history lines names recorded position =
    line_of names (nat_lt position recorded) (line_number (slice_get lines position) position) (slice_get history position)

-- the lines of all calls
abbrev pub calls_text : List Call → List ℕ → List (List ℕ) → ℕ → List ℕ
calls_text history lines names recorded = flat_map (line_at history lines names recorded) (range_with_len 0 (length history))
