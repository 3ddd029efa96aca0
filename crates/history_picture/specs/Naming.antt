-- How a sentence speaks of a call.
use Rattle.std.specs.Prelude.{ℕ, List, ◌++◌, codes, Option, Some, None, slice_get}
use Rattle.std.specs.Fmt.{decimal}
use Rattle.trace_file.specs.Calls.{time_of}
use Rattle.trace_file.specs.declared.act.Act.{Act}
use Rattle.trace_file.specs.declared.act.Act.TheVariants.{Put, Remove, Hit, Miss}
use Rattle.trace_file.specs.declared.call.Call.{Call}
use Rattle.history_picture.specs.Coding.{shown_word}

-- where a call was recorded: its line if it has one, otherwise its position
abbrev pub label_words : Option ℕ → ℕ → List ℕ
label_words (Some line) position = codes "line " ++ decimal line
label_words None position = codes "position " ++ decimal position

-- where the call at a position was recorded
abbrev pub label_of : List ℕ → ℕ → List ℕ
label_of lines position = label_words (slice_get lines position) position

-- what a call did
abbrev pub act_words : Act → List ℕ
act_words (Put value expires) = codes "put " ++ shown_word value
act_words Remove = codes "the removal"
act_words (Hit value moment) = codes "the hit of " ++ shown_word value
act_words Miss = codes "the miss"

-- a call, if it is there, by what it did and where it was recorded
abbrev pub call_words : Option Call → List ℕ → List ℕ
call_words (Some call) label = act_words call.act ++ (codes " (" ++ (label ++ codes ")"))
call_words None label = codes "a call that is not there (" ++ (label ++ codes ")")

-- the start of a call, 0 if there is none
abbrev pub start_of : Option Call → ℕ
start_of (Some call) = call.start
start_of None = 0

-- the end of a call, 0 if there is none
abbrev pub end_of : Option Call → ℕ
end_of (Some call) = call.end
end_of None = 0

-- the time that a call speaks of, 0 if there is none
abbrev pub moment_of : Option Call → ℕ
moment_of (Some call) = time_of call.act
moment_of None = 0

-- the call at a position, in words
unfoldable pub name_of : List Call → List ℕ → ℕ → List ℕ
name_of history lines position = call_words (slice_get history position) (label_of lines position)
