-- The objects of the calls that a reason speaks of.
use Rattle.std.specs.Prelude.{ℕ, Bool, true, false, nat_lt, List, [], ◌∷◌, ◌++◌, codes, map, Option, Some, None, slice_get}
use Rattle.trace_file.specs.declared.act.Act.{Act}
use Rattle.trace_file.specs.declared.act.Act.TheVariants.{Put, Remove, Hit, Miss}
use Rattle.trace_file.specs.declared.call.Call.{Call}
use Rattle.certificate_finder.specs.declared.witness.Witness.{Witness}
use Rattle.figures.specs.declared.form.Form.{Form}
use Rattle.figures.specs.declared.form.Form.TheVariants.{Lines, Json}
use Rattle.figures.specs.Figures.{Row, number, row, word}
use Rattle.history_text.specs.Coding.{word_of}
use Rattle.judge_run.specs.Objects.{object_of, with_objects}
use Rattle.judge_run.specs.Telling.{ascending, witness_positions}

-- the word of an act
abbrev pub act_word : Act → List ℕ
act_word (Put value expires) = codes "put"
act_word Remove = codes "remove"
act_word (Hit value moment) = codes "hit"
act_word Miss = codes "miss"

-- a value, as a text writes it
abbrev pub value_rows : List ℕ → List Row
value_rows value = row (codes "value") (word (word_of value)) ∷ []

-- the value of an act, if it has one
abbrev pub act_rows : Act → List Row
act_rows (Put value expires) = value_rows value
act_rows Remove = []
act_rows (Hit value moment) = value_rows value
act_rows Miss = []

-- what a call did, when, and with which value
abbrev pub call_rows : Call → List Row
call_rows call =
    row (codes "kind") (word (act_word call.act))
    ∷ row (codes "key") (word (word_of call.key))
    ∷ row (codes "start") (number call.start)
    ∷ row (codes "end") (number call.end)
    ∷ act_rows call.act

-- what the line of a call tells: where it was recorded, or where a value that was there from the start was read first
abbrev pub line_name : Bool → List ℕ
line_name true = codes "line"
line_name false = codes "from-start-line"

-- the line of a call, if it has one, and whether the call was recorded
abbrev pub line_rows : Bool → Option ℕ → List Row
line_rows is_recorded None = []
line_rows is_recorded (Some line) = row (line_name is_recorded) (number line) ∷ []

-- a call, if there is one
abbrev pub call_rows_of : Option Call → List Row
call_rows_of None = []
call_rows_of (Some call) = call_rows call

-- the object of the call at a position, if so many calls were recorded
abbrev pub call_object : List Call → List ℕ → ℕ → ℕ → List ℕ
call_object calls lines recorded position =
    object_of (line_rows (nat_lt position recorded) (slice_get lines position) ++ call_rows_of (slice_get calls position))

-- the calls that a reason speaks of, in the order of the history, each once
abbrev pub told_positions : Witness → List ℕ
told_positions witness = ascending (witness_positions witness)

-- an answer that was begun with a reason, with a member more, which lists the objects of the calls that it speaks of; nothing more after a line
abbrev pub with_calls : Form → List Call → List ℕ → ℕ → Witness → List ℕ → List ℕ
with_calls Lines calls lines recorded witness begun = begun
with_calls Json calls lines recorded witness begun =
    with_objects begun (codes "calls-of-fault") (map (call_object calls lines recorded) (told_positions witness))
