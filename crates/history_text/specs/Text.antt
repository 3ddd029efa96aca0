-- The history that a text spells, or its first bad line.
use Rattle.std.specs.Prelude.{ℕ, suc, Bool, true, ◌&&◌, ◌==◌, nat_lt, List, [], ◌∷◌, ◌++◌, length, if◌then◌else◌, Result, Ok, Err}
use Rattle.std.specs.List.{list_any, position_or_len}
use Rattle.std.specs.Str.{bytes_eq}
use Rattle.trace_file.specs.declared.call.Call.{Call}
use Rattle.script_words.specs.Lines.{lines_of}
use Rattle.history_text.specs.declared.bad_line.BadLine.{BadLine}
use Rattle.history_text.specs.declared.line_cause.LineCause.{LineCause}
use Rattle.history_text.specs.declared.line_cause.LineCause.TheVariants.{TooLong, TooManyLines, TooManyCalls, TooManyCallers}
use Rattle.history_text.specs.declared.reading.Reading.{Reading}
use Rattle.history_text.specs.Readings.{is_in_share, is_of_line}
use Rattle.history_text.specs.Spelling.{Spelled, spelled_of, ◌>>=◌}

-- a history, with the line of each call, and its callers' names in the order in which they first appear
pub record Text : Type 0 where
  pub calls : List Call
  pub lines : List ℕ
  pub callers : List (List ℕ)

-- the text with these parts
abbrev pub text_by : List Call → List ℕ → List (List ℕ) → Text
text_by calls lines callers = record { calls = calls; lines = lines; callers = callers }

-- what no lines spell
abbrev pub no_text : Text
no_text = record { calls = []; lines = []; callers = [] }

-- a caller's number: the index of the name, or how many there are if it is new
unfoldable pub number_of : List (List ℕ) → List ℕ → ℕ
number_of callers name = position_or_len (bytes_eq name) callers

-- the names, with this one after them if it is new
unfoldable pub noted : List (List ℕ) → List ℕ → List (List ℕ)
noted callers name = if list_any (bytes_eq name) callers then callers else callers ++ name ∷ []

-- the call of a caller with this number
abbrev pub call_by : ℕ → Spelled → Call
call_by caller s = record { caller = caller; start = s.start; end = s.end; key = s.key; act = s.act }

-- whether there is room for a call after so many: in a history, which has at most those of the longest trace, or without end
abbrev pub Room : Type 0
Room = ℕ → Bool

abbrev pub of_history : Room
of_history count = nat_lt count 268435456

abbrev pub endless : Room
endless count = true

-- the text with one call more, which stands on this line, if there is room for it
unfoldable pub recorded : Room → Text → ℕ → Spelled → Result Text LineCause
recorded room text number s =
    let caller = number_of text.callers s.caller in
    if room (length text.calls)
    then (if nat_lt caller 65536
    then Ok (record { calls = text.calls ++ call_by caller s ∷ []; lines = text.lines ++ number ∷ []; callers = noted text.callers s.caller })
    else Err TooManyCallers)
    else Err TooManyCalls

-- the same, if its key is one of those whose calls are read; otherwise the text stays as it is
unfoldable pub recorded_if : Room → Reading → Text → ℕ → Spelled → Result Text LineCause
recorded_if room how text number s = if is_in_share how.share s.key then recorded room text number s else Ok text

-- a line is passed over: it is empty, or begins with #
abbrev pub is_passed_over : List ℕ → Bool
is_passed_over [] = true
is_passed_over (b ∷ rest) = b == 35

-- the text with one line more, of this number
unfoldable pub after_line : Room → Reading → Text → ℕ → List ℕ → Result Text LineCause
after_line room how text number line =
    if nat_lt 8192 (length line) then Err TooLong
    else (if nat_lt 9223372036854775807 number then Err TooManyLines
    else (if is_passed_over line then Ok text
    else (spelled_of line >>= recorded_if room how text number)))

-- what was read so far: a history, and how many bad lines were passed over
pub record TextRead : Type 0 where
  pub text : Text
  pub skipped : ℕ

-- what was read, with these parts
abbrev pub read_by : Text → ℕ → TextRead
read_by text skipped = record { text = text; skipped = skipped }

-- what is read after a line: the text with it; or, if it is bad and may be passed over, the text as it was
abbrev pub passing : Reading → TextRead → Result Text LineCause → Result TextRead LineCause
passing how read (Ok text) = Ok (read_by text read.skipped)
passing how read (Err cause) = if how.skip_bad && is_of_line cause then Ok (read_by read.text (suc read.skipped)) else Err cause

-- what is read with one line more, of this number
abbrev pub with_line : Room → Reading → TextRead → ℕ → List ℕ → Result TextRead LineCause
with_line room how read number line = passing how read (after_line room how read.text number line)

-- what is read after a line: its cause if it is a fault, otherwise what the rest is
abbrev pub by_line : ℕ → Result TextRead LineCause → (TextRead → Result TextRead BadLine) → Result TextRead BadLine
by_line number (Ok read) rest = rest read
by_line number (Err cause) rest = Err (record { number = number; cause = cause })

-- what is read with these lines more, the first of which has this number, or the first bad one
abbrev pub read_from : Room → Reading → TextRead → ℕ → List (List ℕ) → Result TextRead BadLine
read_from room how read number [] = Ok read
read_from room how read number (line ∷ lines) =
    by_line number (with_line room how read number line) (λ r. read_from room how r (suc number) lines)

-- what is read of bytes line by line, into a history
abbrev pub text_of : Reading → List ℕ → Result TextRead BadLine
text_of how bytes = read_from of_history how (read_by no_text 0) 1 (lines_of bytes)

-- the same with no bound on the number of calls
abbrev pub calls_of : Reading → List ℕ → Result TextRead BadLine
calls_of how bytes = read_from endless how (read_by no_text 0) 1 (lines_of bytes)
