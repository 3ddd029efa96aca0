-- What taking a piece of a text does.
use Rattle.std.specs.Prelude.{◌≡◌, ◌≢◌, ℕ, ◌+◌, ◌≤◌, List, ◌++◌, length, Option, IfSome, IsSomeAnd, Ok, Err}
use Rattle.std.specs.Io.KnownBytes.{Consumes, prepend_known}
use Rattle.script_words.specs.Lines.{Ahead, feeds, lines_of}
use Rattle.trace_file.specs.declared.call.Call.{Call}
use Rattle.history_text.specs.declared.bad_line.BadLine.{BadLine}
use Rattle.history_text.specs.declared.line_cause.LineCause.TheVariants.{TooManyCalls}
use Rattle.history_text.specs.declared.read_text_fault.ReadTextFault.{ReadTextFault}
use Rattle.history_text.specs.declared.read_text_fault.ReadTextFault.TheVariants.{Bad, ReadFault, OutOfMemory, CountFull}
use Rattle.history_text.specs.declared.reading.Reading.{Reading}
use Rattle.history_text.specs.Outcome.{LeftFrom}
use Rattle.history_text.specs.Text.{Room, Text, TextRead, endless, of_history, read_by, read_from, text_by}

-- how far a text was read: how it is read, the number of its next line, how many bad lines were passed over, and what was read ahead
pub record Progress : Type 0 where
  pub reading : Reading
  pub number : ℕ
  pub skipped : ℕ
  pub ahead : Ahead

-- the bytes that are left to take, by those that a reader has left
abbrev pub left_of : Progress → Option (List ℕ) → Option (List ℕ)
left_of progress unread = prepend_known progress.ahead.bytes unread

-- with what was read so far, the bytes that were left give what those that are left now give with what is read now
abbrev pub GoesOn : Room → Reading → Option (List ℕ) → TextRead → ℕ → Option (List ℕ) → TextRead → ℕ → Type 0
GoesOn room how left read number rest other next =
    IfSome left (λ bytes. IsSomeAnd rest (λ others. read_from room how read number (lines_of bytes) ≡ read_from room how other next (lines_of others)))

-- the bytes that were left begin with these lines, and those that are left now are the rest
abbrev pub AreFirst : Option (List ℕ) → List (List ℕ) → Option (List ℕ) → Type 0
AreFirst left front rest = IfSome left (λ bytes. IsSomeAnd rest (λ others. lines_of bytes ≡ front ++ lines_of others))

-- whole lines were taken, none of them bad, and the text got the calls that they spell. Those are the same whichever calls it held before
pub record TakesPiece (left : Option (List ℕ)) (old : Progress) (held : Text) (rest : Option (List ℕ)) (new : Progress) (text : Text) : Type 0 where
  pub calls : List Call
  pub lines : List ℕ
  pub calls_are : text.calls ≡ held.calls ++ calls
  pub lines_are : text.lines ≡ held.lines ++ lines
  pub as_many : length lines ≡ length calls
  pub same : new.reading ≡ old.reading
  pub goes_on : GoesOn of_history old.reading left (read_by held old.skipped) old.number rest (read_by text new.skipped) new.number
  pub spelled : (before : List Call) (places : List ℕ) → GoesOn endless old.reading left (read_by (text_by before places held.callers) old.skipped) old.number rest (read_by (text_by (before ++ calls) (places ++ lines) text.callers) new.skipped) new.number
  pub bytes : List ℕ
  pub taken : Consumes left rest bytes
  pub low : old.number + feeds bytes ≤ new.number
  pub front : List (List ℕ)
  pub first : AreFirst left front rest
  pub number_is : new.number ≡ old.number + length front
  pub read : read_from of_history old.reading (read_by held old.skipped) old.number front ≡ Ok (read_by text new.skipped)
  pub good : (before : List Call) (places : List ℕ) → read_from endless old.reading (read_by (text_by before places held.callers) old.skipped) old.number front ≡ Ok (read_by (text_by (before ++ calls) (places ++ lines) text.callers) new.skipped)

-- the first bad line of the bytes that were left is this one. It is so whichever calls the text held, unless it held as many as it may
pub record IsBadFrom (bytes : List ℕ) (old : Progress) (held : Text) (bad : BadLine) : Type 0 where
  pub first : read_from of_history old.reading (read_by held old.skipped) old.number (lines_of bytes) ≡ Err bad
  pub spelled : bad.cause ≢ TooManyCalls → (before : List Call) (places : List ℕ) → read_from endless old.reading (read_by (text_by before places held.callers) old.skipped) old.number (lines_of bytes) ≡ Err bad

-- this fault is answered for the bytes that were left: their first bad line, or what the reader or memory refused
abbrev pub IsFaultFrom : Option (List ℕ) → Progress → Text → ReadTextFault → Type 0
IsFaultFrom left old held (Bad bad) = IfSome left (λ bytes. IsBadFrom bytes old held bad)
IsFaultFrom left old held ReadFault = Unit {0}
IsFaultFrom left old held OutOfMemory = Unit {0}
IsFaultFrom left old held CountFull = ⊥

-- the text has what the lines before the bad one say: these were taken, and the line after them is the bad one
pub record StopsAt (left : Option (List ℕ)) (old : Progress) (held text : Text) (bad : BadLine) : Type 0 where
  pub at : Progress
  pub rest : Option (List ℕ)
  pub piece : TakesPiece left old held rest at text
  pub fault : IsFaultFrom rest at text (Bad bad)
  pub number_is : bad.number ≡ at.number

-- at a bad line the text has what the lines before it say
abbrev pub HasBefore : Option (List ℕ) → Progress → Text → Text → ReadTextFault → Type 0
HasBefore left old held text (Bad bad) = StopsAt left old held text bad
HasBefore left old held text ReadFault = Unit {0}
HasBefore left old held text OutOfMemory = Unit {0}
HasBefore left old held text CountFull = ⊥

-- how far a reader was read at a fault
abbrev pub LeftAfter : Option (List ℕ) → Progress → Text → Option (List ℕ) → ReadTextFault → Type 0
LeftAfter left old held unread fault = LeftFrom old.reading (read_by held old.skipped) old.number left unread fault
