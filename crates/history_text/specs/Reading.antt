-- What taking the next line of a reader does.
use Rattle.std.specs.Prelude.{◌≡◌, ◌≤◌, true, List, ◌++◌, ℕ, length, Option, IfSome}
use Rattle.std.specs.Io.KnownBytes.{IsAtEnd, Keeps, prepend_known}
use Rattle.script_words.specs.declared.line_read.LineRead.{LineRead}
use Rattle.script_words.specs.declared.read_line_fault.ReadLineFault.{ReadLineFault}
use Rattle.script_words.specs.declared.read_line_fault.ReadLineFault.TheVariants.{ReadFault}
use Rattle.script_words.specs.Lines.{Ahead, GivesNext, feeds}

-- bytes that were read ahead are known to be the last only at the reader's end
abbrev pub IsAhead : Ahead → Option (List ℕ) → Type 0
IsAhead ahead unread = ahead.over ≡ true → IsAtEnd unread

-- what was taken is the first line of the bytes that were left, if those are known
abbrev pub GivesLine : Option (List ℕ) → LineRead → List ℕ → Option (List ℕ) → Type 0
GivesLine left read line rest = IfSome left (λ bytes. GivesNext 8192 bytes read line rest)

-- of the bytes that were left these were taken, of one line at most. With what was read ahead they are at most 12,288 bytes
pub record TakesOff (left : Option (List ℕ)) (ahead : List ℕ) (unread : Option (List ℕ)) : Type 0 where
  pub front : List ℕ
  pub keeps : Keeps left (prepend_known (front ++ ahead) unread)
  pub few : length (front ++ ahead) ≤ 12288
  pub one : feeds front ≤ 1

-- nothing was taken of the bytes that were left, and if a read failed no line of what was read ahead is whole
pub record TakesNone (left : Option (List ℕ)) (ahead : List ℕ) (unread : Option (List ℕ)) (fault : ReadLineFault) : Type 0 where
  pub keeps : Keeps left (prepend_known ahead unread)
  pub few : length ahead ≤ 12288
  pub unfed : fault ≡ ReadFault → feeds ahead ≡ 0
