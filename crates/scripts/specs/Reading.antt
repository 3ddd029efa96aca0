-- What reading the next line and answering it do.
use Rattle.std.specs.Prelude.{◌≡◌, ℕ, true, false, List, Option}
use Rattle.std.specs.Io.KnownBytes.{Appends, IsAtEnd, Keeps, prepend_known}
use Rattle.script_words.specs.declared.line_read.LineRead.{LineRead}
use Rattle.script_words.specs.Lines.{Ahead, Takes}
use Rattle.scripts.specs.declared.turn.Turn.{Turn}
use Rattle.scripts.specs.Own.{Opened}
use Rattle.scripts.specs.Script.{reply_to_read}

-- bytes went from the reader to those read ahead, in turn, and were known to be over only at the reader's end
pub record Moves (old : Ahead) (unread : Option (List ℕ)) (new : Ahead) (left : Option (List ℕ)) : Type 0 where
  pub kept : Keeps (prepend_known old.bytes unread) (prepend_known new.bytes left)
  pub over : (old.over ≡ true → IsAtEnd unread) → new.over ≡ true → IsAtEnd left
  pub going : new.over ≡ false → old.over ≡ false

-- a line was taken, and its reply was written
pub record Answers (page number : ℕ) (opened next : Option Opened) (ahead left : Ahead) (old new : Option (List ℕ)) (turn : Turn) : Type 0 where
  pub read : LineRead
  pub line : List ℕ
  pub takes : Takes ahead read line left
  pub turn_is : turn ≡ (reply_to_read page number opened read line).turn
  pub next_is : next ≡ (reply_to_read page number opened read line).opened
  pub wrote : Appends old new (reply_to_read page number opened read line).text
