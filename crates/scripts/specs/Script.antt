-- What a script writes, reply by reply, and how it ends.
use Rattle.std.specs.Prelude.{◌≡◌, ℕ, ◌+◌, ◌≤◌, ◌||◌, List, [], ◌∷◌, ◌++◌, length, take, nat_lt, if◌then◌else◌, Option, Some, None, codes}
use Rattle.std.specs.Fmt.{decimal}
use Rattle.std.specs.List.{concat}
use Rattle.std.specs.Io.KnownBytes.{Appends, Consumes}
use Rattle.record_pages.specs.declared.config.Config.{Config}
use Rattle.record_pages.specs.declared.field.Field.{Field}
use Rattle.record_pages.specs.FieldNames.{name_of}
use Rattle.script_words.specs.declared.command.Command.{Command}
use Rattle.script_words.specs.declared.line_read.LineRead.{LineRead}
use Rattle.script_words.specs.declared.line_read.LineRead.TheVariants.{Line, TooLong, End}
use Rattle.scripts.specs.declared.script_fault.ScriptFault.{ScriptFault}
use Rattle.scripts.specs.declared.script_fault.ScriptFault.TheVariants.{OutOfMemory, ReadFault, WriteFault}
use Rattle.scripts.specs.declared.scripted.Scripted.{Scripted}
use Rattle.scripts.specs.declared.scripted.Scripted.TheVariants.{Ended, BadLine, BadConfig}
use Rattle.scripts.specs.declared.turn.Turn.{Turn}
use Rattle.scripts.specs.declared.turn.Turn.TheVariants.{GoesOn, Ends}
use Rattle.script_words.specs.Commands.{command_of}
use Rattle.script_words.specs.Configs.{config_of, faulty}
use Rattle.script_words.specs.Lines.{lines_of, feeds}
use Rattle.scripts.specs.Own.{Opened, opened_by}
use Rattle.scripts.specs.Replies.{reply_to}

-- what a line writes, whether the script goes on, and its lane then: none before the configuration
pub record LineReply : Type 0 where
  pub text : List ℕ
  pub turn : Turn
  pub opened : Option Opened

-- what a line writes with its line feed
abbrev pub line_reply : List ℕ → Turn → Option Opened → LineReply
line_reply text turn opened = record { text = text ++ codes "\n"; turn = turn; opened = opened }

-- a line with this number that is none of a script's
abbrev pub bad_line : ℕ → Option Opened → LineReply
bad_line number opened = line_reply (codes "bad line " ++ decimal number) (Ends BadLine) opened

-- a configuration opens the lane, unless it has a faulty field
abbrev pub open_by : Config → Option Field → LineReply
open_by config None = line_reply (codes "ready") GoesOn (Some (opened_by config))
open_by config (Some field) = line_reply (codes "bad config " ++ name_of field) (Ends BadConfig) None

-- the first line has to be a configuration
abbrev pub on_config : ℕ → Option Config → LineReply
on_config number None = bad_line number None
on_config number (Some config) = open_by config (faulty config)

-- each further line has to be a command
abbrev pub on_command : ℕ → ℕ → Opened → Option Command → LineReply
on_command page number opened None = bad_line number (Some opened)
on_command page number opened (Some command) = record {
  text = (reply_to page opened command).text;
  turn = GoesOn;
  opened = Some (reply_to page opened command).opened;
}

-- what a line of at most 4,096 bytes, of which there are fewer than 2 ^ 32, is for a script at this stage
abbrev pub reply_within : ℕ → ℕ → Option Opened → List ℕ → LineReply
reply_within page number None line = on_config number (config_of line)
reply_within page number (Some opened) line = on_command page number opened (command_of line)

-- what a line is for a script at this stage; a longer or a later line is bad
abbrev pub reply_to_line : ℕ → ℕ → Option Opened → List ℕ → LineReply
reply_to_line page number opened line =
    if nat_lt 4294967295 number || nat_lt 4096 (length line) then bad_line number opened
    else reply_within page number opened line

-- what a read of a line is for a script at this stage. After the last line nothing is written, but an input with no
-- line has a bad line 1
abbrev pub reply_to_read : ℕ → ℕ → Option Opened → LineRead → List ℕ → LineReply
reply_to_read page number opened Line line = reply_to_line page number opened line
reply_to_read page number opened TooLong line = bad_line number opened
reply_to_read page number None End line = bad_line number None
reply_to_read page number (Some opened) End line = record { text = []; turn = Ends Ended; opened = Some opened }

-- all that a script writes, a text for each line that it answers, and how it ends
pub record Transcript : Type 0 where
  pub replies : List (List ℕ)
  pub ending : Scripted

-- a script that ends here
abbrev pub ends_by : Scripted → Transcript
ends_by ending = record { replies = []; ending = ending }

-- a reply, and then the rest
abbrev pub then_rest : List ℕ → Transcript → Transcript
then_rest text rest = record { replies = text ∷ rest.replies; ending = rest.ending }

-- after the last line: an input with no line has a bad line 1
abbrev pub at_end : ℕ → Option Opened → Transcript
at_end number None = then_rest (bad_line number None).text (ends_by BadLine)
at_end number (Some opened) = ends_by Ended

-- what comes after a line that goes on, or ends the script
abbrev pub by_turn : Turn → Transcript → Transcript
by_turn GoesOn rest = rest
by_turn (Ends ending) rest = ends_by ending

-- what these lines write from this number and stage on
abbrev pub transcript : ℕ → ℕ → Option Opened → List (List ℕ) → Transcript
transcript page number opened [] = at_end number opened
transcript page number opened (line ∷ lines) =
    then_rest (reply_to_line page number opened line).text
    (by_turn (reply_to_line page number opened line).turn
    (transcript page (number + 1) (reply_to_line page number opened line).opened lines))

-- what a script of these bytes writes, over pages of this many bytes, and how it ends
abbrev pub script_of : ℕ → List ℕ → Transcript
script_of page bytes = transcript page 1 None (lines_of bytes)

-- known output grew by all that a script writes, and it ended so
pub record IsWhole (old new : Option (List ℕ)) (ending : Scripted) (whole : Transcript) : Type 0 where
  pub ended : ending ≡ whole.ending
  pub wrote : Appends old new (concat whole.replies)

-- a script that was given up at a failed read: what it had read, and that known output grew by just the replies of the lines
-- that were whole in it, which end at a line feed
pub record WroteWholeLines (page : ℕ) (bytes : List ℕ) (unread old new : Option (List ℕ)) : Type 0 where
  pub read : List ℕ
  pub was_read : Consumes (Some bytes) unread read
  pub within : feeds read ≤ length (script_of page bytes).replies
  pub wrote : Appends old new (concat (take (feeds read) (script_of page bytes).replies))

-- a script that met a want of memory: the line that met it begins what had been read and not been answered, 8,192 bytes
-- at most, and known output grew by just the replies of the lines before it
pub record WroteLinesBefore (page : ℕ) (bytes : List ℕ) (unread old new : Option (List ℕ)) : Type 0 where
  pub before : List (List ℕ)
  pub behind : List ℕ
  pub rest : List ℕ
  pub unread_is : unread ≡ Some rest
  pub lines : lines_of bytes ≡ before ++ lines_of (behind ++ rest)
  pub few : length behind ≤ 8192
  pub within : length before ≤ length (script_of page bytes).replies
  pub wrote : Appends old new (concat (take (length before) (script_of page bytes).replies))

-- what a script wrote that was given up for this cause; after a failed write nothing is said
abbrev pub WroteAt : ℕ → List ℕ → Option (List ℕ) → Option (List ℕ) → Option (List ℕ) → ScriptFault → Type 0
WroteAt page bytes unread old new OutOfMemory = WroteLinesBefore page bytes unread old new
WroteAt page bytes unread old new ReadFault = WroteWholeLines page bytes unread old new
WroteAt page bytes unread old new WriteFault = Unit {0}
