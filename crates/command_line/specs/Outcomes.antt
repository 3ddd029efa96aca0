-- What was done if the program ends so.
use Rattle.std.specs.Prelude.{◌≡◌, ℕ, List, Option, Ok}
use Rattle.std.specs.Io.KnownBytes.{Appends}
use Rattle.std.specs.List.{concat}
use Rattle.scripts.specs.Script.{Transcript, WroteLinesBefore, WroteWholeLines, script_of}
use Rattle.command_line.specs.declared.ending.Ending.{Ending}
use Rattle.command_line.specs.declared.ending.Ending.TheVariants.{Done, BadWords, BadLine, BadConfig, OutOfMemory, ReadFault, FileFault}
use Rattle.command_line.specs.Endings.{ending_of_script}

-- all that the script writes was written, and it ended so
pub record IsAllWritten (old new : Option (List ℕ)) (ending : Ending) (whole : Transcript) : Type 0 where
  pub ended : ending ≡ ending_of_script (Ok whole.ending)
  pub wrote : Appends old new (concat whole.replies)

-- what a script of these bytes, over pages of this many bytes, wrote if the program ends so, and what of them is unread:
-- all of it; at a failed read just the replies of the lines that were whole in what was read; at want of memory those of the
-- lines before the one that met it; if a write failed nothing is said; and no script ends as bad words do
abbrev pub IsAnswered : ℕ → List ℕ → Option (List ℕ) → Option (List ℕ) → Option (List ℕ) → Ending → Type 0
IsAnswered page bytes unread old new OutOfMemory = WroteLinesBefore page bytes unread old new
IsAnswered page bytes unread old new ReadFault = WroteWholeLines page bytes unread old new
IsAnswered page bytes unread old new FileFault = Unit {0}
IsAnswered page bytes unread old new Done = IsAllWritten old new Done (script_of page bytes)
IsAnswered page bytes unread old new BadLine = IsAllWritten old new BadLine (script_of page bytes)
IsAnswered page bytes unread old new BadConfig = IsAllWritten old new BadConfig (script_of page bytes)
IsAnswered page bytes unread old new BadWords = ⊥
