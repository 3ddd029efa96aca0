-- How the program ends: its exit status, and what it writes to standard error.
use Rattle.std.specs.Prelude.{ℕ, List, Option, Some, None, Result, Ok, Err, codes}
use Rattle.scripts.specs.declared.script_fault.ScriptFault.{ScriptFault}
use Rattle.scripts.specs.declared.script_fault.ScriptFault.TheVariants as script_faults
use Rattle.scripts.specs.declared.scripted.Scripted.{Scripted}
use Rattle.scripts.specs.declared.scripted.Scripted.TheVariants as scripted
use Rattle.command_line.specs.declared.ending.Ending.{Ending}
use Rattle.command_line.specs.declared.ending.Ending.TheVariants.{Done, BadWords, BadLine, BadConfig, OutOfMemory, ReadFault, FileFault}

-- how the program ends after a script
abbrev pub ending_of_script : Result Scripted ScriptFault → Ending
ending_of_script (Ok scripted.Ended) = Done
ending_of_script (Ok scripted.BadLine) = BadLine
ending_of_script (Ok scripted.BadConfig) = BadConfig
ending_of_script (Err script_faults.OutOfMemory) = OutOfMemory
ending_of_script (Err script_faults.ReadFault) = ReadFault
ending_of_script (Err script_faults.WriteFault) = FileFault

-- the exit status of an ending
abbrev pub status_of : Ending → ℕ
status_of Done = 0
status_of BadWords = 2
status_of BadLine = 2
status_of BadConfig = 2
status_of OutOfMemory = 3
status_of ReadFault = 3
status_of FileFault = 3

-- the line that is written to standard error
abbrev pub message_of : Ending → Option (List ℕ)
message_of Done = None
message_of BadWords = None
message_of BadLine = None
message_of BadConfig = None
message_of OutOfMemory = Some (codes "out of memory")
message_of ReadFault = Some (codes "file fault")
message_of FileFault = Some (codes "file fault")
