-- Why a script is given up, by what refused its next line.
use Rattle.script_words.specs.declared.read_line_fault.ReadLineFault.{ReadLineFault}
use Rattle.script_words.specs.declared.read_line_fault.ReadLineFault.TheVariants as unread
use Rattle.scripts.specs.declared.script_fault.ScriptFault.{ScriptFault}
use Rattle.scripts.specs.declared.script_fault.ScriptFault.TheVariants.{OutOfMemory, ReadFault}

-- a script whose next line is not read is given up for the same cause
abbrev pub given_up_by : ReadLineFault → ScriptFault
given_up_by unread.OutOfMemory = OutOfMemory
given_up_by unread.ReadFault = ReadFault
