-- Why a text was not read.
use Rattle.std.specs.Prelude.{◌≡◌, ℕ, ◌+◌, ◌≤◌, List, ◌++◌, length, Option, Err, IfErr, IfSome}
use Rattle.std.specs.Io.KnownBytes.{Consumes}
use Rattle.script_words.specs.declared.read_line_fault.ReadLineFault as line_faults
use Rattle.script_words.specs.declared.read_line_fault.ReadLineFault.TheVariants as line
use Rattle.script_words.specs.Lines.{feeds, lines_of}
use Rattle.history_text.specs.declared.line_cause.LineCause.TheVariants.{TooManyCallers}
use Rattle.history_text.specs.declared.text_fault.TextFault.{TextFault}
use Rattle.history_text.specs.declared.text_fault.TextFault.TheVariants as taking
use Rattle.history_text.specs.declared.read_text_fault.ReadTextFault.{ReadTextFault}
use Rattle.history_text.specs.declared.read_text_fault.ReadTextFault.TheVariants.{Bad, ReadFault, OutOfMemory, CountFull}
use Rattle.history_text.specs.declared.reading.Reading.{Reading}
use Rattle.history_text.specs.Text.{TextRead, no_text, of_history, read_by, read_from, text_of}

-- the fault of a text by that of a line
abbrev pub of_read_line : line_faults.ReadLineFault → ReadTextFault
of_read_line line.OutOfMemory = OutOfMemory
of_read_line line.ReadFault = ReadFault

-- the fault of a text by that of the line with this number
abbrev pub fault_at : ℕ → TextFault → ReadTextFault
fault_at number (taking.Bad cause) = Bad (record { number = number; cause = cause })
fault_at number taking.OutOfMemory = OutOfMemory

-- a caller of this number is refused: there are too many, or memory is
abbrev pub IsRefused : ℕ → TextFault → Type 0
IsRefused number (taking.Bad cause) = (cause ≡ TooManyCallers) × (65536 ≤ number)
IsRefused number taking.OutOfMemory = Unit {0}

-- this fault is answered for these bytes: their first bad line, or what the reader or memory refused
abbrev pub IsFaultOf : Reading → List ℕ → ReadTextFault → Type 0
IsFaultOf how bytes (Bad bad) = text_of how bytes ≡ Err bad
IsFaultOf how bytes ReadFault = Unit {0}
IsFaultOf how bytes OutOfMemory = Unit {0}
IsFaultOf how bytes CountFull = ⊥

-- what was read of a text that has a fault, from the line of a number on: whole lines, none of them bad, and at most 12,288 bytes after those. At a failed read no line of the latter is whole, so a bad line that was read is reported first
pub record LeftFrom (how : Reading) (read : TextRead) (number : ℕ) (old new : Option (List ℕ)) (fault : ReadTextFault) : Type 0 where
  pub lines : List ℕ
  pub ahead : List ℕ
  pub taken : Consumes old new (lines ++ ahead)
  pub good : IfSome old (λ bytes. IfErr (read_from of_history how read number (lines_of bytes)) (λ bad. number + feeds lines ≤ bad.number))
  pub few : length ahead ≤ 12288
  pub unfed : fault ≡ ReadFault → feeds ahead ≡ 0

-- the same from the first line on
abbrev pub Left : Reading → Option (List ℕ) → Option (List ℕ) → ReadTextFault → Type 0
Left how old new fault = LeftFrom how (read_by no_text 0) 1 old new fault
