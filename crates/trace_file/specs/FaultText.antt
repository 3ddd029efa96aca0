-- How messages spell the faults of a trace.
use Rattle.std.specs.Prelude.{ℕ, List, [], ◌++◌, Option, Some, None, codes}
use Rattle.std.specs.Fmt.{decimal}
use Rattle.trace_file.specs.declared.trace_fault.TraceFault.{TraceFault}
use Rattle.trace_file.specs.declared.trace_fault.TraceFault.TheVariants.{BadMagic, TooMany, BadKind, BadKey, BadValue, Truncated, TrailingBytes, ReadFault, OutOfMemory}

-- what stands before the offset, or all if there is none
abbrev pub front_of : TraceFault → List ℕ
front_of (BadMagic at) = codes "BadMagic at "
front_of (TooMany at) = codes "TooMany at "
front_of (BadKind at) = codes "BadKind at "
front_of (BadKey at) = codes "BadKey at "
front_of (BadValue at) = codes "BadValue at "
front_of (Truncated at) = codes "Truncated at "
front_of (TrailingBytes at) = codes "TrailingBytes at "
front_of (ReadFault at) = codes "ReadFault at "
front_of OutOfMemory = codes "out of memory"

-- the offset of a fault, if it has one
abbrev pub offset_of : TraceFault → Option ℕ
offset_of (BadMagic at) = Some at
offset_of (TooMany at) = Some at
offset_of (BadKind at) = Some at
offset_of (BadKey at) = Some at
offset_of (BadValue at) = Some at
offset_of (Truncated at) = Some at
offset_of (TrailingBytes at) = Some at
offset_of (ReadFault at) = Some at
offset_of OutOfMemory = None

-- an offset, if there is one
abbrev pub offset_text : Option ℕ → List ℕ
offset_text None = []
offset_text (Some at) = decimal at

-- a fault of reading: its name, and the offset if it has one
abbrev pub trace_fault_text : TraceFault → List ℕ
trace_fault_text fault = front_of fault ++ offset_text (offset_of fault)
