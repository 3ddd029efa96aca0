-- What reading a trace from a reader answers, and what it leaves.
use Rattle.std.specs.Prelude.{◌≡◌, ◌≢◌, ℕ, ◌≤◌, List, ◌++◌, length, take, Option, Some, None, Err, IfSome}
use Rattle.std.specs.Io.KnownBytes.{Consumes}
use Rattle.trace_file.specs.declared.trace_fault.TraceFault.{TraceFault}
use Rattle.trace_file.specs.declared.trace_fault.TraceFault.TheVariants.{Truncated, ReadFault, OutOfMemory}
use Rattle.trace_file.specs.Reading.{outcome_of, first_fault_of}

-- a fault that is met among the bytes: neither their end, nor the reader's, nor want of memory
abbrev pub IsOfText : TraceFault → Type 0
IsOfText (Truncated at) = ⊥
IsOfText (ReadFault at) = ⊥
IsOfText OutOfMemory = ⊥
IsOfText fault = Unit {0}

-- this fault is answered for these bytes: the first one of the whole input; or a failed read after some of them, which have no fault; or want of memory
abbrev pub IsFaultOf : List ℕ → TraceFault → Type 0
IsFaultOf bytes (ReadFault at) = (at ≤ length bytes) × (first_fault_of (take at bytes) ≡ None)
IsFaultOf bytes OutOfMemory = Unit {0}
IsFaultOf bytes fault = outcome_of bytes ≡ Err fault

-- a front that has no fault was read, and one piece after it, of at most 4,096 bytes, in which the fault was met, want of memory aside
pub record StoppedIn (old new : Option (List ℕ)) (fault : TraceFault) : Type 0 where
  pub front : List ℕ
  pub piece : List ℕ
  pub taken : Consumes old new (front ++ piece)
  pub no_fault : first_fault_of front ≡ None
  pub few : length piece ≤ 4096
  pub met : fault ≢ OutOfMemory → first_fault_of (front ++ piece) ≡ Some fault

-- what a fault leaves. What was read is taken from the reader: if the input ends too early all of it, at a failed read just the bytes before it, otherwise no more than the piece in which the fault was met
abbrev pub Leaves : Option (List ℕ) → Option (List ℕ) → TraceFault → Type 0
Leaves old new (Truncated at) = IfSome old (λ bytes. Consumes old new bytes)
Leaves old new (ReadFault at) = IfSome old (λ bytes. Consumes old new (take at bytes))
Leaves old new fault = StoppedIn old new fault
