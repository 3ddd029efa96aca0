-- How the system's errors are reported if no file was opened.
use Rattle.std.specs.Prelude.{◌≡◌, ◌≢◌, ◌⊎◌, ⊤}
use Rattle.std.specs.IoError.{error_kind}
use Rattle.std.specs.declared.io.Error.{Error}
use Rattle.std.specs.declared.io.ErrorKind.TheVariants as kinds
use Rattle.file_device.specs.declared.file_open_fault.FileOpenFault.{FileOpenFault}
use Rattle.file_device.specs.declared.file_open_fault.FileOpenFault.TheVariants.{PageTooLarge, Opening, InUse, Locking, NotRegular, Sizing, OutOfMemory}

-- an error is reported as this fault: as want of memory if it says that memory was refused, and otherwise as the fault that keeps it
abbrev pub IsToldAs : Error → FileOpenFault → FileOpenFault → Type 0
IsToldAs error keeping fault = ((error_kind error ≡ kinds.OutOfMemory) × (fault ≡ OutOfMemory)) ⊎ ((error_kind error ≢ kinds.OutOfMemory) × (fault ≡ keeping))

-- an error that a fault keeps does not say that memory was refused: that is reported by a fault of its own
abbrev pub TellsMemoryApart : FileOpenFault → Type 0
TellsMemoryApart PageTooLarge = ⊤
TellsMemoryApart (Opening error) = error_kind error ≢ kinds.OutOfMemory
TellsMemoryApart InUse = ⊤
TellsMemoryApart (Locking error) = error_kind error ≢ kinds.OutOfMemory
TellsMemoryApart NotRegular = ⊤
TellsMemoryApart (Sizing error) = error_kind error ≢ kinds.OutOfMemory
TellsMemoryApart OutOfMemory = ⊤
