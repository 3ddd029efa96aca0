-- How a load ends: by what, its exit status, and what it writes to standard error.
use Rattle.std.specs.Prelude.{◌≡◌, ◌⊎◌, ℕ, ◌==◌, List, Option, Some, None, codes, if◌then◌else◌}
use Rattle.cache_sizes.specs.declared.size_fault.SizeFault.{SizeFault}
use Rattle.cache_sizes.specs.declared.size_fault.SizeFault.TheVariants as faults
use Rattle.serve_load.specs.declared.serve_end.ServeEnd.{ServeEnd}
use Rattle.serve_load.specs.declared.serve_end.ServeEnd.TheVariants as ends

-- a wrong hit outweighs all else
abbrev pub end_of_wrong_hits : ℕ → ServeEnd
end_of_wrong_hits wrong_hits = if wrong_hits == 0 then ends.Right else ends.WrongHit

-- the exit status of an end
abbrev pub status_of : ServeEnd → ℕ
status_of ends.Right = 0
status_of ends.WrongHit = 1
status_of ends.SharesExceed = 2
status_of ends.NoSize = 2
status_of (ends.Size fault) = 2
status_of ends.OutOfMemory = 3
status_of ends.FileFault = 3

-- what is reported of a size that no cache has
abbrev pub size_message_of : SizeFault → List ℕ
size_message_of faults.FlashTooSmall = codes "--size is too small for a cache"
size_message_of faults.FlashTooLarge = codes "--size is too large for a cache"
size_message_of faults.NoObjectBytes = codes "--value-bytes is too small for an object"
size_message_of faults.ObjectTooLarge = codes "--value-bytes is too large for an object"
size_message_of faults.NoThreads = codes "--callers is 0"
size_message_of faults.TooManyThreads = codes "--callers is too large for a cache"
size_message_of faults.MemoryTooSmall = codes "--memory-bytes is too small for a cache of this --size"

-- the line that is written to standard error
abbrev pub message_of : ServeEnd → Option (List ℕ)
message_of ends.Right = None
message_of ends.WrongHit = Some (codes "a hit was wrong")
message_of ends.SharesExceed = Some (codes "gets and removes exceed 100")
message_of ends.NoSize = Some (codes "--memory-bytes is given without --size")
message_of (ends.Size fault) = Some (size_message_of fault)
message_of ends.OutOfMemory = Some (codes "out of memory")
message_of ends.FileFault = Some (codes "file fault")

-- memory was refused, or a file, the output or the clock failed
abbrev pub IsFailure : ServeEnd → Type 0
IsFailure end = (end ≡ ends.OutOfMemory) ⊎ (end ≡ ends.FileFault)
