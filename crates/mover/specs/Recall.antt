-- What memory has of a key.
use Rattle.std.specs.Prelude.{◌≡◌, ℕ, List, Option, Some, None}
use Rattle.record_pages.specs.declared.timed_value.TimedValue.{TimedValue}
use Rattle.mover.specs.declared.memory_answer.MemoryAnswer.{MemoryAnswer}
use Rattle.mover.specs.declared.memory_answer.MemoryAnswer.TheVariants as recalled

-- the value that memory has of a key, if it has one and that is live
abbrev pub value_of : MemoryAnswer → Option (Option (List ℕ))
value_of (recalled.Live timed) = Some (Some timed.now.value)
value_of recalled.Expired = Some None
value_of recalled.Absent = None

-- a live value that is recalled is the one that is there, with its expiry
abbrev pub IsRecalled : Option TimedValue → MemoryAnswer → Type 0
IsRecalled there (recalled.Live timed) = there ≡ Some timed.now
IsRecalled there recalled.Expired = Unit {0}
IsRecalled there recalled.Absent = Unit {0}
