-- Why no cache has the sizes that are wanted, and when.
use Rattle.std.specs.Prelude.{ℕ, List, [], ◌∷◌, ◌++◌, Option, option_map, find, Bool, ◌==◌, nat_lt, codes}
use Rattle.cache_sizes.specs.declared.wanted.Wanted.{Wanted}
use Rattle.cache_sizes.specs.declared.size_fault.SizeFault.{SizeFault}
use Rattle.cache_sizes.specs.declared.size_fault.SizeFault.TheVariants.{FlashTooSmall, FlashTooLarge, NoObjectBytes, ObjectTooLarge, NoThreads, TooManyThreads, MemoryTooSmall}
use Rattle.cache_sizes.specs.declared.limits.TheConstants.{MIN_FLASH_BYTES, MAX_ALL_LANES, MAX_OBJECT_BYTES, MAX_THREADS}
use Rattle.cache_sizes.specs.Lanes.{lanes_for_sets}
use Rattle.cache_sizes.specs.Wanting.{pages_of, least_memory_for}

-- a fault, and whether there is cause for it
pub record Cause : Type 0 where
  pub fault : SizeFault
  pub is_there : Bool

abbrev pub cause : SizeFault → Bool → Cause
cause fault is_there = record { fault = fault; is_there = is_there }

-- when a number is out of its range: the flash holds no lane, its sets need more lanes than there may be, the typical object has no
-- byte or more than an object may have, there is no thread or more than may be
abbrev pub range_causes : Wanted → List Cause
range_causes w =
    cause FlashTooSmall (nat_lt w.flash_bytes MIN_FLASH_BYTES)
    ∷ cause FlashTooLarge (nat_lt MAX_ALL_LANES (lanes_for_sets (pages_of w)))
    ∷ cause NoObjectBytes (w.object_bytes == 0)
    ∷ cause ObjectTooLarge (nat_lt MAX_OBJECT_BYTES w.object_bytes)
    ∷ cause NoThreads (w.threads == 0)
    ∷ cause TooManyThreads (nat_lt MAX_THREADS w.threads)
    ∷ []

-- when there is too little memory: less than the least
abbrev pub memory_cause : Wanted → Cause
memory_cause w = cause MemoryTooSmall (nat_lt w.memory_bytes (least_memory_for w))

-- the first fault that there is cause for, if there is one
abbrev pub first_of_causes : List Cause → Option SizeFault
first_of_causes causes = option_map (λ c. c.fault) (find (λ c. c.is_there) causes)

-- the first number that is out of its range
unfoldable pub first_range_fault : Wanted → Option SizeFault
first_range_fault w = first_of_causes (range_causes w)

-- the first fault: memory comes last, since numbers that are in their ranges say how much is needed
unfoldable pub first_size_fault : Wanted → Option SizeFault
first_size_fault w = first_of_causes (range_causes w ++ memory_cause w ∷ [])

-- the name of the field at fault
abbrev pub field_of : SizeFault → List ℕ
field_of FlashTooSmall = codes "flash_bytes"
field_of FlashTooLarge = codes "flash_bytes"
field_of NoObjectBytes = codes "object_bytes"
field_of ObjectTooLarge = codes "object_bytes"
field_of NoThreads = codes "threads"
field_of TooManyThreads = codes "threads"
field_of MemoryTooSmall = codes "memory_bytes"
