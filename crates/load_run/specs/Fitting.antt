-- That the type of a cache fits in memory.
use Rattle.std.specs.Borrow.{RattleType}
use denote.Param.{value_of}
use Rattle.std.specs.Mem.{FitsInMemory}
use Rattle.page_device.specs.declared.device.PageDevice as device
use Rattle.policy_laws.specs.declared.policy.EvictionPolicy as policy
use Rattle.shared_cache.specs.contracts.cache.SharedCache.{the_row}

-- the type of a cache is no larger than memory, as is so wherever a value of it exists
abbrev pub CacheFits : (D P PAGE : RattleType) → device.Ghosts D.Denot (value_of PAGE) → policy.Ghosts P.Denot → Type 0
CacheFits D P PAGE of_device of_policy = FitsInMemory (the_row D P PAGE of_device of_policy)
