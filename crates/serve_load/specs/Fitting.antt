-- That the type of a cache fits in memory.
use Rattle.std.specs.Borrow.{RattleType}
use denote.Param.{value_of}
use Rattle.std.specs.Mem.{FitsInMemory}
use Rattle.page_device.specs.declared.device.PageDevice as device
use Rattle.policy_laws.specs.declared.policy.EvictionPolicy as policy
use Rattle.deed_book.specs.declared.lanes.KeyLanes as lanes
use Rattle.deed_book.specs.declared.lanes.BookName as book
use Rattle.service_cache.specs.contracts.cache.ServiceCache.{the_row}

-- the type of a cache is no larger than memory, as is so wherever a value of it exists
abbrev pub CacheFits : (D P PAGE L J : RattleType) → device.Ghosts D.Denot (value_of PAGE) → policy.Ghosts P.Denot → lanes.Ghosts L.Denot → book.Ghosts J.Denot → Type 0
CacheFits D P PAGE L J of_device of_policy of_lanes of_book = FitsInMemory (the_row D P PAGE L J of_device of_policy of_lanes of_book)
