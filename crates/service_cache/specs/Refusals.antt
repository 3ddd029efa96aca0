-- When a call with a seat is refused.
use Rattle.std.specs.Prelude.{◌≡◌, ◌<◌, ◌≤◌, ℕ, List, [], length}
use Rattle.record_pages.specs.Bounded.{IsKey}
use Rattle.record_pages.specs.Sizes.{object_size, room}
use Rattle.record_pages.specs.declared.key.KeyFault.{KeyFault}
use Rattle.record_pages.specs.declared.key.KeyFault.TheVariants as keys
use Rattle.record_pages.specs.declared.put_fault.PutFault.TheVariants as puts
use Rattle.deed_book.specs.declared.register.EntryFault.TheVariants as entries
use Rattle.service_cache.specs.declared.seat_fault.SeatFault.{SeatFault}
use Rattle.service_cache.specs.declared.seat_fault.SeatFault.TheVariants as refusals
use Rattle.service_cache.specs.declared.seat_fault.SeatPutFault.{SeatPutFault}
use Rattle.service_cache.specs.declared.seat_fault.SeatPutFault.TheVariants as put_refusals

-- when bytes are refused that are no key's
abbrev pub RefusesBytes : List ℕ → KeyFault → Type 0
RefusesBytes key keys.KeyEmpty = key ≡ []
RefusesBytes key keys.KeyTooLong = 255 < length key
RefusesBytes key keys.OutOfMemory = ⊥

-- When a get is refused: bytes that are no key's first, each for its reason. A book that is full refuses no get.
abbrev pub RefusesGet : List ℕ → SeatFault → Type 0
RefusesGet key (refusals.Key fault) = RefusesBytes key fault
RefusesGet key (refusals.Book entries.Foreign) = IsKey key
RefusesGet key (refusals.Book entries.Full) = ⊥

-- when a removal is refused: bytes that are no key's first, each for its reason
abbrev pub RefusesRemoval : List ℕ → SeatFault → Type 0
RefusesRemoval key (refusals.Key fault) = RefusesBytes key fault
RefusesRemoval key (refusals.Book fault) = IsKey key

-- when a put of an object is refused for its size, on pages of this many bytes, and when for memory: only if it fits on a page
abbrev pub RefusesPut : ℕ → List ℕ → List ℕ → SeatPutFault → Type 0
RefusesPut size key value (put_refusals.Put puts.TooLarge) = room size < object_size key value
RefusesPut size key value (put_refusals.Put puts.OutOfMemory) = object_size key value ≤ room size
RefusesPut size key value (put_refusals.Book fault) = Unit {0}
