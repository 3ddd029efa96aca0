-- Leases: which slot a key has, how many writes a slot has seen, and when a lease has not ended.
use Rattle.std.specs.Prelude.{◌≡◌, ◌<◌, ℕ, ◌+◌, ◌/◌, ◌%◌, ◌^◌, List, ◌++◌, length, filter, replicate, All, Bool, true, false, ◌&&◌, ◌==◌, nat_lt, slice_index_or, slice_set, if◌then◌else◌}
use Rattle.key_hash.specs.declared.random_seed.RandomSeed.{RandomSeed}
use Rattle.key_hash.specs.Hashing.{started, written}
use Rattle.trace_file.specs.declared.act.Act.{Act}
use Rattle.trace_file.specs.declared.act.Act.TheVariants.{Put, Remove, Hit, Miss}
use Rattle.certificate_checker.specs.Deeds.{Deed}
use Rattle.certificate_checker.specs.Latest.{Writes}
use Rattle.service_lane.specs.declared.lease.Lease.{Lease}

-- the slots for leases: the number of their lane, the seed by which keys have their slots, and how many writes each slot shows
pub record LeaseSlots : Type 0 where
  pub lane : ℕ
  pub seed : RandomSeed
  pub writes : List ℕ

-- the hash of bytes by a seed
unfoldable pub hash_by : RandomSeed → List ℕ → ℕ
hash_by seed bytes = (written (started seed) bytes).state

-- the slot of a key among this many: by the high half of its hash
abbrev pub slot_of : RandomSeed → ℕ → List ℕ → ℕ
slot_of seed count key = hash_by seed key / 2 ^ 32 % count

-- this many slots of the lane of a number, which have seen no write
abbrev pub no_writes : ℕ → RandomSeed → ℕ → LeaseSlots
no_writes lane seed count = record { lane = lane; seed = seed; writes = replicate count 0 }

-- whether an act writes: a put, a fill or a removal
abbrev pub is_write : Act → Bool
is_write (Put value expires) = true
is_write Remove = true
is_write (Hit value moment) = false
is_write Miss = false

-- whether a deed writes a key of this slot, among this many
abbrev pub writes_slot : RandomSeed → ℕ → ℕ → Deed → Bool
writes_slot seed count slot deed = is_write deed.act && (slot_of seed count deed.key == slot)

-- how many deeds write keys of this slot
abbrev pub writes_in : RandomSeed → ℕ → ℕ → List Deed → ℕ
writes_in seed count slot deeds = length (filter (writes_slot seed count slot) deeds)

-- the most writes that a slot shows, 2^64 - 1
abbrev pub most_writes : ℕ
most_writes = 18446744073709551615

-- what a slot shows of this many writes: it stops at the most
abbrev pub shown_writes : ℕ → ℕ
shown_writes n = if nat_lt n most_writes then n else most_writes

-- what a slot shows after one write more
abbrev pub one_more : ℕ → ℕ
one_more n = if nat_lt n most_writes then n + 1 else n

-- each slot shows its writes
abbrev pub AreCounted : List Deed → LeaseSlots → Type 0
AreCounted deeds slots =
    (slot : ℕ) → slot < length slots.writes → slice_index_or slots.writes slot 0 ≡ shown_writes (writes_in slots.seed (length slots.writes) slot deeds)

-- the slot of a key
abbrev pub slot_for : LeaseSlots → List ℕ → ℕ
slot_for slots key = slot_of slots.seed (length slots.writes) key

-- what the slot of a key shows
abbrev pub writes_for : LeaseSlots → List ℕ → ℕ
writes_for slots key = slice_index_or slots.writes (slot_for slots key) 0

-- a slot shows one write more
abbrev pub with_write_in : LeaseSlots → ℕ → LeaseSlots
with_write_in slots slot = record slots { writes = slice_set slots.writes slot (one_more (slice_index_or slots.writes slot 0)) }

-- the slot of a key shows one write more
abbrev pub with_write : LeaseSlots → List ℕ → LeaseSlots
with_write slots key = with_write_in slots (slot_for slots key)

-- a lease of a key, of now: what its slot shows, its hash, and the number of the lane
abbrev pub lease_for : LeaseSlots → List ℕ → Lease
lease_for slots key = record { writes = writes_for slots key; hash = hash_by slots.seed key; lane = slots.lane }

-- a lease is of this lane and this key, and has not ended: it is what a lease of now would be, of fewer writes than the most
pub record HoldsLease (slots : LeaseSlots) (key : List ℕ) (lease : Lease) : Type 0 where
  pub same : lease_for slots key ≡ lease
  pub few : lease.writes < most_writes

-- after each front of the deeds in which the slot of the key had this many writes, none writes the key
abbrev pub IsUnwrittenSince : LeaseSlots → List Deed → List ℕ → ℕ → Type 0
IsUnwrittenSince slots deeds key writes =
    (front after : List Deed) → deeds ≡ front ++ after → writes_in slots.seed (length slots.writes) (slot_for slots key) front ≡ writes → All (λ deed. ¬ Writes deed key) after
