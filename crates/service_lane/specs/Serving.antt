-- A lane that serves, when one is opened, and what a fill does.
use Rattle.std.specs.Prelude.{◌≡◌, ◌≤◌, ℕ, List, [], ◌∷◌, ◌++◌, Option, Bool, IsTrue, Ok}
use Rattle.record_pages.specs.declared.pushed.Pushed.{Pushed}
use Rattle.memory_cache.specs.declared.pair.Pair.{Pair}
use Rattle.mover.specs.Calls.{StorePuts, StoreRemoves}
use Rattle.trace_file.specs.declared.act.Act.TheVariants.{Put, Remove}
use Rattle.key_hash.specs.declared.random_seed.RandomSeed.{RandomSeed}
use Rattle.service_lane.specs.Counters.{no_counts}
use Rattle.service_lane.specs.Counting.{counts_get, counts_put, counts_fill, counts_stale, counts_removal}
use Rattle.service_lane.specs.Asked.{IsLiveHit}
use Rattle.service_lane.specs.Copies.{CopyList, CopyAsked, GetsCopied, copies_for, copies_of, copy_gone, numbers_without}
use Rattle.service_lane.specs.declared.copied.Copied.{Copied}
use Rattle.deeds.specs.Sound.{act_of}
use Rattle.record_pages.specs.declared.answer.Answer.{Answer}
use Rattle.record_pages.specs.Asked.{HasNumbersOf}
use Rattle.record_pages.specs.declared.config.Config.{Config}
use Rattle.mover.specs.Opening.{RefusesStore}
use Rattle.mover.specs.Store.{StoreState, opening_with}
use Rattle.record_pages.specs.declared.layout.Layout.{Layout}
use Rattle.cache_sizes.specs.Memory.{strikes_of}
use Rattle.certificate_checker.specs.Deeds.{Deed}
use Rattle.service_lane.specs.declared.counts.Counts.{Counts}
use Rattle.service_lane.specs.declared.filled.Filled.{Filled}
use Rattle.service_lane.specs.declared.filled.Filled.TheVariants.{Stored, Stale}
use Rattle.service_lane.specs.declared.open_lane_fault.OpenLaneFault.{OpenLaneFault}
use Rattle.service_lane.specs.declared.open_lane_fault.OpenLaneFault.TheVariants as faults
use Rattle.service_lane.specs.declared.lease.Lease.{Lease}
use Rattle.service_lane.specs.Leases.{LeaseSlots, HoldsLease, IsUnwrittenSince, no_writes, with_write}

-- A store, what was asked of it and answered since it was opened, the copies of its objects on flash, if the lane makes any, what the
-- slots for leases show, and how often what was done.
pub record Serving (D : Type 0) : Type 0 where
  pub store : StoreState D
  pub deeds : List Deed
  pub copies : Option CopyList
  pub slots : LeaseSlots
  pub counts : Counts

-- the store with its deeds and copies
abbrev pub asked_of : {D : Type 0} → Serving D → CopyAsked D
asked_of s = record { store = s.store; deeds = s.deeds; copies = s.copies }

-- a store that was just opened to serve: with room for as many strikes as a lane has that serves
abbrev pub opening_to_serve : {D : Type 0} → Layout → D → StoreState D
opening_to_serve layout device = opening_with (strikes_of layout.sets) layout device

-- A lane of a number that was just opened to serve, of this layout over a device, with this many slots for leases, which have seen no write. If one
-- in so many hits on flash has its object brought back, three of four objects in memory are copies, and the others the store's.
pub record OpensServing {D : Type 0} (layout : Layout) (lease_slots bring_back number : ℕ) (seed : RandomSeed) (device : D) (new : Serving D) : Type 0 where
  pub numbers : HasNumbersOf new.store.layout (numbers_without layout (copies_of bring_back layout.memory))
  pub opened : new ≡ record {
    store = opening_to_serve new.store.layout device;
    deeds = [];
    copies = copies_for bring_back (copies_of bring_back layout.memory);
    slots = no_writes number seed lease_slots;
    counts = no_counts;
  }

-- When each refusal to open a lane comes, over a device of this many pages: there is no slot; else those of a store.
abbrev pub RefusesLane : ℕ → Config → ℕ → ℕ → OpenLaneFault → Type 0
RefusesLane size config slots pages faults.NoLeaseSlots = slots ≡ 0
RefusesLane size config slots pages (faults.Store fault) = (1 ≤ slots) × RefusesStore size config pages fault

-- A get that was answered so. A hit is its key's latest value not since removed, live at the moment; the answer is a deed after the
-- others, and counted; what the slots show stays; and answer, store and copies are as a copy's answer has them, or a store's get.
pub record Gets {D : Type 0} (size : ℕ) (honest : D → Bool) (failures : D → ℕ) (held : D → ℕ → Option (List ℕ)) (key : List ℕ) (moment : ℕ) (answer : Answer) (old new : Serving D) : Type 0 where
  pub live : IsLiveHit (IsTrue (honest old.store.device)) old.deeds key moment answer
  pub deeds : new.deeds ≡ old.deeds ++ record { key = key; act = act_of moment answer } ∷ []
  pub copied : Copied
  pub counts : new.counts ≡ counts_get copied answer old.counts
  pub slots : new.slots ≡ old.slots
  pub gets : GetsCopied size honest failures held copied key moment answer (asked_of old) (asked_of new)

-- A put that was stored: it is the store's put of the pair, its deed stands after the others, the copy of its key is gone, the slot of its
-- key shows a write more, and it is counted.
pub record PutsStore {D : Type 0} (size : ℕ) (held : D → ℕ → Option (List ℕ)) (p : Pair) (word : ℕ) (pushed : Pushed) (old new : Serving D) : Type 0 where
  pub puts : StorePuts size held p word old.store (Ok pushed) new.store
  pub deeds : new.deeds ≡ old.deeds ++ record { key = p.key; act = Put p.value.value p.value.expires } ∷ []
  pub copies : new.copies ≡ copy_gone p.key old.copies
  pub slots : new.slots ≡ with_write old.slots p.key
  pub counts : new.counts ≡ counts_put p.key p.value.value pushed old.counts

-- A fill that was stored, by a lease of its lane and its key that had not ended: as a put, and the key was not written since the lease
-- was given.
pub record FillsStore {D : Type 0} (size : ℕ) (held : D → ℕ → Option (List ℕ)) (p : Pair) (word : ℕ) (lease : Lease) (pushed : Pushed) (old new : Serving D) : Type 0 where
  pub leased : HoldsLease old.slots p.key lease
  pub unwritten : IsUnwrittenSince old.slots old.deeds p.key lease.writes
  pub puts : StorePuts size held p word old.store (Ok pushed) new.store
  pub deeds : new.deeds ≡ old.deeds ++ record { key = p.key; act = Put p.value.value p.value.expires } ∷ []
  pub copies : new.copies ≡ copy_gone p.key old.copies
  pub slots : new.slots ≡ with_write old.slots p.key
  pub counts : new.counts ≡ counts_fill p.key p.value.value pushed old.counts

-- what a fill leaves: if it is stale, all but a counter
abbrev pub FillLeaves : {D : Type 0} → ℕ → (D → ℕ → Option (List ℕ)) → Pair → ℕ → Lease → Serving D → Serving D → Filled → Type 0
FillLeaves size held p word lease old new (Stored pushed) = FillsStore size held p word lease pushed old new
FillLeaves size held p word lease old new Stale = new ≡ record old { counts = counts_stale old.counts }

-- A removal: it is the store's, its deed stands after the others, the copy of its key is gone, the slot of its key shows a write more, and
-- it is counted.
pub record Removes {D : Type 0} (held : D → ℕ → Option (List ℕ)) (key : List ℕ) (old new : Serving D) : Type 0 where
  pub removes : StoreRemoves held key old.store new.store
  pub deeds : new.deeds ≡ old.deeds ++ record { key = key; act = Remove } ∷ []
  pub copies : new.copies ≡ copy_gone key old.copies
  pub slots : new.slots ≡ with_write old.slots key
  pub counts : new.counts ≡ counts_removal old.counts
