-- What puts, fills and removals answer and leave.
use Rattle.std.specs.Prelude.{◌≡◌, ◌<◌, ◌⊎◌, ◌↔◌, ℕ, List, length}
use Rattle.record_pages.specs.Bounded.{IsKey}
use Rattle.record_pages.specs.Expiry.{timed}
use Rattle.record_pages.specs.declared.pushed.Pushed.{Pushed}
use Rattle.record_pages.specs.declared.put_fault.PutFault.TheVariants.{OutOfMemory}
use Rattle.memory_cache.specs.declared.pair.Pair.{Pair}
use Rattle.rriparoo.specs.Rriparoo.{rriparoo_plan}
use Rattle.service_lane.specs.Counting.{counts_refused_put, counts_refused_fill, counts_stale}
use Rattle.service_lane.specs.Leases.{HoldsLease}
use Rattle.service_lane.specs.declared.lease.Lease.{Lease}
use Rattle.service_lane.specs.Serving.{Removes}
use Rattle.service_lane.specs.WithHelp.{PutsAndHelps, FillsAndHelps}
use Rattle.service_lane.specs.Words.{next_word, next_words}
use Rattle.c_lane.specs.declared.status.Status.{Status}
use Rattle.c_lane.specs.declared.status.Status.TheVariants as statuses
use Rattle.c_lane.specs.Lane.{LaneState, Laws, page_bytes, honest_in, failures_in, held_in}

-- a key with a value and its expiry
abbrev pub pair_of : List ℕ → List ℕ → ℕ → Pair
pair_of key value expires = record { key = key; value = timed value expires }

-- A put that was stored: the lane's put of the pair by the next word of admission, and help after it.
pub record Stores {D : Type 0} (laws : Laws D) (key value : List ℕ) (expires : ℕ) (old new : LaneState D) : Type 0 where
  pub pushed : Pushed
  pub puts : PutsAndHelps page_bytes (honest_in laws) (failures_in laws) (held_in laws) rriparoo_plan (pair_of key value expires) (next_word old.words) pushed old.serving new.serving
  pub words : new.words ≡ next_words old.words

-- the lane refused a put for want of memory: that is counted, and a word was drawn
abbrev pub without_put : {D : Type 0} → LaneState D → LaneState D
without_put old = record {
  serving = record old.serving { counts = counts_refused_put OutOfMemory old.serving.counts };
  words = next_words old.words;
}

-- memory was refused for a put: for the copies of its bytes, or in the lane
abbrev pub LacksMemory : {D : Type 0} → LaneState D → LaneState D → Type 0
LacksMemory old new = (new ≡ old) ⊎ (new ≡ without_put old)

-- What a put leaves, by its status.
abbrev pub PutLeaves : {D : Type 0} → Laws D → List ℕ → List ℕ → ℕ → LaneState D → Status → LaneState D → Type 0
PutLeaves laws key value expires old statuses.Done new = Stores laws key value expires old new
PutLeaves laws key value expires old statuses.WrongKey new = new ≡ old
PutLeaves laws key value expires old statuses.TooLarge new = new ≡ old
PutLeaves laws key value expires old statuses.NoMemory new = LacksMemory old new
PutLeaves laws key value expires old status new = ⊥

-- a key was removed, and no word was drawn
pub record LaneRemoves {D : Type 0} (laws : Laws D) (key : List ℕ) (old new : LaneState D) : Type 0 where
  pub removes : Removes (held_in laws) key old.serving new.serving
  pub words : new.words ≡ old.words

-- memory was refused for a put, and then its key was removed
abbrev pub RemovesBehind : {D : Type 0} → Laws D → List ℕ → LaneState D → LaneState D → Type 0
RemovesBehind laws key old new = LaneRemoves laws key old new ⊎ LaneRemoves laws key (without_put old) new

-- What a put or a removal in its place leaves, by its status.
abbrev pub PutOrRemoveLeaves : {D : Type 0} → Laws D → List ℕ → List ℕ → ℕ → LaneState D → Status → LaneState D → Type 0
PutOrRemoveLeaves laws key value expires old statuses.Done new = Stores laws key value expires old new
PutOrRemoveLeaves laws key value expires old statuses.WrongKey new = new ≡ old
PutOrRemoveLeaves laws key value expires old statuses.TooLarge new = LaneRemoves laws key old new
PutOrRemoveLeaves laws key value expires old statuses.NoMemory new = RemovesBehind laws key old new
PutOrRemoveLeaves laws key value expires old status new = ⊥

-- A fill that was stored, by a lease of its lane and key that had not ended: the lane's fill of the pair by the next word of admission, and help after it.
pub record Fills {D : Type 0} (laws : Laws D) (lease : Lease) (key value : List ℕ) (expires : ℕ) (old new : LaneState D) : Type 0 where
  pub pushed : Pushed
  pub fills : FillsAndHelps page_bytes (honest_in laws) (failures_in laws) (held_in laws) rriparoo_plan (pair_of key value expires) (next_word old.words) lease pushed old.serving new.serving
  pub words : new.words ≡ next_words old.words

-- A fill whose lease had ended, or was another key's or another lane's: that is counted, and a word was drawn.
pub record IsStale {D : Type 0} (lease : Lease) (key : List ℕ) (old new : LaneState D) : Type 0 where
  pub ended : ¬ HoldsLease old.serving.slots key lease
  pub stays : new ≡ record { serving = record old.serving { counts = counts_stale old.serving.counts }; words = next_words old.words }

-- the lane refused a fill for want of memory: that is counted, and a word was drawn
abbrev pub without_fill : {D : Type 0} → LaneState D → LaneState D
without_fill old = record {
  serving = record old.serving { counts = counts_refused_fill OutOfMemory old.serving.counts };
  words = next_words old.words;
}

-- What a fill leaves, by its status.
abbrev pub FillLeaves : {D : Type 0} → Laws D → Lease → List ℕ → List ℕ → ℕ → LaneState D → Status → LaneState D → Type 0
FillLeaves laws lease key value expires old statuses.Done new = Fills laws lease key value expires old new
FillLeaves laws lease key value expires old statuses.Stale new = IsStale lease key old new
FillLeaves laws lease key value expires old statuses.WrongKey new = new ≡ old
FillLeaves laws lease key value expires old statuses.TooLarge new = new ≡ old
FillLeaves laws lease key value expires old statuses.NoMemory new = (new ≡ old) ⊎ (new ≡ without_fill old)
FillLeaves laws lease key value expires old status new = ⊥

-- What a removal leaves, by its status.
abbrev pub RemoveLeaves : {D : Type 0} → Laws D → List ℕ → LaneState D → Status → LaneState D → Type 0
RemoveLeaves laws key old statuses.Done new = LaneRemoves laws key old new
RemoveLeaves laws key old statuses.WrongKey new = new ≡ old
RemoveLeaves laws key old status new = ⊥

-- When bytes are refused, and by which status: for the key, which is looked at first, or for the value.
pub record RefusesBytes (key value : List ℕ) (status : Status) : Type 0 where
  pub wrong_key : (status ≡ statuses.WrongKey) ↔ (¬ IsKey key)
  pub too_large : (status ≡ statuses.TooLarge) ↔ (IsKey key × (2048 < length value))

-- A put, whole: when its bytes are refused, and what it leaves.
pub record Puts {D : Type 0} (laws : Laws D) (key value : List ℕ) (expires : ℕ) (old : LaneState D) (status : Status) (new : LaneState D) : Type 0 where
  pub refuses : RefusesBytes key value status
  pub leaves : PutLeaves laws key value expires old status new

-- A put or a removal in its place, whole.
pub record PutsOrRemoves {D : Type 0} (laws : Laws D) (key value : List ℕ) (expires : ℕ) (old : LaneState D) (status : Status) (new : LaneState D) : Type 0 where
  pub refuses : RefusesBytes key value status
  pub leaves : PutOrRemoveLeaves laws key value expires old status new

-- A fill, whole.
pub record FillsOrNot {D : Type 0} (laws : Laws D) (lease : Lease) (key value : List ℕ) (expires : ℕ) (old : LaneState D) (status : Status) (new : LaneState D) : Type 0 where
  pub refuses : RefusesBytes key value status
  pub leaves : FillLeaves laws lease key value expires old status new

-- A removal, whole: what is no key is refused, and nothing else.
pub record RemovesKey {D : Type 0} (laws : Laws D) (key : List ℕ) (old : LaneState D) (status : Status) (new : LaneState D) : Type 0 where
  pub wrong_key : (status ≡ statuses.WrongKey) ↔ (¬ IsKey key)
  pub leaves : RemoveLeaves laws key old status new
