-- When a get makes no call of the device, and what it leaves of a store on any device.
use Rattle.std.specs.Prelude.{◌≡◌, ◌<◌, ℕ, List, Option, Some, None, IsSomeAnd, Contains, IsTrue, false}
use Rattle.set_hash.specs.declared.placed.Placed.{Placed}
use Rattle.record_pages.specs.Expiry.{timed, value_at}
use Rattle.record_pages.specs.Sizes.{max_set_records}
use Rattle.record_pages.specs.declared.answer.Answer.{Answer}
use Rattle.record_pages.specs.declared.answer.Answer.TheVariants.{Hit, Miss}
use Rattle.record_pages.specs.declared.miss_cause.MissCause.TheVariants.{Expired}
use Rattle.record_pages.specs.declared.tier.Tier.TheVariants.{Memory, Log, Set}
use Rattle.memory_cache.specs.MemoryList.{value_in, after_get}
use Rattle.klog_index.specs.declared.entry.Entry.{Entry}
use Rattle.klog_index.specs.Entries.{of_tag}
use Rattle.record_pages.specs.declared.looked.Looked.TheVariants as look
use Rattle.record_pages.specs.declared.looked.Looked.{Looked}
use Rattle.klog.specs.Known.{is_buffered, AreBuffered}
use Rattle.klog.specs.Look.{lowered_in}
use Rattle.klog.specs.Shown.{place_in}
use Rattle.kset.specs.Notes.{lets_show}
use Rattle.kset.specs.Sets.{notes_of, hit_in}
use Rattle.mover.specs.Store.{StoreState}
use Rattle.mover.specs.Leaving.{HasAll, HasLog}

-- no page is needed to answer a key: the entries of its set and tag lie in the log's buffers, and its set's filter
-- denies it or it is struck there
pub record AsksNothing {D : Type 0} (key : List ℕ) (s : StoreState D) : Type 0 where
  pub buffered : AreBuffered s.log (of_tag (place_in s.log.shape key).set (place_in s.log.shape key).tag s.log.entries)
  pub denied : lets_show (notes_of s.sets (place_in s.log.shape key).set) (place_in s.log.shape key).hash ≡ false

-- if something holds no call of the device was made
pub record IfThen (P not_called : Type 0) : Type 0 where
  pub asks_not : P → not_called

-- a hit in memory: it has this value of the key, whose pair comes to the front; nothing else changes, the device neither
pub record Recalls {D : Type 0} (key value : List ℕ) (old new : StoreState D) : Type 0 where
  pub expires : ℕ
  pub its : value_in key old.memory.pairs ≡ Some (timed value expires)
  pub rest : new ≡ record old { memory = after_get key old.memory }

-- a hit in the log: one entry of this set and tag is asked for once more, and nothing else changes but the device; that
-- neither if the entry lies in a buffer
pub record LowersOne {D : Type 0} (at : Placed) (old new : StoreState D) : Type 0 where
  pub entry : Entry
  pub listed : Contains (of_tag at.set at.tag old.log.entries) entry
  pub rest : HasLog (lowered_in old.log at.set entry.place) old new
  pub unasked : IsTrue (is_buffered old.log entry) → new.device ≡ old.device

-- a hit in a set: one slot of its page is noted as hit, and nothing else changes but the device
pub record NotesHit {D : Type 0} (set : ℕ) (old new : StoreState D) : Type 0 where
  pub slot : ℕ
  pub within : slot < max_set_records
  pub rest : new ≡ record old { device = new.device; sets = hit_in old.sets set slot }

-- what memory tells by what its pair of a key gives: its value, and the pair comes to the front; or that it has expired, and all
-- stays
abbrev pub RecallsBy : {D : Type 0} → Option (List ℕ) → List ℕ → StoreState D → Answer → StoreState D → Type 0
RecallsBy (Some value) key old answer new = (answer ≡ Hit value Memory) × (new ≡ record old { memory = after_get key old.memory })
RecallsBy None key old answer new = (answer ≡ Miss Expired) × (new ≡ old)

-- what memory tells of a key at a moment; if it has no pair of the key all stays
abbrev pub MemoryTells : {D : Type 0} → List ℕ → ℕ → StoreState D → Option Answer → StoreState D → Type 0
MemoryTells key moment old None new = (value_in key old.memory.pairs ≡ None) × (new ≡ old)
MemoryTells key moment old (Some answer) new =
    IsSomeAnd (value_in key old.memory.pairs) (λ v. RecallsBy (value_at moment v) key old answer new)

-- what a look into the log for a key of this place leaves, by what it tells
abbrev pub LogLeaves : {D : Type 0} → Placed → Looked → StoreState D → StoreState D → Type 0
LogLeaves at (look.Hit value) old new = LowersOne at old new
LogLeaves at look.Expired old new = HasAll old new
LogLeaves at look.Absent old new = HasAll old new
LogLeaves at look.Fault old new = HasAll old new
LogLeaves at look.Damaged old new = HasAll old new

-- what a look into a set leaves, by what it answers
abbrev pub SetLeaves : {D : Type 0} → ℕ → Answer → StoreState D → StoreState D → Type 0
SetLeaves set (Hit value Memory) old new = ⊥
SetLeaves set (Hit value Log) old new = ⊥
SetLeaves set (Hit value Set) old new = NotesHit set old new
SetLeaves set (Miss cause) old new = HasAll old new

-- what a get of a key leaves, by what it answers: a miss of any cause changes nothing but the device
abbrev pub GetLeaves : {D : Type 0} → List ℕ → Answer → StoreState D → StoreState D → Type 0
GetLeaves key (Hit value Memory) old new = Recalls key value old new
GetLeaves key (Hit value Log) old new = LowersOne (place_in old.log.shape key) old new
GetLeaves key (Hit value Set) old new = NotesHit (place_in old.log.shape key).set old new
GetLeaves key (Miss cause) old new = HasAll old new
