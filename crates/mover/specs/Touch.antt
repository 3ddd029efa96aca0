-- Where a store has a key, and what a touch of it changes.
use Rattle.std.specs.Prelude.{◌≡◌, ◌<◌, ℕ, List, Option, Bool, true, false, Ok, IsTrue}
use Rattle.record_pages.specs.Expiry.{value_at}
use Rattle.record_pages.specs.Recs.{Rec}
use Rattle.record_pages.specs.Sizes.{max_set_records}
use Rattle.record_pages.specs.declared.answer.Answer.{Answer}
use Rattle.record_pages.specs.declared.answer.Answer.TheVariants.{Hit, Miss}
use Rattle.record_pages.specs.declared.looked.Looked.{Looked}
use Rattle.record_pages.specs.declared.tier.Tier.TheVariants.{Memory, Log, Set}
use Rattle.set_hash.specs.declared.placed.Placed.{Placed}
use Rattle.memory_cache.specs.MemoryList.{after_get}
use Rattle.klog_index.specs.declared.entry.Entry.{Entry}
use Rattle.klog_index.specs.Entries.{of_tag}
use Rattle.klog.specs.Known.{AreBuffered}
use Rattle.klog.specs.Log.{LogState}
use Rattle.klog.specs.Look.{lowered_in, is_log_fault, IsInBuffers}
use Rattle.klog.specs.Shown.{place_in}
use Rattle.kset.specs.declared.located_in_set.LocatedInSet.{LocatedInSet}
use Rattle.kset.specs.declared.located_in_set.LocatedInSet.TheVariants as set
use Rattle.kset.specs.Notes.{lets_show}
use Rattle.kset.specs.Sets.{SetsState, notes_of, hit_in, set_count}
use Rattle.record_pages.specs.declared.miss_cause.MissCause.TheVariants.{Absent, Expired, Fault, Damaged}
use Rattle.mover.specs.declared.located.Located.{Located}
use Rattle.mover.specs.declared.located.Located.TheVariants as at
use Rattle.mover.specs.Asking.{AsksNothing, IfThen, LogLeaves, SetLeaves, GetLeaves}
use Rattle.mover.specs.Calls.{AnswersFromBuffers, TellsRecord}
use Rattle.mover.specs.Get.{LogTells, StepGives, NeedsFlashPage, NeedsSetPage, ask_log, ask_set, is_fault}
use Rattle.mover.specs.Lane.{lane_of}
use Rattle.mover.specs.Store.{StoreState, OnlyReads}

-- the answer by where a key is located, with this in the buffer
abbrev pub answer_at : Located → List ℕ → Answer
answer_at (at.Memory expires) buffer = Hit buffer Memory
answer_at (at.Log e expires) buffer = Hit buffer Log
answer_at (at.Set set slot expires) buffer = Hit buffer Set
answer_at (at.Miss cause) buffer = Miss cause

-- a value is located
abbrev pub has_value : Located → Bool
has_value (at.Miss cause) = false
has_value _ = true

-- The store after a touch of what is located: the key's pair comes to the front of memory, or the entry is asked for once more,
-- or the slot is noted as hit. Nothing else changes, and without a value nothing.
abbrev pub touched : {D : Type 0} → List ℕ → Located → StoreState D → StoreState D
touched key (at.Memory expires) s = record s { memory = after_get key s.memory }
touched key (at.Log e expires) s = record s { log = lowered_in s.log e.set e.place }
touched key (at.Set set slot expires) s = record s { sets = hit_in s.sets set slot }
touched key (at.Miss cause) s = s

-- what is located is the slot of a page, if it is on one, and of one of this many sets
abbrev pub IsOfSets : Located → ℕ → Type 0
IsOfSets (at.Memory expires) sets = Unit {0}
IsOfSets (at.Log e expires) sets = Unit {0}
IsOfSets (at.Set set slot expires) sets = (set < sets) × (slot < max_set_records)
IsOfSets (at.Miss cause) sets = Unit {0}

-- what is located can be touched
abbrev pub CanTouch : {D : Type 0} → Located → StoreState D → Type 0
CanTouch l s = IsOfSets l (set_count s.sets)

-- the store with this device, this log and these sets
abbrev pub with_flash : {D : Type 0} → StoreState D → D → LogState → SetsState → StoreState D
with_flash s device log sets = record s { device = device; log = log; sets = sets }

-- where a store has a key, by what the set of this number locates
abbrev pub in_set : ℕ → LocatedInSet → Located
in_set n (set.Hit slot expires) = at.Set n slot expires
in_set n set.Expired = at.Miss Expired
in_set n set.Absent = at.Miss Absent
in_set n set.Fault = at.Miss Fault
in_set n set.Damaged = at.Miss Damaged

-- A look into the log, by what it tells and the store after the touch. On any device no page is written; if the device is
-- honest, what is said is of the lane's live records.
pub record LooksInLog {D : Type 0} (size : ℕ) (honest : D → Bool) (failures : D → ℕ) (held : D → ℕ → Option (List ℕ)) (placed : Placed) (key : List ℕ) (moment : ℕ) (old : StoreState D) (looked : Looked) (new : StoreState D) : Type 0 where
  pub reads : OnlyReads honest failures held old (is_log_fault (Ok looked)) new
  pub leaves : LogLeaves placed looked old new
  pub unasked : IfThen (AreBuffered old.log (of_tag placed.set placed.tag old.log.entries)) (new.device ≡ old.device)
  pub in_buffers : (e : Entry) (r : Rec) → IsInBuffers size old.log placed.set placed.tag key e r → TellsRecord (value_at moment r.value) placed.set e old looked new
  pub tells : IsTrue (honest old.device) → LogTells key moment (lane_of held old) looked (lane_of held new)

-- A look into the set of a key, by its answer and the store after the touch. A key that the set's filter denies needs no call
-- of the device.
pub record LooksInSet {D : Type 0} (honest : D → Bool) (failures : D → ℕ) (held : D → ℕ → Option (List ℕ)) (placed : Placed) (key : List ℕ) (moment : ℕ) (old : StoreState D) (answer : Answer) (new : StoreState D) : Type 0 where
  pub reads : OnlyReads honest failures held old (is_fault (Ok answer)) new
  pub leaves : SetLeaves placed.set answer old new
  pub unasked : IfThen (lets_show (notes_of old.sets placed.set) placed.hash ≡ false) (new.device ≡ old.device)
  pub gives : IsTrue (honest old.device) → StepGives (ask_set key moment (lane_of held old)) (NeedsSetPage key (lane_of held old)) (lane_of held old) answer (lane_of held new)

-- A look into the tiers on flash, by its answer and the store after the touch.
pub record LooksBelow {D : Type 0} (size : ℕ) (honest : D → Bool) (failures : D → ℕ) (held : D → ℕ → Option (List ℕ)) (key : List ℕ) (moment : ℕ) (old : StoreState D) (answer : Answer) (new : StoreState D) : Type 0 where
  pub reads : OnlyReads honest failures held old (is_fault (Ok answer)) new
  pub leaves : GetLeaves key answer old new
  pub unasked : IfThen (AsksNothing key old) (new.device ≡ old.device)
  pub in_buffers : (e : Entry) (r : Rec) → IsInBuffers size old.log (place_in old.log.shape key).set (place_in old.log.shape key).tag key e r → AnswersFromBuffers key moment e r old answer new
  pub gives : IsTrue (honest old.device) → StepGives (ask_log key moment (lane_of held old)) (NeedsFlashPage key (lane_of held old)) (lane_of held old) answer (lane_of held new)
