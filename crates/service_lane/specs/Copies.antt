-- Copies in memory of objects on flash, and what a get does with them.
use Rattle.std.specs.Prelude.{◌≡◌, ℕ, ◌-◌, ◌*◌, ◌/◌, List, [], Option, Some, None, option_map, option_and_then, Ok, Bool, true, IsTrue, not, nat_lt, ◌==◌, if◌then◌else◌}
use Rattle.record_pages.specs.Expiry.{is_live, timed}
use Rattle.record_pages.specs.declared.config.Config.{Config}
use Rattle.record_pages.specs.declared.layout.Layout.{Layout}
use Rattle.record_pages.specs.declared.answer.Answer.{Answer}
use Rattle.record_pages.specs.declared.answer.Answer.TheVariants.{Hit, Miss}
use Rattle.record_pages.specs.declared.tier.Tier.TheVariants.{Memory, Log, Set}
use Rattle.record_pages.specs.declared.timed_value.TimedValue.{TimedValue}
use Rattle.memory_cache.specs.declared.pair.Pair.{Pair}
use Rattle.memory_cache.specs.MemoryList.{MemoryList, empty, value_in, after_put, pushed_out, after_get, after_remove}
use Rattle.mover.specs.Calls.{StoreGets, StorePutsBack}
use Rattle.mover.specs.Get.{answer_of}
use Rattle.mover.specs.declared.answer_kind.AnswerKind.{AnswerKind}
use Rattle.mover.specs.declared.answer_kind.AnswerKind.TheVariants as kinds
use Rattle.mover.specs.declared.copy_fate.CopyFate.{CopyFate}
use Rattle.mover.specs.Store.{StoreState}
use Rattle.certificate_checker.specs.Deeds.{Deed}
use Rattle.certificate_checker.specs.Current.{current}
use Rattle.service_lane.specs.Asked.{AreCurrent}
use Rattle.service_lane.specs.declared.copied.Copied.{Copied}
use Rattle.service_lane.specs.declared.copied.Copied.TheVariants.{Nothing, Answered, Made}
use Rattle.service_lane.specs.declared.new_copy.NewCopy.{NewCopy}

-- the copies, the most recent first; how many hits on flash there are to one whose object is copied, and how many are left until then
pub record CopyList : Type 0 where
  pub every : ℕ
  pub left : ℕ
  pub held : MemoryList

-- a store, what was asked of it and answered, and the copies, if its lane makes any
pub record CopyAsked (D : Type 0) : Type 0 where
  pub store : StoreState D
  pub deeds : List Deed
  pub copies : Option CopyList

-- no copy yet, with room for this many
abbrev pub no_copies : ℕ → ℕ → CopyList
no_copies every objects = record { every = every; left = every; held = empty objects }

-- the copies of a lane that is told to copy one in so many, into room for so many: if either is none, it makes no copies
abbrev pub copies_for : ℕ → ℕ → Option CopyList
copies_for every objects = if every == 0 then None else if objects == 0 then None else Some (no_copies every objects)

-- how many of a lane's objects in memory are copies: three of four, if it brings any back
abbrev pub copies_of : ℕ → ℕ → ℕ
copies_of bring_back objects = if bring_back == 0 then 0 else objects / 4 * 3

-- a layout's numbers, with so many objects less in memory
abbrev pub numbers_without : Layout → ℕ → Config
numbers_without layout copies = record {
  lanes = layout.lanes;
  sets = layout.sets;
  memory = layout.memory - copies;
  segments = layout.segments;
  segment_pages = layout.segment_pages;
  entries = layout.entries;
  threshold = layout.threshold;
  admit = layout.admit;
}

-- the pairs of the copies
abbrev pub copied_pairs : Option CopyList → List Pair
copied_pairs None = []
copied_pairs (Some c) = c.held.pairs

-- the copies with these in their place
abbrev pub with_held : (MemoryList → MemoryList) → CopyList → CopyList
with_held f c = record c { held = f c.held }

-- a value while it is live
abbrev pub if_live : ℕ → TimedValue → Option TimedValue
if_live moment v = if is_live v.expires moment then Some v else None

-- the live copy of a key
abbrev pub live_copy : List ℕ → ℕ → CopyList → Option TimedValue
live_copy key moment c = option_and_then (if_live moment) (value_in key c.held.pairs)

-- so of a lane
abbrev pub copy_in : List ℕ → ℕ → Option CopyList → Option TimedValue
copy_in key moment copies = option_and_then (live_copy key moment) copies

-- the copy of a key came to the front
abbrev pub copy_raised : List ℕ → Option CopyList → Option CopyList
copy_raised key copies = option_map (with_held (after_get key)) copies

-- the copy of a key is gone
abbrev pub copy_gone : List ℕ → Option CopyList → Option CopyList
copy_gone key copies = option_map (with_held (after_remove key)) copies

-- a copy was made of a pair; the last one goes if there is no room
abbrev pub copy_made : Pair → Option CopyList → Option CopyList
copy_made p copies = option_map (with_held (after_put p)) copies

-- the copy that goes for a copy of a pair, if one goes
abbrev pub copy_pushed : Pair → Option CopyList → Option Pair
copy_pushed p copies = option_and_then (λ c. pushed_out p c.held) copies

-- whether the object of the next hit on flash is to be copied
abbrev pub is_copy_due : CopyList → Bool
is_copy_due c = not (nat_lt 1 c.left)

-- a hit on flash more
abbrev pub hit_counted : CopyList → CopyList
hit_counted c = record c { left = if nat_lt 1 c.left then c.left - 1 else c.every }

-- what an answer of the store counts: a hit on flash
abbrev pub answer_counted : Answer → Option CopyList → Option CopyList
answer_counted (Hit value Memory) copies = copies
answer_counted (Hit value Log) copies = option_map hit_counted copies
answer_counted (Hit value Set) copies = option_map hit_counted copies
answer_counted (Miss cause) copies = copies

-- a hit of this value on flash
abbrev pub IsHitBelow : List ℕ → Answer → Type 0
IsHitBelow found (Hit value Memory) = ⊥
IsHitBelow found (Hit value Log) = value ≡ found
IsHitBelow found (Hit value Set) = value ≡ found
IsHitBelow found (Miss cause) = ⊥

-- If the device is honest, each copy is what its key has, expired or not.
abbrev pub AreCopies : {D : Type 0} → (D → Bool) → CopyAsked D → Type 0
AreCopies honest s = IsTrue (honest s.store.device) → AreCurrent s.deeds (copied_pairs s.copies)

-- A live copy answered, as of a set. It came to the front, and the store was not asked.
pub record CopyAnswers {D : Type 0} (key : List ℕ) (moment : ℕ) (answer : Answer) (old new : CopyAsked D) : Type 0 where
  pub value : TimedValue
  pub copy : copy_in key moment old.copies ≡ Some value
  pub answer_is : answer ≡ Hit value.value Set
  pub store : new.store ≡ old.store
  pub copies : new.copies ≡ copy_raised key old.copies

-- No copy was live, so the store answered.
pub record StoreAnswers {D : Type 0} (size : ℕ) (honest : D → Bool) (failures : D → ℕ) (held : D → ℕ → Option (List ℕ)) (key : List ℕ) (moment : ℕ) (answer : Answer) (old new : CopyAsked D) : Type 0 where
  pub none : copy_in key moment old.copies ≡ None
  pub gets : StoreGets size honest failures held key moment old.store (Ok answer) new.store

-- What an answer leaves of the copies, if a copy was made: it was a hit on flash, whose object was due to be copied.
pub record CopiesHit (key found : List ℕ) (expires : ℕ) (answer : Answer) (old new : Option CopyList) : Type 0 where
  pub due : option_map is_copy_due old ≡ Some true
  pub hit : IsHitBelow found answer
  pub copies : new ≡ copy_made (record { key = key; value = timed found expires }) (answer_counted answer old)

-- A copy was made of a hit, and this is the one that it pushed out.
pub record CopyMade (made : NewCopy) (key found : List ℕ) (expires : ℕ) (answer : Answer) (old new : Option CopyList) : Type 0 where
  pub leaves : CopiesHit key found expires answer old new
  pub pushed : made.pushed ≡ copy_pushed (record { key = key; value = timed found expires }) old

-- what an answer of the store leaves of the copies
abbrev pub HitLeaves : Option NewCopy → List ℕ → AnswerKind → List ℕ → Option CopyList → Option CopyList → Type 0
HitLeaves None key kind found old new = new ≡ answer_counted (answer_of kind found) old
HitLeaves (Some made) key (kinds.Hit tier expires) found old new = CopyMade made key found expires (answer_of (kinds.Hit tier expires) found) old new
HitLeaves (Some made) key (kinds.Miss cause) found old new = ⊥

-- The copy that was pushed out, if one was, went back into a store: what became of it, and the store after it.
abbrev pub PutsBackIf : {D : Type 0} → ℕ → (D → ℕ → Option (List ℕ)) → Option Pair → StoreState D → Option CopyFate → StoreState D → Type 0
PutsBackIf size held None old fate new = (fate ≡ None) × (new ≡ old)
PutsBackIf size held (Some p) old None new = ⊥
PutsBackIf size held (Some p) old (Some fate) new = StorePutsBack size held p old fate new

-- No copy was live, so the store answered. A copy was made of what it had, with the expiry that it has there, and then the copy that went
-- for it went back into the store.
pub record MakesCopy {D : Type 0} (size : ℕ) (honest : D → Bool) (failures : D → ℕ) (held : D → ℕ → Option (List ℕ)) (fate : Option CopyFate) (key : List ℕ) (moment : ℕ) (answer : Answer) (old new : CopyAsked D) : Type 0 where
  pub between : StoreState D
  pub answers : StoreAnswers size honest failures held key moment answer old (record old { store = between })
  pub value : List ℕ
  pub expires : ℕ
  pub current : IsTrue (honest old.store.device) → current old.deeds key ≡ Some (timed value expires)
  pub leaves : CopiesHit key value expires answer old.copies new.copies
  pub pushes : PutsBackIf size held (copy_pushed (record { key = key; value = timed value expires }) old.copies) between fate new.store

-- a get, by what it did with the copies
abbrev pub GetsCopied : {D : Type 0} → ℕ → (D → Bool) → (D → ℕ) → (D → ℕ → Option (List ℕ)) → Copied → List ℕ → ℕ → Answer → CopyAsked D → CopyAsked D → Type 0
GetsCopied size honest failures held Answered key moment answer old new = CopyAnswers key moment answer old new
GetsCopied size honest failures held Nothing key moment answer old new = StoreAnswers size honest failures held key moment answer old new × (new.copies ≡ answer_counted answer old.copies)
GetsCopied size honest failures held (Made fate) key moment answer old new = MakesCopy size honest failures held fate key moment answer old new
