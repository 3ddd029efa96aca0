-- What a command does to a lane.
use Rattle.std.specs.Prelude.{◌≡◌, ◌<◌, ◌⊎◌, ℕ, List, length, Option, Some, None, Bool, Result, Ok, Err}
use Rattle.record_pages.specs.Expiry.{timed}
use Rattle.record_pages.specs.Sizes.{object_size, room}
use Rattle.record_pages.specs.declared.answer.Answer.{Answer}
use Rattle.record_pages.specs.declared.pushed.Pushed.{Pushed}
use Rattle.record_pages.specs.declared.put_fault.PutFault.{PutFault}
use Rattle.record_pages.specs.declared.put_fault.PutFault.TheVariants.{TooLarge, OutOfMemory}
use Rattle.memory_cache.specs.declared.pair.Pair.{Pair}
use Rattle.service_lane.specs.Counting.{counts_refused_put}
use Rattle.service_lane.specs.Serving.{Serving, Gets, PutsStore, Removes}
use Rattle.item_lane.specs.declared.command_turn.CommandTurn.{CommandTurn}
use Rattle.item_lane.specs.declared.command_reply.CommandReply.{CommandReply}
use Rattle.std.specs.Option.{option_map}
use Rattle.item_lane.specs.declared.cache_item.CacheItem.{CacheItem}
use Rattle.item_lane.specs.Cells.{Kept, kept_shown, cell_text, expires_of}
use Rattle.item_lane.specs.Live.{live_in}
use Rattle.item_lane.specs.declared.condition.Condition.{Condition}
use Rattle.item_lane.specs.Choosing.{set_plan, store_plan}
use Rattle.item_lane.specs.Plans.{Plan, Keep, Store, Remove}

-- a key with the cell of an item, which expires when the item does
abbrev pub pair_with : List ℕ → Kept → Pair
pair_with key kept = record { key = key; value = timed (cell_text kept) (expires_of kept.head) }

-- an item is too large: its cell is no value, or fits on no page with its key
abbrev pub IsTooLarge : ℕ → List ℕ → Kept → Type 0
IsTooLarge size key kept = (2048 < length (cell_text kept)) ⊎ (room size < object_size key (cell_text kept))

-- An item was stored: the lane put its cell, by this word of admission.
pub record Stores {D : Type 0} (size : ℕ) (held : D → ℕ → Option (List ℕ)) (key : List ℕ) (kept : Kept) (word : ℕ) (old new : Serving D) : Type 0 where
  pub pushed : Pushed
  pub puts : PutsStore size held (pair_with key kept) word pushed old new

-- the lane refused a put for want of memory, which is counted
abbrev pub without_put : {D : Type 0} → Serving D → Serving D
without_put old = record old { counts = counts_refused_put OutOfMemory old.counts }

-- An item was not stored, and its key was removed: it is too large; or memory was refused, for the copies of its bytes or in the lane.
abbrev pub Refuses : {D : Type 0} → ℕ → (D → ℕ → Option (List ℕ)) → List ℕ → Kept → Serving D → PutFault → Serving D → Type 0
Refuses size held key kept old TooLarge new = IsTooLarge size key kept × Removes held key old new
Refuses size held key kept old OutOfMemory new = (¬ IsTooLarge size key kept) × (Removes held key old new ⊎ Removes held key (without_put old) new)

-- an item was stored, or its key removed
abbrev pub Lands : {D A : Type 0} → ℕ → (D → ℕ → Option (List ℕ)) → List ℕ → Kept → ℕ → Serving D → Result A PutFault → Serving D → Type 0
Lands size held key kept word old (Ok done) new = Stores size held key kept word old new
Lands size held key kept word old (Err fault) new = Refuses size held key kept old fault new

-- an item was stored, and this was replied; or its key was removed
abbrev pub LandsAs : {D : Type 0} → ℕ → (D → ℕ → Option (List ℕ)) → List ℕ → Kept → ℕ → CommandReply → Serving D → Result CommandReply PutFault → Serving D → Type 0
LandsAs size held key kept word reply old (Ok replied) new = (replied ≡ reply) × Stores size held key kept word old new
LandsAs size held key kept word reply old (Err fault) new = Refuses size held key kept old fault new

-- A plan was followed.
abbrev pub Follows : {D : Type 0} → ℕ → (D → ℕ → Option (List ℕ)) → List ℕ → ℕ → Plan → Serving D → Result CommandReply PutFault → Serving D → Type 0
Follows size held key word (Keep reply) old result new = (result ≡ Ok reply) × (new ≡ old)
Follows size held key word (Store kept reply) old result new = LandsAs size held key kept word reply old result new
Follows size held key word (Remove reply) old result new = (result ≡ Ok reply) × Removes held key old new

-- A command: the lane answered a get of the key at the moment, and the plan was followed that the command has for the live item of that
-- answer, or for none.
pub record Does {D : Type 0} (size : ℕ) (honest : D → Bool) (failures : D → ℕ) (held : D → ℕ → Option (List ℕ)) (key : List ℕ) (turn : CommandTurn) (plan_for : Option Kept → Plan) (old : Serving D) (result : Result CommandReply PutFault) (new : Serving D) : Type 0 where
  pub answer : Answer
  pub between : Serving D
  pub gets : Gets size honest failures held key turn.moment answer old between
  pub follows : Follows size held key turn.word (plan_for (live_in turn.flushed answer)) between result new

-- A command that also gives the live item of the answer, as it was before.
pub record DoesAndGives {D : Type 0} (size : ℕ) (honest : D → Bool) (failures : D → ℕ) (held : D → ℕ → Option (List ℕ)) (key : List ℕ) (turn : CommandTurn) (plan_for : Option Kept → Plan) (old : Serving D) (item : Option CacheItem) (result : Result CommandReply PutFault) (new : Serving D) : Type 0 where
  pub answer : Answer
  pub between : Serving D
  pub gets : Gets size honest failures held key turn.moment answer old between
  pub item_is : option_map kept_shown item ≡ live_in turn.flushed answer
  pub follows : Follows size held key turn.word (plan_for (live_in turn.flushed answer)) between result new

-- A store by this condition of the live item; with none nothing is read, and it is a set.
abbrev pub SetsAs : {D : Type 0} → ℕ → (D → Bool) → (D → ℕ) → (D → ℕ → Option (List ℕ)) → List ℕ → CommandTurn → Option Condition → Kept → Serving D → Result CommandReply PutFault → Serving D → Type 0
SetsAs size honest failures held key turn None given old result new = Follows size held key turn.word (set_plan given) old result new
SetsAs size honest failures held key turn (Some condition) given old result new = Does size honest failures held key turn (store_plan condition given) old result new
