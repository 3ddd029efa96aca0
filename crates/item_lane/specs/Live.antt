-- Which item of a key is live.
use Rattle.std.specs.Prelude.{◌≡◌, ℕ, List, Option, Some, None, Bool, nat_lt, option_and_then, if◌then◌else◌}
use Rattle.std.specs.Option.{option_map}
use Rattle.record_pages.specs.declared.answer.Answer.{Answer}
use Rattle.record_pages.specs.declared.answer.Answer.TheVariants.{Hit, Miss}
use Rattle.service_lane.specs.Serving.{Serving, Gets}
use Rattle.item_lane.specs.declared.command_turn.CommandTurn.{CommandTurn}
use Rattle.item_lane.specs.declared.cache_item.CacheItem.{CacheItem}
use Rattle.item_lane.specs.Cells.{Kept, kept_shown, decoded}

-- an item, unless it was stored before the flush that drew this number
abbrev pub if_spared : ℕ → Kept → Option Kept
if_spared flushed kept = if nat_lt kept.head.cas flushed then None else Some kept

-- the live item of a key of which a lane gave this answer: that of the value of a hit. A miss has none, also one by a fault of the
-- device or by a damaged page.
abbrev pub live_in : ℕ → Answer → Option Kept
live_in flushed (Hit value tier) = option_and_then (if_spared flushed) (decoded value)
live_in flushed (Miss cause) = None

-- A get: the lane answered it, and the item is the live one of that answer.
pub record LooksUp {D : Type 0} (size : ℕ) (honest : D → Bool) (failures : D → ℕ) (held : D → ℕ → Option (List ℕ)) (key : List ℕ) (turn : CommandTurn) (old : Serving D) (item : Option CacheItem) (new : Serving D) : Type 0 where
  pub answer : Answer
  pub gets : Gets size honest failures held key turn.moment answer old new
  pub item_is : option_map kept_shown item ≡ live_in turn.flushed answer
