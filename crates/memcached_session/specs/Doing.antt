-- What a step does to the lane of its key, and what it answers.
use Rattle.std.specs.Prelude.{◌≡◌, ℕ, Bool, false, List, Option, Some, None, Result}
use Rattle.std.specs.Option.{option_map}
use Rattle.record_pages.specs.declared.put_fault.PutFault.{PutFault}
use Rattle.service_lane.specs.Serving.{Serving, Removes}
use Rattle.memcached_text.specs.declared.exptime.Exptime.{Exptime}
use Rattle.memcached_text.specs.declared.fixed_reply.FixedReply.TheVariants as replies
use Rattle.memcached_text.specs.declared.store_command.StoreCommand.{StoreCommand}
use Rattle.memcached_text.specs.declared.store_command.StoreCommand.TheVariants as commands
use Rattle.memcached_text.specs.declared.verb.Direction.{Direction}
use Rattle.memcached_text.specs.declared.verb.Direction.TheVariants.{Up, Down}
use Rattle.memcached_text.specs.Asked.{Storing, Changing}
use Rattle.item_lane.specs.declared.cache_item.CacheItem.{CacheItem}
use Rattle.item_lane.specs.declared.change.Change.{Change}
use Rattle.item_lane.specs.declared.change.Change.TheVariants.{Increment, Decrement}
use Rattle.item_lane.specs.declared.command_reply.CommandReply.{CommandReply}
use Rattle.item_lane.specs.declared.command_turn.CommandTurn.{CommandTurn}
use Rattle.item_lane.specs.declared.condition.Condition.{Condition}
use Rattle.item_lane.specs.declared.condition.StoreMode.TheVariants as modes
use Rattle.item_lane.specs.declared.counting.Delta.{Delta}
use Rattle.item_lane.specs.Cells.{Kept, kept_shown}
use Rattle.item_lane.specs.Choosing.{set_plan, store_plan, delete_plan, touch_plan, delta_plan}
use Rattle.item_lane.specs.Doing.{Does, DoesAndGives, Follows}
use Rattle.item_lane.specs.Live.{LooksUp}
use Rattle.item_lane.specs.Plans.{Plan}
use Rattle.memcached_session.specs.declared.outcome.SessionOutcome.TheVariants as outcomes
use Rattle.memcached_session.specs.Alone.{reply_line}
use Rattle.memcached_session.specs.Expiring.{expires_at}
use Rattle.memcached_session.specs.Framing.{Frame}
use Rattle.memcached_session.specs.MetaDoing.{SaysGet, SaysSet, SaysDelete, SaysDelta}
use Rattle.memcached_session.specs.Keyed.{KeyAsked, KeyGet, KeyGetAndTouch, KeyStore, KeyTooLarge, KeyDelete, KeyDelta, KeyTouch, KeyMetaGet, KeyMetaSet, KeyMetaDelete, KeyMetaDelta}
use Rattle.memcached_session.specs.Saying.{Said, unless_quiet, said_of_reply, said_of_item}

-- the item that a data block is to be
abbrev pub kept_of : ℕ → ℕ → Storing → List ℕ → Kept
kept_of moment cas store block = record {
  head = record { flags = store.flags; cas = cas; expires = expires_at moment store.exptime; is_stale = false; is_won = false };
  bytes = block;
}

-- how a store depends on the live item: set does not; cas is replace with a number
abbrev pub condition_of : StoreCommand → ℕ → Option Condition
condition_of commands.Set cas = None
condition_of commands.Add cas = Some (record { mode = modes.Add; compare = None })
condition_of commands.Replace cas = Some (record { mode = modes.Replace; compare = None })
condition_of commands.Append cas = Some (record { mode = modes.Append; compare = None })
condition_of commands.Prepend cas = Some (record { mode = modes.Prepend; compare = None })
condition_of commands.Cas cas = Some (record { mode = modes.Replace; compare = Some cas })

-- how a number changes
abbrev pub change_of : Direction → ℕ → Change
change_of Up amount = Increment amount
change_of Down amount = Decrement amount

abbrev pub delta_of : ℕ → Changing → Delta
delta_of cas changing = record { change = change_of changing.direction changing.amount; cas = cas; compare = None }

-- a command looked at the live item of a key, and followed its plan for that one
abbrev pub DoesIn : {D : Type 0} → Frame D → List ℕ → (Option Kept → Plan) → Serving D → Result CommandReply PutFault → Serving D → Type 0
DoesIn f key plan_for old result new = Does f.size f.honest f.failures f.held key f.turn plan_for old result new

-- a store, by how it depends on the live item
abbrev pub StoresBy : {D : Type 0} → Frame D → List ℕ → Kept → Option Condition → Serving D → Result CommandReply PutFault → Serving D → Type 0
StoresBy f key kept None old result new = Follows f.size f.held key f.turn.word (set_plan kept) old result new
StoresBy f key kept (Some condition) old result new = DoesIn f key (store_plan condition kept) old result new

-- a command replied this, and that was answered unless the client wants no answer
pub record Replies (does : Result CommandReply PutFault → Type 0) (noreply : Bool) (said : Said) : Type 0 where
  pub result : Result CommandReply PutFault
  pub does_it : does result
  pub said_is : said ≡ said_of_reply noreply result

-- a get of one key: the live item is answered, if there is one
pub record Finds {D : Type 0} (f : Frame D) (key : List ℕ) (with_cas : Bool) (old : Serving D) (said : Said) (new : Serving D) : Type 0 where
  pub item : Option CacheItem
  pub looks : LooksUp f.size f.honest f.failures f.held key f.turn old item new
  pub said_is : said ≡ said_of_item key with_cas (option_map kept_shown item)

-- the same, and the item has another expiry after it
pub record FindsAndTouches {D : Type 0} (f : Frame D) (key : List ℕ) (exptime : Exptime) (with_cas : Bool) (old : Serving D) (said : Said) (new : Serving D) : Type 0 where
  pub item : Option CacheItem
  pub result : Result CommandReply PutFault
  pub does_it : DoesAndGives f.size f.honest f.failures f.held key f.turn (touch_plan (expires_at f.turn.moment exptime)) old item result new
  pub said_is : said ≡ said_of_item key with_cas (option_map kept_shown item)

-- a touch: the live item has the expiry that the client says
pub record Touches {D : Type 0} (size : ℕ) (honest : D → Bool) (failures : D → ℕ) (held : D → ℕ → Option (List ℕ)) (key : List ℕ) (turn : CommandTurn) (exptime : Exptime) (old : Serving D) (result : Result CommandReply PutFault) (new : Serving D) : Type 0 where
  pub does_it : Does size honest failures held key turn (touch_plan (expires_at turn.moment exptime)) old result new

-- a value that is too large is not stored, and its key is removed, so that no older value of it is found
pub record RemovesLarge {D : Type 0} (held : D → ℕ → Option (List ℕ)) (key : List ℕ) (noreply : Bool) (old : Serving D) (said : Said) (new : Serving D) : Type 0 where
  pub removes : Removes held key old new
  pub said_is : said ≡ unless_quiet noreply (reply_line replies.TooLarge) outcomes.TooLarge

-- what is asked of the lane of a key was done, and this was answered to it
abbrev pub DoesKeyed : {D : Type 0} → Frame D → KeyAsked → Serving D → Said → Serving D → Type 0
DoesKeyed f (KeyGet key cas) old said new = Finds f key cas old said new
DoesKeyed f (KeyGetAndTouch key exptime cas) old said new = FindsAndTouches f key exptime cas old said new
DoesKeyed f (KeyStore store block) old said new =
    Replies (λ result. StoresBy f store.key (kept_of f.turn.moment f.cas store block) (condition_of store.mode store.cas) old result new) store.noreply said
DoesKeyed f (KeyTooLarge key noreply) old said new = RemovesLarge f.held key noreply old said new
DoesKeyed f (KeyDelete key noreply) old said new = Replies (λ result. DoesIn f key (delete_plan None) old result new) noreply said
DoesKeyed f (KeyDelta delta) old said new = Replies (λ result. DoesIn f delta.key (delta_plan (delta_of f.cas delta)) old result new) delta.noreply said
DoesKeyed f (KeyTouch key exptime noreply) old said new = Replies (λ result. Touches f.size f.honest f.failures f.held key f.turn exptime old result new) noreply said
DoesKeyed f (KeyMetaGet meta) old said new = SaysGet f meta old said new
DoesKeyed f (KeyMetaSet meta block) old said new = SaysSet f meta block old said new
DoesKeyed f (KeyMetaDelete meta) old said new = SaysDelete f meta old said new
DoesKeyed f (KeyMetaDelta meta) old said new = SaysDelta f meta old said new
