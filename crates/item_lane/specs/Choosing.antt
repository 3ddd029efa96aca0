-- What each command does about the live item of its key, in the words of memcached's doc/protocol.txt.
use Rattle.std.specs.Prelude.{ℕ, List, ◌++◌, length, Bool, true, false, nat_lt, Option, Some, None, ◌==◌, if◌then◌else◌}
use Rattle.std.specs.Option.{option_map_or}
use Rattle.item_lane.specs.declared.condition.Condition.{Condition}
use Rattle.item_lane.specs.declared.counting.Delta.{Delta}
use Rattle.item_lane.specs.declared.head.Head.{Head}
use Rattle.item_lane.specs.declared.condition.StoreMode.{StoreMode}
use Rattle.item_lane.specs.declared.condition.StoreMode.TheVariants.{Add, Replace, Append, Prepend, Invalidate}
use Rattle.item_lane.specs.declared.command_reply.CommandReply.TheVariants as reply
use Rattle.item_lane.specs.Cells.{Kept}
use Rattle.item_lane.specs.Numbers.{number_in, changed, number_text}
use Rattle.item_lane.specs.Plans.{Plan, Keep, Store, Remove}

-- the item has this cas unique, if one is asked for
abbrev pub agrees : Option ℕ → Head → Bool
agrees compare head = option_map_or (λ cas. cas == head.cas) compare true

-- the head of an item that gets other data: it keeps its flags and its expiry, and gets a new cas unique. The item is neither stale
-- nor won any more.
abbrev pub renewed : Head → ℕ → Head
renewed h cas = record { flags = h.flags; cas = cas; expires = h.expires; is_stale = false; is_won = false }

-- an item with other data
abbrev pub with_bytes : Kept → ℕ → List ℕ → Kept
with_bytes item cas bytes = record { head = renewed item.head cas; bytes = bytes }

-- what is stored over a live item
abbrev pub over : StoreMode → Kept → Kept → Kept
over Add given item = given
over Replace given item = given
over Append given item = with_bytes item given.head.cas (item.bytes ++ given.bytes)
over Prepend given item = with_bytes item given.head.cas (given.bytes ++ item.bytes)
over Invalidate given item = given

-- the number that is asked for is lower than the item's
abbrev pub is_older : Option ℕ → Head → Bool
is_older compare head = option_map_or (λ cas. nat_lt cas head.cas) compare false

-- what a store with an older number leaves: the new data and flags, stale; the expiry of the item that was there, and its mark won
abbrev pub stale_over : Kept → Kept → Kept
stale_over given item = record {
  head = record { flags = given.head.flags; cas = given.head.cas; expires = item.head.expires; is_stale = true; is_won = item.head.is_won };
  bytes = given.bytes;
}

-- a store that invalidates, of an item that has another number than the one that is asked for: it is made if that one is older
abbrev pub older_plan : Option ℕ → Kept → Kept → Plan
older_plan compare given item = if is_older compare item.head then Store (stale_over given item) reply.Stored else Keep reply.Exists

-- set: it stores, whatever is there
abbrev pub set_plan : Kept → Plan
set_plan given = Store given reply.Stored

-- no live item: add stores; cas, which is replace with a number, finds none; replace, append and prepend store nothing
abbrev pub absent_plan : StoreMode → Option ℕ → Kept → Plan
absent_plan Add compare given = Store given reply.Stored
absent_plan Replace None given = Keep reply.NotStored
absent_plan Replace (Some cas) given = Keep reply.NotFound
absent_plan Append compare given = Keep reply.NotStored
absent_plan Prepend compare given = Keep reply.NotStored
absent_plan Invalidate None given = Keep reply.NotStored
absent_plan Invalidate (Some cas) given = Keep reply.NotFound

-- a live item: add stores nothing; the others store if the item has the number that is asked for
abbrev pub present_plan : StoreMode → Option ℕ → Kept → Kept → Plan
present_plan Add compare given item = Keep reply.NotStored
present_plan Replace compare given item = if agrees compare item.head then Store (over Replace given item) reply.Stored else Keep reply.Exists
present_plan Append compare given item = if agrees compare item.head then Store (over Append given item) reply.Stored else Keep reply.Exists
present_plan Prepend compare given item = if agrees compare item.head then Store (over Prepend given item) reply.Stored else Keep reply.Exists
present_plan Invalidate compare given item = if agrees compare item.head then Store (over Invalidate given item) reply.Stored else older_plan compare given item

-- add, replace, append, prepend, and each of the last three if the item has a number; replace so is cas
abbrev pub store_plan : Condition → Kept → Option Kept → Plan
store_plan condition given None = absent_plan condition.mode condition.compare given
store_plan condition given (Some item) = present_plan condition.mode condition.compare given item

-- delete: it removes what is there, unless another number is asked for. Where no item is live the key is removed too, so that what a
-- fault of the device hid is gone.
abbrev pub delete_plan : Option ℕ → Option Kept → Plan
delete_plan compare None = Remove reply.NotFound
delete_plan compare (Some item) = if agrees compare item.head then Remove reply.Deleted else Keep reply.Exists

-- touch: the expiry is another, and all else stays, the number too
abbrev pub touch_plan : Option ℕ → Option Kept → Plan
touch_plan expires None = Keep reply.NotFound
touch_plan expires (Some item) = Store (record item { head = record item.head { expires = expires } }) reply.Touched

-- the head of an item whose number was changed: it gets a new cas unique, and all else stays, the marks too
abbrev pub counted : Head → ℕ → Head
counted h cas = record h { cas = cas }

-- incr and decr of an item that holds this number, if it holds one
abbrev pub number_plan : Delta → Kept → Option ℕ → Plan
number_plan delta item None = Keep reply.NotNumber
number_plan delta item (Some n) =
    Store (record { head = counted item.head delta.cas; bytes = number_text (length item.bytes) (changed delta.change n) }) (reply.Number (changed delta.change n))

-- incr and decr: the number that the item holds is changed, if the item has the cas unique that is asked for
abbrev pub delta_plan : Delta → Option Kept → Plan
delta_plan delta None = Keep reply.NotFound
delta_plan delta (Some item) = if agrees delta.compare item.head then number_plan delta item (number_in item.bytes) else Keep reply.Exists
