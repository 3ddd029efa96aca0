-- What each meta command does about the live item of its key, in the words of memcached's doc/protocol.txt.
use Rattle.std.specs.Prelude.{ℕ, [], Bool, true, false, not, ◌&&◌, ◌||◌, nat_lt, ◌==◌, Option, Some, None, if◌then◌else◌}
use Rattle.std.specs.Fmt.{decimal}
use Rattle.item_lane.specs.declared.condition.Condition.{Condition}
use Rattle.item_lane.specs.declared.condition.StoreMode.TheVariants as store
use Rattle.item_lane.specs.declared.counting.Delta.{Delta}
use Rattle.item_lane.specs.declared.expiry_change.ExpiryChange.{ExpiryChange}
use Rattle.item_lane.specs.declared.expiry_change.ExpiryChange.TheVariants.{Stays, Becomes}
use Rattle.item_lane.specs.declared.head.Head.{Head}
use Rattle.item_lane.specs.declared.item_marks.ItemMarks.{ItemMarks}
use Rattle.item_lane.specs.declared.meta_counting.MetaDelta.{MetaDelta}
use Rattle.item_lane.specs.declared.meta_counting.InitialNumber.{InitialNumber}
use Rattle.item_lane.specs.declared.meta_deleting.Invalidation.{Invalidation}
use Rattle.item_lane.specs.declared.meta_deleting.MetaDelete.{MetaDelete}
use Rattle.item_lane.specs.declared.meta_getting.MetaGet.{MetaGet}
use Rattle.item_lane.specs.declared.meta_getting.Recache.{Recache}
use Rattle.item_lane.specs.declared.meta_getting.Vivify.{Vivify}
use Rattle.item_lane.specs.declared.meta_storing.MetaMode.{MetaMode}
use Rattle.item_lane.specs.declared.meta_storing.MetaMode.TheVariants.{Set, Add, Replace, Append, Prepend}
use Rattle.item_lane.specs.declared.command_reply.CommandReply.TheVariants as reply
use Rattle.item_lane.specs.Cells.{Kept}
use Rattle.item_lane.specs.Choosing.{agrees, delta_plan}
use Rattle.item_lane.specs.Plans.{Plan, Keep, Store, Remove}

-- T: the expiry of an item after a change of it
abbrev pub expiry_after : ExpiryChange → Option ℕ → Option ℕ
expiry_after Stays expires = expires
expiry_after (Becomes moment) expires = moment

-- whether a change gives an expiry
abbrev pub gives_expiry : ExpiryChange → Bool
gives_expiry Stays = false
gives_expiry (Becomes moment) = true

-- an item with another expiry
abbrev pub with_expiry : ExpiryChange → Kept → Kept
with_expiry change item = record item { head = record item.head { expires = expiry_after change item.head.expires } }

-- it expires before a moment; what never expires does not
abbrev pub ends_before : ℕ → Option ℕ → Bool
ends_before moment None = false
ends_before moment (Some expires) = nat_lt expires moment

-- the expiry that R looks at: the one that T gives, if T stands before R in the line
abbrev pub expiry_seen : Recache → ExpiryChange → Head → Option ℕ
expiry_seen recache touch head = if recache.is_after_touch then expiry_after touch head.expires else head.expires

-- R: the item expires before the moment that is asked for
abbrev pub is_due : Option Recache → ExpiryChange → Head → Bool
is_due None touch head = false
is_due (Some recache) touch head = ends_before recache.before (expiry_seen recache touch head)

-- W: the item is stale or due, and no client was told so before
abbrev pub wins : MetaGet → Head → Bool
wins request head = not head.is_won && (head.is_stale || is_due request.recache request.touch head)

-- what is told of a live item: Z if a client was told before to refresh it, X if it is stale, W if this client is to refresh it
abbrev pub told : MetaGet → Head → ItemMarks
told request head = record { is_awaited = head.is_won; is_stale = head.is_stale; has_won = wins request head }

-- the head of an item after a meta get: T gives it an expiry, and a client that wins leaves the mark won
abbrev pub asked : MetaGet → Head → Head
asked request head = record {
  flags = head.flags;
  cas = head.cas;
  expires = expiry_after request.touch head.expires;
  is_stale = head.is_stale;
  is_won = head.is_won || wins request head;
}

-- N: the empty item that a miss stores; the client that missed has won it
abbrev pub vivified : Vivify → Kept
vivified vivify = record { head = record { flags = 0; cas = vivify.cas; expires = vivify.expires; is_stale = false; is_won = true }; bytes = [] }

-- what is told of an item that a miss stored: W
abbrev pub just_won : ItemMarks
just_won = record { is_awaited = false; is_stale = false; has_won = true }

-- a miss
abbrev pub vivify_plan : Option Vivify → Plan
vivify_plan None = Keep reply.NotFound
vivify_plan (Some vivify) = Store (vivified vivify) (reply.Found just_won)

-- mg: a miss stores the empty item, if N is asked for; a hit stores the item again if its expiry or its mark is another
abbrev pub meta_get_plan : MetaGet → Option Kept → Plan
meta_get_plan request None = vivify_plan request.vivify
meta_get_plan request (Some item) =
    if gives_expiry request.touch || wins request item.head then Store (record item { head = asked request item.head }) (reply.Found (told request item.head)) else Keep (reply.Found (told request item.head))

-- I of md: the item is stale, and next time a client wins; it has a new cas unique, and the expiry that T gives
abbrev pub invalidated : Invalidation → Kept → Kept
invalidated i item = record {
  head = record { flags = item.head.flags; cas = i.cas; expires = expiry_after i.touch item.head.expires; is_stale = true; is_won = false };
  bytes = item.bytes;
}

-- md of an item that has the number that is asked for: it is removed, or I marks it as stale
abbrev pub end_plan : Option Invalidation → Kept → Plan
end_plan None item = Remove reply.Deleted
end_plan (Some i) item = Store (invalidated i item) reply.Invalidated

-- md: where no item is live the key is removed too, as a delete does
abbrev pub meta_delete_plan : MetaDelete → Option Kept → Plan
meta_delete_plan request None = Remove reply.NotFound
meta_delete_plan request (Some item) = if agrees request.compare item.head then end_plan request.invalidation item else Keep reply.Exists

-- a number to compare; 0 asks for none, in append, prepend and ma
abbrev pub unless_zero : Option ℕ → Option ℕ
unless_zero None = None
unless_zero (Some cas) = if cas == 0 then None else Some cas

-- C of a set: it is the command cas; I makes it a store of a stale item if the number is lower than the item's, and not 0
abbrev pub cas_condition : Bool → ℕ → Condition
cas_condition invalidates cas = record { mode = if invalidates && not (cas == 0) then store.Invalidate else store.Replace; compare = Some cas }

-- ms: how it depends on the live item; a set without C does not
abbrev pub condition_of : MetaMode → Option ℕ → Bool → Option Condition
condition_of Set None invalidates = None
condition_of Set (Some cas) invalidates = Some (cas_condition invalidates cas)
condition_of Add compare invalidates = Some (record { mode = store.Add; compare = None })
condition_of Replace None invalidates = Some (record { mode = store.Replace; compare = None })
condition_of Replace (Some cas) invalidates = Some (cas_condition invalidates cas)
condition_of Append compare invalidates = Some (record { mode = store.Append; compare = unless_zero compare })
condition_of Prepend compare invalidates = Some (record { mode = store.Prepend; compare = unless_zero compare })

-- ma: the change of the number that it makes
abbrev pub delta_of : MetaDelta → Delta
delta_of request = record { change = request.change; cas = request.cas; compare = unless_zero request.compare }

-- N of ma: the item that a miss stores holds the number that J gives
abbrev pub initial_item : ℕ → InitialNumber → Kept
initial_item cas initial = record { head = record { flags = 0; cas = cas; expires = initial.expires; is_stale = false; is_won = false }; bytes = decimal initial.number }

-- a miss of ma: the number that is stored is the one that J gives, with no change
abbrev pub initial_plan : ℕ → Option InitialNumber → Plan
initial_plan cas None = Keep reply.NotFound
initial_plan cas (Some initial) = Store (initial_item cas initial) (reply.Number initial.number)

-- ma: the number is changed, as incr and decr do, and the item gets the expiry that T gives
abbrev pub meta_delta_plan : MetaDelta → Option Kept → Plan
meta_delta_plan request None = initial_plan request.cas request.initial
meta_delta_plan request (Some item) = delta_plan (delta_of request) (Some (with_expiry request.touch item))
