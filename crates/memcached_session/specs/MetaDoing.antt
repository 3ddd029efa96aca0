-- What a meta command does to the lane of its key, and what it answers.
use Rattle.std.specs.Prelude.{◌≡◌, ℕ, List, Option, Some, None, Result, Ok, Err}
use Rattle.std.specs.Option.{option_map}
use Rattle.record_pages.specs.declared.put_fault.PutFault.{PutFault}
use Rattle.service_lane.specs.Serving.{Serving}
use Rattle.memcached_text.specs.Asked.{MetaAsking}
use Rattle.item_lane.specs.declared.cache_item.CacheItem.{CacheItem}
use Rattle.item_lane.specs.declared.command_reply.CommandReply.{CommandReply}
use Rattle.item_lane.specs.declared.meta_counting.MetaDelta.{MetaDelta}
use Rattle.item_lane.specs.declared.meta_getting.MetaGet.{MetaGet}
use Rattle.item_lane.specs.declared.meta_storing.MetaSet.{MetaSet}
use Rattle.item_lane.specs.Cells.{Kept, kept_shown}
use Rattle.item_lane.specs.Doing.{Does, DoesAndGives, SetsAs}
use Rattle.item_lane.specs.Meta.{condition_of, meta_get_plan, meta_delete_plan, meta_delta_plan}
use Rattle.memcached_session.specs.declared.outcome.SessionOutcome.{SessionOutcome}
use Rattle.memcached_session.specs.declared.outcome.SessionOutcome.TheVariants as outcomes
use Rattle.memcached_session.specs.Framing.{Frame}
use Rattle.memcached_session.specs.MetaReading.{meta_get_in, meta_set_in, meta_kept, meta_delete_in, meta_delta_in}
use Rattle.memcached_session.specs.MetaSaying.{MetaSaid, IsTextOf, get_said, set_said, delete_said, delta_said}
use Rattle.memcached_session.specs.Saying.{Said, outcome_of_reply}

-- this was answered to a meta command, which went so
pub record MetaSays (meta : MetaAsking) (answer : MetaSaid) (outcome : SessionOutcome) (said : Said) : Type 0 where
  pub text : IsTextOf meta answer said.text
  pub outcome_is : said.outcome ≡ outcome

-- how a command went that saw this item: it missed if there was none
abbrev pub outcome_of_item : Option Kept → Result CommandReply PutFault → SessionOutcome
outcome_of_item None (Ok reply) = outcomes.Miss
outcome_of_item None (Err fault) = outcome_of_reply (Err fault)
outcome_of_item (Some item) result = outcome_of_reply result

-- what mg asks for
abbrev pub get_asked : {D : Type 0} → Frame D → MetaAsking → MetaGet
get_asked f meta = meta_get_in f.turn.moment f.cas meta.flags

-- mg
pub record SaysGet {D : Type 0} (f : Frame D) (meta : MetaAsking) (old : Serving D) (said : Said) (new : Serving D) : Type 0 where
  pub item : Option CacheItem
  pub result : Result CommandReply PutFault
  pub does_it : DoesAndGives f.size f.honest f.failures f.held meta.key f.turn (meta_get_plan (get_asked f meta)) old item result new
  pub says : MetaSays meta (get_said f.turn.moment meta.flags (get_asked f meta) (option_map kept_shown item) result) (outcome_of_item (option_map kept_shown item) result) said

-- a store by how ms asks for it
abbrev pub SetsBy : {D : Type 0} → Frame D → MetaAsking → MetaSet → List ℕ → Serving D → Result CommandReply PutFault → Serving D → Type 0
SetsBy f meta asked block old result new =
    SetsAs f.size f.honest f.failures f.held meta.key f.turn (condition_of asked.mode asked.compare asked.invalidates) (meta_kept f.turn.moment f.cas meta.flags block) old result new

-- ms
pub record SaysSet {D : Type 0} (f : Frame D) (meta : MetaAsking) (block : List ℕ) (old : Serving D) (said : Said) (new : Serving D) : Type 0 where
  pub result : Result CommandReply PutFault
  pub does_it : SetsBy f meta (meta_set_in meta.flags) block old result new
  pub says : MetaSays meta (set_said f.cas meta.flags result) (outcome_of_reply result) said

-- md
pub record SaysDelete {D : Type 0} (f : Frame D) (meta : MetaAsking) (old : Serving D) (said : Said) (new : Serving D) : Type 0 where
  pub result : Result CommandReply PutFault
  pub does_it : Does f.size f.honest f.failures f.held meta.key f.turn (meta_delete_plan (meta_delete_in f.turn.moment f.cas meta.flags)) old result new
  pub says : MetaSays meta (delete_said meta.flags result) (outcome_of_reply result) said

-- what ma asks for
abbrev pub delta_asked : {D : Type 0} → Frame D → MetaAsking → MetaDelta
delta_asked f meta = meta_delta_in f.turn.moment f.cas meta.flags

-- ma
pub record SaysDelta {D : Type 0} (f : Frame D) (meta : MetaAsking) (old : Serving D) (said : Said) (new : Serving D) : Type 0 where
  pub item : Option CacheItem
  pub result : Result CommandReply PutFault
  pub does_it : DoesAndGives f.size f.honest f.failures f.held meta.key f.turn (meta_delta_plan (delta_asked f meta)) old item result new
  pub says : MetaSays meta (delta_said f.turn.moment meta.flags (delta_asked f meta) (option_map kept_shown item) result) (outcome_of_item (option_map kept_shown item) result) said
