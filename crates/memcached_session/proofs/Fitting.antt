-- The answer of a step with a lane has at most 2,448 bytes.
use Rattle.std.proofs.Common.{◌≡◌, ℕ, ◌≤◌, ◌==◌, ◌&&◌, nat_le, Bool, true, false, List, length, Option, Some, None, Result, Ok, Err, arith, refl, lit≤, sym, subst, inl, inr}
use Rattle.std.specs.Prelude.{IfSome, option_and_then, if◌then◌else◌}
use Rattle.std.specs.Option.{option_map}
use Rattle.std.proofs.lemmas.Bool.{cases_Bool}
use Rattle.record_pages.specs.declared.put_fault.PutFault.{PutFault}
use Rattle.record_pages.specs.declared.put_fault.PutFault.TheVariants as faults
use Rattle.memcached_text.specs.declared.meta_answer.MetaStatus.{MetaStatus}
use Rattle.memcached_text.specs.declared.meta_answer.MetaStatus.TheVariants as statuses
use Rattle.memcached_text.specs.declared.store_command.StoreCommand.{StoreCommand}
use Rattle.memcached_text.specs.declared.store_command.StoreCommand.TheVariants.{Set, Add, Replace, Append, Prepend, Cas}
use Rattle.memcached_text.specs.declared.verb.MetaCommand.{MetaCommand}
use Rattle.memcached_text.specs.declared.verb.MetaCommand.TheVariants as metas
use Rattle.memcached_text.specs.Asked.{Asked, MetaAsking, AskGet, AskGetAndTouch, AskStore, AskDelete, AskDelta, AskTouch, AskFlushAll, AskStats, AskVersion, AskVerbosity, AskQuit, AskShutdown, AskMetaNoop, AskMeta}
use Rattle.memcached_text.specs.Limits.{AreFlags, HasFlags, GivesFlags, IsBlockWithin}
use Rattle.memcached_text.specs.Steps.{Told, TellMore, TellRequest, TellData, TellTooLarge, TellKey, TellKeysEnd, TellRefused, TellForeign}
use Rattle.memcached_text.specs.Words.{is_key}
use Rattle.item_lane.specs.declared.command_reply.CommandReply.{CommandReply}
use Rattle.item_lane.specs.declared.command_reply.CommandReply.TheVariants as reply
use Rattle.item_lane.specs.declared.item_marks.ItemMarks.{ItemMarks}
use Rattle.item_lane.specs.declared.meta_getting.MetaGet.{MetaGet}
use Rattle.item_lane.specs.declared.meta_getting.Vivify.{Vivify}
use Rattle.record_pages.specs.Bounded.{IsValue}
use Rattle.item_lane.specs.declared.cache_item.CacheItem.{CacheItem}
use Rattle.item_lane.specs.Cells.{Kept, kept_shown}
use Rattle.item_lane.specs.Meta.{vivified}
use Rattle.memcached_session.specs.declared.done.SessionDone.{SessionDone}
use Rattle.memcached_session.specs.declared.outcome.SessionOutcome.{SessionOutcome}
use Rattle.memcached_session.specs.declared.unserved.Unserved.{Unserved}
use Rattle.memcached_session.specs.Counting.{number_of_outcome}
use Rattle.memcached_session.specs.Fitting.{IsLaneAnswer, AsksFlags, IsWentWithin, IsSaidWithin}
use Rattle.memcached_session.specs.Keyed.{KeyAsked, key_in, unless_unserved, keyed_meta, keyed_request, keyed_block, keyed_set, keyed_large, keyed_told, if_keyed, keyed_of}
use Rattle.memcached_session.specs.MetaDoing.{outcome_of_item}
use Rattle.memcached_session.specs.MetaReading.{has_flag}
use Rattle.memcached_session.specs.MetaSaying.{MetaSaid, went_shown, went_with, unless_q, bare, WentDone, WentMiss, told_seen, seen_by, get_said, set_said, delete_said}
use Rattle.memcached_session.specs.Saying.{Said, said, unless_quiet, outcome_of_reply}
use Rattle.memcached_session.specs.Stepping.{written_in, done_by}
use Rattle.memcached_session.specs.Unserving.{unserved_in}
use Rattle.memcached_session.proofs.Short.{whole_by}

-- that an answer was lost is no reply of a command
pub reply_kept : (result : Result CommandReply PutFault) → (number_of_outcome (outcome_of_reply result) == 13) ≡ false
reply_kept (Ok reply.Stored) = refl
reply_kept (Ok reply.NotStored) = refl
reply_kept (Ok reply.Exists) = refl
reply_kept (Ok reply.NotFound) = refl
reply_kept (Ok reply.Deleted) = refl
reply_kept (Ok reply.Touched) = refl
reply_kept (Ok (reply.Number number)) = refl
reply_kept (Ok reply.Invalidated) = refl
reply_kept (Ok (reply.Found marks)) = refl
reply_kept (Ok reply.NotNumber) = refl
reply_kept (Err faults.TooLarge) = refl
reply_kept (Err faults.OutOfMemory) = refl

pub item_kept : (item : Option Kept) (result : Result CommandReply PutFault) → (number_of_outcome (outcome_of_item item result) == 13) ≡ false
item_kept None (Ok replied) = refl
item_kept None (Err fault) = reply_kept (Err fault)
item_kept (Some item) result = reply_kept result

-- an answer that a client may want none of
pub quiet_fits : (noreply : Bool) (text : List ℕ) (outcome : SessionOutcome) → length text ≤ 2448 → (number_of_outcome outcome == 13) ≡ false → IsLaneAnswer (unless_quiet noreply text outcome)
quiet_fits true text outcome few kept = record { few = lit≤ tt; kept = kept }
quiet_fits false text outcome few kept = record { few = few; kept = kept }

-- a meta command's answer that q may keep back
pub unless_q_within : (flags : List ℕ) (said : MetaSaid) → IsSaidWithin said → IsSaidWithin (unless_q flags said)
unless_q_within flags said within = elim (cases_Bool (has_flag 113 flags)) [
  | inl quiet ↦ rw quiet tt
  | inr loud ↦ rw loud within
]

-- the value, if v asks for it
pub went_within : (flags block : List ℕ) → length block ≤ 2048 → IsWentWithin (went_with flags block)
went_within flags block few = elim (cases_Bool (has_flag 118 flags)) [
  | inl wanted ↦ rw wanted few
  | inr unwanted ↦ rw unwanted tt
]

-- an item with at most 2,048 bytes of data, if there is one
abbrev pub IsShortItem : Option Kept → Type 0
IsShortItem item = IfSome item (λ kept. length kept.bytes ≤ 2048)

pub item_short : (item : Option CacheItem) → IfSome item (λ found. IsValue found.bytes.now) → IsShortItem (option_map kept_shown item)
item_short None few = tt
item_short (Some item) few = few

told_within : (moment : ℕ) (flags : List ℕ) (marks : ItemMarks) (item : Option Kept) → IsShortItem item → IsSaidWithin (told_seen moment flags marks item)
told_within moment flags marks None few = tt
told_within moment flags marks (Some item) few = went_within flags item.bytes few

vivified_short : (vivify : Option Vivify) → IsShortItem (option_map vivified vivify)
vivified_short None = tt
vivified_short (Some vivify) = lit≤ tt

seen_short : (flags : List ℕ) (request : MetaGet) (item : Option Kept) → IsShortItem item → IsShortItem (seen_by flags request item)
seen_short flags request None few = vivified_short request.vivify
seen_short flags request (Some item) few = few

-- mg
pub get_within : (moment : ℕ) (flags : List ℕ) (request : MetaGet) (item : Option Kept) (result : Result CommandReply PutFault) → IsShortItem item → IsSaidWithin (get_said moment flags request item result)
get_within moment flags request item (Ok (reply.Found marks)) few = told_within moment flags marks (seen_by flags request item) (seen_short flags request item few)
get_within moment flags request item (Ok reply.Stored) few = unless_q_within flags (bare WentMiss) tt
get_within moment flags request item (Ok reply.NotStored) few = unless_q_within flags (bare WentMiss) tt
get_within moment flags request item (Ok reply.Exists) few = unless_q_within flags (bare WentMiss) tt
get_within moment flags request item (Ok reply.NotFound) few = unless_q_within flags (bare WentMiss) tt
get_within moment flags request item (Ok reply.Deleted) few = unless_q_within flags (bare WentMiss) tt
get_within moment flags request item (Ok reply.Touched) few = unless_q_within flags (bare WentMiss) tt
get_within moment flags request item (Ok (reply.Number number)) few = unless_q_within flags (bare WentMiss) tt
get_within moment flags request item (Ok reply.Invalidated) few = unless_q_within flags (bare WentMiss) tt
get_within moment flags request item (Ok reply.NotNumber) few = unless_q_within flags (bare WentMiss) tt
get_within moment flags request item (Err fault) few = tt

-- ms
pub set_within : (cas : ℕ) (flags : List ℕ) (result : Result CommandReply PutFault) → IsSaidWithin (set_said cas flags result)
set_within cas flags (Ok reply.Stored) = unless_q_within flags _ tt
set_within cas flags (Ok reply.NotStored) = tt
set_within cas flags (Ok reply.Exists) = tt
set_within cas flags (Ok reply.NotFound) = tt
set_within cas flags (Ok reply.Deleted) = tt
set_within cas flags (Ok reply.Touched) = tt
set_within cas flags (Ok (reply.Number number)) = tt
set_within cas flags (Ok reply.Invalidated) = tt
set_within cas flags (Ok (reply.Found marks)) = tt
set_within cas flags (Ok reply.NotNumber) = tt
set_within cas flags (Err fault) = tt

-- md
pub delete_within : (flags : List ℕ) (result : Result CommandReply PutFault) → IsSaidWithin (delete_said flags result)
delete_within flags (Ok reply.Stored) = tt
delete_within flags (Ok reply.NotStored) = tt
delete_within flags (Ok reply.Exists) = tt
delete_within flags (Ok reply.NotFound) = tt
delete_within flags (Ok reply.Deleted) = unless_q_within flags (bare WentDone) tt
delete_within flags (Ok reply.Touched) = tt
delete_within flags (Ok (reply.Number number)) = tt
delete_within flags (Ok reply.Invalidated) = unless_q_within flags (bare WentDone) tt
delete_within flags (Ok (reply.Found marks)) = tt
delete_within flags (Ok reply.NotNumber) = tt
delete_within flags (Err fault) = tt

pub block_within : (status : MetaStatus) → IsWentWithin (went_shown status) → IsBlockWithin 2048 status
block_within statuses.Header within = tt
block_within (statuses.Value block) within = within
block_within statuses.Miss within = tt
block_within statuses.NotFound within = tt
block_within statuses.NotStored within = tt
block_within statuses.Exists within = tt

-- what is asked of a lane, if something is, has flags without a fault
abbrev AskFlags : Option KeyAsked → Type 0
AskFlags asked = IfSome asked AsksFlags

served_flags : (unserved : Option Unserved) (asked : Option KeyAsked) → AskFlags asked → AskFlags (unless_unserved unserved asked)
served_flags None asked fair = fair
served_flags (Some unserved) asked fair = tt

meta_flags : (command : MetaCommand) (meta : MetaAsking) → AreFlags meta.flags → AskFlags (keyed_meta command meta)
meta_flags metas.Get meta fair = fair
meta_flags metas.Set meta fair = tt
meta_flags metas.Delete meta fair = fair
meta_flags metas.Arithmetic meta fair = fair
meta_flags metas.Debug meta fair = tt

request_flags : (asked : Asked) → HasFlags asked → AskFlags (keyed_request asked)
request_flags (AskDelete key noreply) fair = tt
request_flags (AskDelta delta) fair = tt
request_flags (AskTouch key exptime noreply) fair = tt
request_flags (AskGet cas) fair = tt
request_flags (AskGetAndTouch exptime cas) fair = tt
request_flags (AskStore store) fair = tt
request_flags (AskFlushAll delay noreply) fair = tt
request_flags (AskStats argument further) fair = tt
request_flags AskVersion fair = tt
request_flags (AskVerbosity level noreply) fair = tt
request_flags AskQuit fair = tt
request_flags (AskShutdown graceful) fair = tt
request_flags AskMetaNoop fair = tt
request_flags (AskMeta meta) fair = served_flags (unserved_in meta) (keyed_meta meta.command meta) (meta_flags meta.command meta fair)

block_flags : (asked : Asked) (block : List ℕ) → HasFlags asked → AskFlags (keyed_block asked block)
block_flags (AskStore store) block fair = tt
block_flags (AskMeta meta) block fair = served_flags (unserved_in meta) _ fair
block_flags (AskDelete key noreply) block fair = tt
block_flags (AskDelta delta) block fair = tt
block_flags (AskTouch key exptime noreply) block fair = tt
block_flags (AskGet cas) block fair = tt
block_flags (AskGetAndTouch exptime cas) block fair = tt
block_flags (AskFlushAll delay noreply) block fair = tt
block_flags (AskStats argument further) block fair = tt
block_flags AskVersion block fair = tt
block_flags (AskVerbosity level noreply) block fair = tt
block_flags AskQuit block fair = tt
block_flags (AskShutdown graceful) block fair = tt
block_flags AskMetaNoop block fair = tt

set_flags : (mode : StoreCommand) (key : List ℕ) (noreply : Bool) → AskFlags (keyed_set mode key noreply)
set_flags Set key noreply = tt
set_flags Add key noreply = tt
set_flags Replace key noreply = tt
set_flags Append key noreply = tt
set_flags Prepend key noreply = tt
set_flags Cas key noreply = tt

large_flags : (asked : Asked) → AskFlags (keyed_large asked)
large_flags (AskStore store) = set_flags store.mode store.key store.noreply
large_flags (AskMeta meta) = served_flags (unserved_in meta) _ tt
large_flags (AskDelete key noreply) = tt
large_flags (AskDelta delta) = tt
large_flags (AskTouch key exptime noreply) = tt
large_flags (AskGet cas) = tt
large_flags (AskGetAndTouch exptime cas) = tt
large_flags (AskFlushAll delay noreply) = tt
large_flags (AskStats argument further) = tt
large_flags AskVersion = tt
large_flags (AskVerbosity level noreply) = tt
large_flags AskQuit = tt
large_flags (AskShutdown graceful) = tt
large_flags AskMetaNoop = tt

told_flags : (told : Told) → GivesFlags told → AskFlags (keyed_told told)
told_flags TellMore fair = tt
told_flags (TellRequest asked) fair = request_flags asked fair
told_flags (TellData asked block) fair = block_flags asked block fair
told_flags (TellTooLarge asked) fair = large_flags asked
told_flags (TellKey key None cas) fair = tt
told_flags (TellKey key (Some exptime) cas) fair = tt
told_flags TellKeysEnd fair = tt
told_flags (TellRefused refusal) fair = tt
told_flags TellForeign fair = tt

if_flags : (asked : KeyAsked) → AsksFlags asked → AskFlags (if_keyed asked)
if_flags asked fair = elim (cases_Bool (is_key (key_in asked))) [
  | inl key ↦ rw key fair
  | inr none ↦ rw none tt
]

keyed_flags : (asked : Option KeyAsked) → AskFlags asked → AskFlags (option_and_then if_keyed asked)
keyed_flags None fair = tt
keyed_flags (Some asked) fair = if_flags asked fair

-- what is asked of a lane by what a reader gave has flags without a fault
pub asks_flags : (told : Told) (asked : KeyAsked) → Some asked ≡ keyed_of told → GivesFlags told → AsksFlags asked
asks_flags told asked is fair =
    let all : AskFlags (keyed_of told) = keyed_flags (keyed_told told) (told_flags told fair) in
    subst AskFlags (sym is) all

-- a lane's answer is not lost in a room of 2,448 bytes
pub lane_whole : (s : Said) (room : List ℕ) (taken command : ℕ) (done : SessionDone) → IsLaneAnswer s → done ≡ done_by taken command s.outcome (written_in room s.text) → 2448 ≤ length room → (done.outcome == 13) ≡ false
lane_whole s room taken command done fits done_is enough =
    let few = fits.few in
    rw done_is (whole_by s room taken command (omega (arith, few)) fits.kept (omega (arith, few, enough)))

written_few : (taken command : ℕ) (outcome : SessionOutcome) (is : Bool) (n : ℕ) → n ≤ 2448 → (done_by taken command outcome (if is then Some n else None)).answered ≤ 2448
written_few taken command outcome true n few = few
written_few taken command outcome false n few = lit≤ tt

-- so many bytes of it are written
pub lane_few : (s : Said) (room : List ℕ) (taken command : ℕ) (done : SessionDone) → IsLaneAnswer s → done ≡ done_by taken command s.outcome (written_in room s.text) → done.answered ≤ 2448
lane_few s room taken command done fits done_is =
    rw done_is (written_few taken command s.outcome (nat_le (length s.text) 4096 && nat_le (length s.text) (length room)) (length s.text) fits.few)
