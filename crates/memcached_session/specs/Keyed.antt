-- What a step asks of the lane of its key.
use Rattle.std.specs.Prelude.{ℕ, Bool, true, false, List, Option, Some, None, option_and_then, if◌then◌else◌}
use Rattle.memcached_text.specs.declared.exptime.Exptime.{Exptime}
use Rattle.memcached_text.specs.declared.store_command.StoreCommand.{StoreCommand}
use Rattle.memcached_text.specs.declared.store_command.StoreCommand.TheVariants.{Set, Add, Replace, Append, Prepend, Cas}
use Rattle.memcached_text.specs.declared.verb.MetaCommand.{MetaCommand}
use Rattle.memcached_text.specs.declared.verb.MetaCommand.TheVariants as metas
use Rattle.memcached_text.specs.Asked.{Asked, Storing, Changing, MetaAsking, AskGet, AskGetAndTouch, AskStore, AskDelete, AskDelta, AskTouch, AskFlushAll, AskStats, AskVersion, AskVerbosity, AskQuit, AskShutdown, AskMetaNoop, AskMeta, storing_shown, delta_shown, meta_shown}
use Rattle.memcached_text.specs.Steps.{Told, TellMore, TellRequest, TellData, TellTooLarge, TellKey, TellKeysEnd, TellRefused, TellForeign}
use Rattle.memcached_text.specs.Words.{is_key}
use Rattle.memcached_session.specs.declared.unserved.Unserved.{Unserved}
use Rattle.memcached_session.specs.MetaReading.{has_flag}
use Rattle.memcached_session.specs.Unserving.{unserved_in}
use Rattle.memcached_session.specs.declared.keyed.Keyed.{Keyed}
use Rattle.memcached_session.specs.declared.keyed.Keyed.TheVariants as keyed

-- what a step asks of the lane of its key
pub data KeyAsked : Type 0 where
  KeyGet : List ℕ → Bool → KeyAsked
  KeyGetAndTouch : List ℕ → Exptime → Bool → KeyAsked
  KeyStore : Storing → List ℕ → KeyAsked
  KeyTooLarge : List ℕ → Bool → KeyAsked
  KeyDelete : List ℕ → Bool → KeyAsked
  KeyDelta : Changing → KeyAsked
  KeyTouch : List ℕ → Exptime → Bool → KeyAsked
  KeyMetaGet : MetaAsking → KeyAsked
  KeyMetaSet : MetaAsking → List ℕ → KeyAsked
  KeyMetaDelete : MetaAsking → KeyAsked
  KeyMetaDelta : MetaAsking → KeyAsked

-- what is asked, without the borrow of its bytes
abbrev pub keyed_shown : Keyed → KeyAsked
keyed_shown (keyed.Get key cas) = KeyGet key.now cas
keyed_shown (keyed.GetAndTouch key exptime cas) = KeyGetAndTouch key.now exptime cas
keyed_shown (keyed.Store request block) = KeyStore (storing_shown request) block.now
keyed_shown (keyed.TooLarge key noreply) = KeyTooLarge key.now noreply
keyed_shown (keyed.Delete key noreply) = KeyDelete key.now noreply
keyed_shown (keyed.Delta delta) = KeyDelta (delta_shown delta)
keyed_shown (keyed.Touch key exptime noreply) = KeyTouch key.now exptime noreply
keyed_shown (keyed.MetaGet meta) = KeyMetaGet (meta_shown meta)
keyed_shown (keyed.MetaSet meta block) = KeyMetaSet (meta_shown meta) block.now
keyed_shown (keyed.MetaDelete meta) = KeyMetaDelete (meta_shown meta)
keyed_shown (keyed.MetaDelta meta) = KeyMetaDelta (meta_shown meta)

-- its key
abbrev pub key_in : KeyAsked → List ℕ
key_in (KeyGet key cas) = key
key_in (KeyGetAndTouch key exptime cas) = key
key_in (KeyStore store block) = store.key
key_in (KeyTooLarge key noreply) = key
key_in (KeyDelete key noreply) = key
key_in (KeyDelta delta) = delta.key
key_in (KeyTouch key exptime noreply) = key
key_in (KeyMetaGet meta) = meta.key
key_in (KeyMetaSet meta block) = meta.key
key_in (KeyMetaDelete meta) = meta.key
key_in (KeyMetaDelta meta) = meta.key

-- an item may get the number that the server draws: that of each store, of N of mg, and of I of md
abbrev pub gives_number : KeyAsked → Bool
gives_number (KeyGet key cas) = false
gives_number (KeyGetAndTouch key exptime cas) = false
gives_number (KeyStore store block) = true
gives_number (KeyTooLarge key noreply) = false
gives_number (KeyDelete key noreply) = false
gives_number (KeyDelta delta) = true
gives_number (KeyTouch key exptime noreply) = false
gives_number (KeyMetaGet meta) = has_flag 78 meta.flags
gives_number (KeyMetaSet meta block) = true
gives_number (KeyMetaDelete meta) = has_flag 73 meta.flags
gives_number (KeyMetaDelta meta) = true

-- nothing is asked of a lane if the command is not served
abbrev pub unless_unserved : Option Unserved → Option KeyAsked → Option KeyAsked
unless_unserved None asked = asked
unless_unserved (Some unserved) asked = None

abbrev pub if_served : MetaAsking → Option KeyAsked → Option KeyAsked
if_served meta asked = unless_unserved (unserved_in meta) asked

-- a meta command without a data block
abbrev pub keyed_meta : MetaCommand → MetaAsking → Option KeyAsked
keyed_meta metas.Get meta = Some (KeyMetaGet meta)
keyed_meta metas.Set meta = None
keyed_meta metas.Delete meta = Some (KeyMetaDelete meta)
keyed_meta metas.Arithmetic meta = Some (KeyMetaDelta meta)
keyed_meta metas.Debug meta = None

-- a request without a data block
abbrev pub keyed_request : Asked → Option KeyAsked
keyed_request (AskDelete key noreply) = Some (KeyDelete key noreply)
keyed_request (AskDelta delta) = Some (KeyDelta delta)
keyed_request (AskTouch key exptime noreply) = Some (KeyTouch key exptime noreply)
keyed_request (AskGet cas) = None
keyed_request (AskGetAndTouch exptime cas) = None
keyed_request (AskStore store) = None
keyed_request (AskFlushAll delay noreply) = None
keyed_request (AskStats argument further) = None
keyed_request AskVersion = None
keyed_request (AskVerbosity level noreply) = None
keyed_request AskQuit = None
keyed_request (AskShutdown graceful) = None
keyed_request AskMetaNoop = None
keyed_request (AskMeta meta) = if_served meta (keyed_meta meta.command meta)

-- a request with its data block
abbrev pub keyed_block : Asked → List ℕ → Option KeyAsked
keyed_block (AskStore store) block = Some (KeyStore store block)
keyed_block (AskMeta meta) block = if_served meta (Some (KeyMetaSet meta block))
keyed_block _ block = None

-- a key whose new value is too large is removed by set and ms alone
abbrev pub keyed_set : StoreCommand → List ℕ → Bool → Option KeyAsked
keyed_set Set key noreply = Some (KeyTooLarge key noreply)
keyed_set Add key noreply = None
keyed_set Replace key noreply = None
keyed_set Append key noreply = None
keyed_set Prepend key noreply = None
keyed_set Cas key noreply = None

-- a request whose data block is too large
abbrev pub keyed_large : Asked → Option KeyAsked
keyed_large (AskStore store) = keyed_set store.mode store.key store.noreply
keyed_large (AskMeta meta) = if_served meta (Some (KeyTooLarge meta.key false))
keyed_large _ = None

-- what is asked of a lane by what a reader gave
abbrev pub keyed_told : Told → Option KeyAsked
keyed_told TellMore = None
keyed_told (TellRequest asked) = keyed_request asked
keyed_told (TellData asked block) = keyed_block asked block
keyed_told (TellTooLarge asked) = keyed_large asked
keyed_told (TellKey key None cas) = Some (KeyGet key cas)
keyed_told (TellKey key (Some exptime) cas) = Some (KeyGetAndTouch key exptime cas)
keyed_told TellKeysEnd = None
keyed_told (TellRefused refusal) = None
keyed_told TellForeign = None

-- the same, if its key is one: that of any request is
abbrev pub if_keyed : KeyAsked → Option KeyAsked
if_keyed asked = if is_key (key_in asked) then Some asked else None

abbrev pub keyed_of : Told → Option KeyAsked
keyed_of told = option_and_then if_keyed (keyed_told told)
