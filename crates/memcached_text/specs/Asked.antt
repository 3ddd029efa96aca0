-- What a line asks for, without the borrow of its bytes.
use Rattle.std.specs.Prelude.{ℕ, Bool, List, Result, Ok, Err}
use Rattle.memcached_text.specs.declared.exptime.Exptime.{Exptime}
use Rattle.memcached_text.specs.declared.line_refusal.LineRefusal.{LineRefusal}
use Rattle.memcached_text.specs.declared.line_error.LineError.{LineError}
use Rattle.memcached_text.specs.declared.text_request.DeltaRequest.{DeltaRequest}
use Rattle.memcached_text.specs.declared.text_request.MetaRequest.{MetaRequest}
use Rattle.memcached_text.specs.declared.text_request.TextRequest.{TextRequest}
use Rattle.memcached_text.specs.declared.text_request.TextRequest.TheVariants as requests
use Rattle.memcached_text.specs.declared.text_request.StoreRequest.{StoreRequest}
use Rattle.memcached_text.specs.declared.store_command.StoreCommand.{StoreCommand}
use Rattle.memcached_text.specs.declared.verb.Direction.{Direction}
use Rattle.memcached_text.specs.declared.verb.MetaCommand.{MetaCommand}

-- a data block that is to be stored
pub record Storing : Type 0 where
  pub mode : StoreCommand
  pub key : List ℕ
  pub flags : ℕ
  pub exptime : Exptime
  pub length : ℕ
  pub cas : ℕ
  pub noreply : Bool

-- a number that is to change
pub record Changing : Type 0 where
  pub direction : Direction
  pub key : List ℕ
  pub amount : ℕ
  pub noreply : Bool

-- a meta command at a key, with the text of its flags
pub record MetaAsking : Type 0 where
  pub command : MetaCommand
  pub key : List ℕ
  pub length : ℕ
  pub flags : List ℕ

-- what a line asks for
pub data Asked : Type 0 where
  AskGet : Bool → Asked
  AskGetAndTouch : Exptime → Bool → Asked
  AskStore : Storing → Asked
  AskDelete : List ℕ → Bool → Asked
  AskDelta : Changing → Asked
  AskTouch : List ℕ → Exptime → Bool → Asked
  AskFlushAll : ℕ → Bool → Asked
  AskStats : List ℕ → List ℕ → Asked
  AskVersion : Asked
  AskVerbosity : ℕ → Bool → Asked
  AskQuit : Asked
  AskShutdown : Bool → Asked
  AskMetaNoop : Asked
  AskMeta : MetaAsking → Asked

abbrev pub storing_shown : StoreRequest → Storing
storing_shown s = record { mode = s.mode; key = s.key.now; flags = s.flags; exptime = s.exptime; length = s.length; cas = s.cas; noreply = s.noreply }

abbrev pub delta_shown : DeltaRequest → Changing
delta_shown d = record { direction = d.direction; key = d.key.now; amount = d.amount; noreply = d.noreply }

abbrev pub meta_shown : MetaRequest → MetaAsking
meta_shown m = record { command = m.command; key = m.key.now; length = m.length; flags = m.flags.now }

-- what a request asks for
abbrev pub shown : TextRequest → Asked
shown (requests.Get cas) = AskGet cas
shown (requests.GetAndTouch exptime cas) = AskGetAndTouch exptime cas
shown (requests.Store store) = AskStore (storing_shown store)
shown (requests.Delete key noreply) = AskDelete key.now noreply
shown (requests.Delta delta) = AskDelta (delta_shown delta)
shown (requests.Touch key exptime noreply) = AskTouch key.now exptime noreply
shown (requests.FlushAll delay noreply) = AskFlushAll delay noreply
shown (requests.Stats argument further) = AskStats argument.now further.now
shown requests.Version = AskVersion
shown (requests.Verbosity level noreply) = AskVerbosity level noreply
shown requests.Quit = AskQuit
shown (requests.Shutdown graceful) = AskShutdown graceful
shown requests.MetaNoop = AskMetaNoop
shown (requests.Meta meta) = AskMeta (meta_shown meta)

-- a request or a fault
abbrev pub shown_or_fault : Result TextRequest LineError → Result Asked LineError
shown_or_fault (Ok request) = Ok (shown request)
shown_or_fault (Err fault) = Err fault

-- a request or a refusal
abbrev pub shown_or_refused : Result TextRequest LineRefusal → Result Asked LineRefusal
shown_or_refused (Ok request) = Ok (shown request)
shown_or_refused (Err refusal) = Err refusal
