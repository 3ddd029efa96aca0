-- The steps of a reader of requests: what the bytes give that were fed, and how many are taken.
use Rattle.std.specs.Prelude.{ℕ, zero, suc, ◌+◌, ◌-◌, Bool, true, false, ◌&&◌, ◌||◌, not, List, [], ◌∷◌, length, take, drop, ◌==◌, nat_le, nat_lt, if◌then◌else◌, Option, Some, None, Result, Ok, Err, slice_index_or, position}
use Rattle.std.specs.List.{position_or_len}
use Rattle.memcached_text.specs.declared.stream_event.StreamEvent.{StreamEvent}
use Rattle.memcached_text.specs.declared.stream_event.StreamEvent.TheVariants as events
use Rattle.memcached_text.specs.declared.exptime.Exptime.{Exptime}
use Rattle.memcached_text.specs.declared.line_error.LineError.TheVariants.{BadFormat, BadData, LineTooLong}
use Rattle.memcached_text.specs.declared.reader_state.ReaderState.{ReaderState}
use Rattle.memcached_text.specs.declared.reader_state.ReaderState.TheVariants.{Line, Keys, SkipLine, SkipData, Closed}
use Rattle.memcached_text.specs.declared.line_refusal.LineRefusal.{LineRefusal}
use Rattle.memcached_text.specs.declared.line_refusal.RefusedBlock.{RefusedBlock}
use Rattle.memcached_text.specs.declared.line_refusal.RefusedBlock.TheVariants.{Absent, OfLength, Unreadable}
use Rattle.memcached_text.specs.declared.verb.MetaCommand.{MetaCommand}
use Rattle.memcached_text.specs.declared.verb.MetaCommand.TheVariants as metas
use Rattle.memcached_text.specs.Asked.{Asked, AskGet, AskGetAndTouch, AskStore, AskDelete, AskDelta, AskTouch, AskFlushAll, AskStats, AskVersion, AskVerbosity, AskQuit, AskShutdown, AskMetaNoop, AskMeta, shown}
use Rattle.memcached_text.specs.Refusals.{loud}
use Rattle.memcached_text.specs.Requests.{request_of, is_http}
use Rattle.memcached_text.specs.Words.{after_word, is_key}

-- what is given, without the borrow of its bytes
pub data Told : Type 0 where
  TellMore : Told
  TellRequest : Asked → Told
  TellData : Asked → List ℕ → Told
  TellTooLarge : Asked → Told
  TellKey : List ℕ → Option Exptime → Bool → Told
  TellKeysEnd : Told
  TellRefused : LineRefusal → Told
  TellForeign : Told

abbrev pub event_shown : StreamEvent → Told
event_shown events.More = TellMore
event_shown (events.Request request) = TellRequest (shown request)
event_shown (events.«Data» request block) = TellData (shown request) block.now
event_shown (events.TooLarge request) = TellTooLarge (shown request)
event_shown (events.Key key exptime cas) = TellKey key.now exptime cas
event_shown events.KeysEnd = TellKeysEnd
event_shown (events.Refused refusal) = TellRefused refusal
event_shown events.Foreign = TellForeign

-- how many bytes are taken, what they give, and where the reader stands after them
pub record Outcome : Type 0 where
  pub taken : ℕ
  pub told : Told
  pub state : ReaderState

abbrev pub outcome : ℕ → Told → ReaderState → Outcome
outcome taken told state = record { taken = taken; told = told; state = state }

-- nothing is whole
abbrev pub nothing : ReaderState → Outcome
nothing state = outcome 0 TellMore state

abbrev pub is_feed : ℕ → Bool
is_feed b = b == 10

-- a line without the carriage return at its end
abbrev pub without_return : List ℕ → List ℕ
without_return line = if slice_index_or line (length line - 1) 0 == 13 then take (length line - 1) line else line

-- a data block of this length, with its line's end, after a line of which the first bytes are past
abbrev pub block_step : ℕ → ℕ → Asked → ℕ → Bool → List ℕ → Outcome
block_step most past asked len noreply rest =
    if nat_lt most len then outcome past (TellTooLarge asked) (SkipData (len + 2))
    else (if nat_lt (length rest) (len + 2) then nothing Line
    else (if (slice_index_or rest len 0 == 13) && (slice_index_or rest (len + 1) 0 == 10) then outcome (past + len + 2) (TellData asked (take len rest)) Line
    else outcome (past + len + 2) (TellRefused (record { fault = BadData; noreply = noreply; block = Absent })) Line))

-- a request whose line ends it
abbrev pub plain_step : ℕ → Asked → Outcome
plain_step past asked = outcome past (TellRequest asked) Line

-- a request whose keys are next
abbrev pub keys_step : ℕ → Asked → Option Exptime → Bool → Outcome
keys_step past asked exptime cas = outcome past (TellRequest asked) (Keys exptime cas)

-- a meta command has a data block if it is ms
abbrev pub meta_step : ℕ → ℕ → Asked → MetaCommand → ℕ → List ℕ → Outcome
meta_step most past asked metas.Get len rest = plain_step past asked
meta_step most past asked metas.Set len rest = block_step most past asked len false rest
meta_step most past asked metas.Delete len rest = plain_step past asked
meta_step most past asked metas.Arithmetic len rest = plain_step past asked
meta_step most past asked metas.Debug len rest = plain_step past asked

-- a line that is whole, by what it asks for; past are its bytes and its feed, and the rest is after them
abbrev pub asked_step : ℕ → ℕ → List ℕ → List ℕ → Asked → Outcome
asked_step most past line rest (AskGet cas) = keys_step (length line - length (after_word line)) (AskGet cas) None cas
asked_step most past line rest (AskGetAndTouch exptime cas) = keys_step (length line - length (after_word (after_word line))) (AskGetAndTouch exptime cas) (Some exptime) cas
asked_step most past line rest (AskStore store) = block_step most past (AskStore store) store.length store.noreply rest
asked_step most past line rest (AskDelete key noreply) = plain_step past (AskDelete key noreply)
asked_step most past line rest (AskDelta delta) = plain_step past (AskDelta delta)
asked_step most past line rest (AskTouch key exptime noreply) = plain_step past (AskTouch key exptime noreply)
asked_step most past line rest (AskFlushAll delay noreply) = plain_step past (AskFlushAll delay noreply)
asked_step most past line rest (AskStats argument further) = plain_step past (AskStats argument further)
asked_step most past line rest AskVersion = plain_step past AskVersion
asked_step most past line rest (AskVerbosity level noreply) = plain_step past (AskVerbosity level noreply)
asked_step most past line rest AskQuit = plain_step past AskQuit
asked_step most past line rest (AskShutdown graceful) = plain_step past (AskShutdown graceful)
asked_step most past line rest AskMetaNoop = plain_step past AskMetaNoop
asked_step most past line rest (AskMeta meta) = meta_step most past (AskMeta meta) meta.command meta.length rest

-- where the reader stands after a refused line: its data block and the block's end are passed over, or all that comes if nobody can tell where
-- the block ends
abbrev pub after_refusal : RefusedBlock → ReaderState
after_refusal Absent = Line
after_refusal (OfLength length) = SkipData (length + 2)
after_refusal Unreadable = Closed

-- a line that is refused; after one of HTTP nothing is looked at any more
abbrev pub refused_step : ℕ → Bool → LineRefusal → Outcome
refused_step past true refusal = outcome past TellForeign Closed
refused_step past false refusal = outcome past (TellRefused refusal) (after_refusal refusal.block)

-- a line that is whole, by what it asks for or why it is refused
abbrev pub whole_step : ℕ → ℕ → List ℕ → List ℕ → Result Asked LineRefusal → Outcome
whole_step most past line rest (Ok asked) = asked_step most past line rest asked
whole_step most past line rest (Err refusal) = refused_step past (is_http line) refusal

-- a line of more than 2,048 bytes, by what those ask for: it is a request with keys, or too long
abbrev pub too_long : Outcome
too_long = outcome 2048 (TellRefused (loud LineTooLong)) Closed

abbrev pub long_step : List ℕ → Result Asked LineRefusal → Outcome
long_step line (Ok (AskGet cas)) = keys_step (length line - length (after_word line)) (AskGet cas) None cas
long_step line (Ok (AskGetAndTouch exptime cas)) = keys_step (length line - length (after_word (after_word line))) (AskGetAndTouch exptime cas) (Some exptime) cas
long_step line _ = too_long

-- a line, by the place of its feed among the first 2,049 bytes
abbrev pub line_by : ℕ → List ℕ → Option ℕ → Outcome
line_by most bytes (Some n) = whole_step most (n + 1) (without_return (take n bytes)) (drop (n + 1) bytes) (request_of (without_return (take n bytes)))
line_by most bytes None = if nat_le (length bytes) 2048 then nothing Line else long_step (take 2048 bytes) (request_of (take 2048 bytes))

-- at the start of a line
unfoldable pub line_step : ℕ → List ℕ → Outcome
line_step most bytes =
    if length bytes == 0 then nothing Line
    else (if slice_index_or bytes 0 0 == 128 then outcome 1 TellForeign Closed
    else line_by most bytes (position is_feed (take 2049 bytes)))

-- a key ends before a space or a line feed
abbrev pub is_end : ℕ → Bool
is_end b = (b == 32) || (b == 10)

-- a word among keys, which is a key or has the rest of its line refused
abbrev pub key_or : Option Exptime → Bool → ℕ → ReaderState → List ℕ → Outcome
key_or exptime cas past refused word =
    if is_key word then outcome (length word) (TellKey word exptime cas) (Keys exptime cas)
    else outcome past (TellRefused (loud BadFormat)) refused

-- the last word of a line, without the carriage return
abbrev pub last_key : Option Exptime → Bool → ℕ → List ℕ → Outcome
last_key exptime cas past word =
    if length word == 0 then outcome past TellKeysEnd Line else key_or exptime cas past Line word

-- a word among keys, by the place of its end among the first 252 bytes
abbrev pub key_by : Option Exptime → Bool → List ℕ → Option ℕ → Outcome
key_by exptime cas bytes (Some n) =
    if is_feed (slice_index_or bytes n 0) then last_key exptime cas (n + 1) (without_return (take n bytes))
    else key_or exptime cas (n + 1) SkipLine (take n bytes)
key_by exptime cas bytes None =
    if nat_le (length bytes) 251 then nothing (Keys exptime cas) else outcome 252 (TellRefused (loud BadFormat)) SkipLine

-- among the keys of a request
unfoldable pub key_step : Option Exptime → Bool → List ℕ → Outcome
key_step exptime cas bytes = key_by exptime cas bytes (position is_end (take 252 bytes))

-- how many bytes are passed over first, and where the reader stands after them
pub record Passing : Type 0 where
  pub count : ℕ
  pub state : ReaderState

-- the rest of a line, by the place of its feed
abbrev pub pass_line : List ℕ → Option ℕ → Passing
pass_line bytes (Some n) = record { count = n + 1; state = Line }
pass_line bytes None = record { count = length bytes; state = SkipLine }

unfoldable pub passing : ReaderState → List ℕ → Passing
passing Line bytes = record { count = 0; state = Line }
passing (Keys exptime cas) bytes = record { count = position_or_len (λ b. not (b == 32)) bytes; state = Keys exptime cas }
passing SkipLine bytes = pass_line bytes (position is_feed bytes)
passing (SkipData n) bytes =
    if nat_lt (length bytes) n then record { count = length bytes; state = SkipData (n - length bytes) } else record { count = n; state = Line }
passing Closed bytes = record { count = length bytes; state = Closed }

-- what the bytes give after those that are passed over
unfoldable pub decided : ℕ → ReaderState → List ℕ → Outcome
decided most Line bytes = line_step most bytes
decided most (Keys exptime cas) bytes = key_step exptime cas bytes
decided most SkipLine bytes = nothing SkipLine
decided most (SkipData n) bytes = nothing (SkipData n)
decided most Closed bytes = nothing Closed

-- an outcome after so many bytes
abbrev pub shifted : ℕ → Outcome → Outcome
shifted count o = outcome (count + o.taken) o.told o.state

abbrev pub after_passing : ℕ → Passing → List ℕ → Outcome
after_passing most passed bytes = shifted passed.count (decided most passed.state (drop passed.count bytes))

-- one step of a reader that takes data blocks of at most so many bytes
unfoldable pub step_of : ℕ → ReaderState → List ℕ → Outcome
step_of most state bytes = after_passing most (passing state bytes) bytes

abbrev pub is_more : Told → Bool
is_more TellMore = true
is_more (TellRequest asked) = false
is_more (TellData asked block) = false
is_more (TellTooLarge asked) = false
is_more (TellKey key exptime cas) = false
is_more TellKeysEnd = false
is_more (TellRefused refusal) = false
is_more TellForeign = false

-- what is given, as a list: nothing, or one event
abbrev pub given_list : Told → List Told
given_list told = if is_more told then [] else told ∷ []

-- the events of a stream, at most so many
unfoldable pub events_in : ℕ → ℕ → ReaderState → List ℕ → List Told
events_in zero most state bytes = []
events_in (suc n) most state bytes =
    let o = step_of most state bytes in
    if is_more o.told then [] else o.told ∷ events_in n most o.state (drop o.taken bytes)

-- all events of a stream of bytes, which a reader takes from a state on; each takes a byte or more
unfoldable pub events_of : ℕ → ReaderState → List ℕ → List Told
events_of most state bytes = events_in (suc (length bytes)) most state bytes
