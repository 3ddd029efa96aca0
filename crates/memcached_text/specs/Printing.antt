-- Requests as clients write them: a second reading of the protocol, apart from the grammar by which lines are read.
use Rattle.std.specs.Prelude.{◌≡◌, ◌≢◌, ◌<◌, ◌≤◌, ◌^◌, ℕ, Bool, true, false, ◌==◌, List, [], ◌∷◌, ◌++◌, length, map, All, Option, Some, None, Result, Ok, codes, if◌then◌else◌}
use Rattle.std.specs.Fmt.{decimal}
use Rattle.std.specs.List.{flat_map}
use Rattle.memcached_text.specs.declared.exptime.Exptime.{Exptime}
use Rattle.memcached_text.specs.declared.exptime.Exptime.TheVariants.{Never, At, Past}
use Rattle.memcached_text.specs.declared.reader_state.ReaderState.TheVariants.{Line}
use Rattle.memcached_text.specs.declared.store_command.StoreCommand.{StoreCommand}
use Rattle.memcached_text.specs.declared.store_command.StoreCommand.TheVariants as modes
use Rattle.memcached_text.specs.declared.verb.Direction.{Direction}
use Rattle.memcached_text.specs.declared.verb.Direction.TheVariants.{Up, Down}
use Rattle.memcached_text.specs.declared.verb.MetaCommand.{MetaCommand}
use Rattle.memcached_text.specs.declared.verb.MetaCommand.TheVariants as metas
use Rattle.memcached_text.specs.Asked.{Asked, Storing, Changing, MetaAsking, AskGet, AskGetAndTouch, AskStore, AskDelete, AskDelta, AskTouch, AskFlushAll, AskStats, AskVersion, AskVerbosity, AskQuit, AskShutdown, AskMetaNoop, AskMeta}
use Rattle.memcached_text.specs.Meta.{flags_fault}
use Rattle.memcached_text.specs.Requests.{request_of}
use Rattle.memcached_text.specs.Steps.{Told, TellRequest, TellData, TellKey, TellKeysEnd, events_of}
use Rattle.memcached_text.specs.Words.{parts_of, words_of}

-- ---- the words of a line

-- words, with a space before each but the first
abbrev pub spaced : List ℕ → List (List ℕ) → List ℕ
spaced word [] = word
spaced word (next ∷ words) = word ++ 32 ∷ spaced next words

-- no answer is wanted
abbrev pub quiet_words : Bool → List (List ℕ)
quiet_words true = codes "noreply" ∷ []
quiet_words false = []

-- 0 for never, and a negative number for what has expired
abbrev pub exptime_word : Exptime → List ℕ
exptime_word Never = codes "0"
exptime_word (At seconds) = decimal seconds
exptime_word Past = codes "-1"

abbrev pub mode_word : StoreCommand → List ℕ
mode_word modes.Set = codes "set"
mode_word modes.Add = codes "add"
mode_word modes.Replace = codes "replace"
mode_word modes.Append = codes "append"
mode_word modes.Prepend = codes "prepend"
mode_word modes.Cas = codes "cas"

-- the unique number, which cas alone names
abbrev pub cas_words : StoreCommand → ℕ → List (List ℕ)
cas_words modes.Set cas = []
cas_words modes.Add cas = []
cas_words modes.Replace cas = []
cas_words modes.Append cas = []
cas_words modes.Prepend cas = []
cas_words modes.Cas cas = decimal cas ∷ []

abbrev pub direction_word : Direction → List ℕ
direction_word Up = codes "incr"
direction_word Down = codes "decr"

-- a delay, unless there is none
abbrev pub delay_words : ℕ → List (List ℕ)
delay_words delay = if delay == 0 then [] else decimal delay ∷ []

-- a word, unless it is empty
abbrev pub some_word : List ℕ → List (List ℕ)
some_word [] = []
some_word (b ∷ bs) = (b ∷ bs) ∷ []

abbrev pub graceful_words : Bool → List (List ℕ)
graceful_words true = codes "graceful" ∷ []
graceful_words false = []

abbrev pub meta_word : MetaCommand → List ℕ
meta_word metas.Get = codes "mg"
meta_word metas.Set = codes "ms"
meta_word metas.Delete = codes "md"
meta_word metas.Arithmetic = codes "ma"
meta_word metas.Debug = codes "me"

-- the length of the data block, which ms alone has
abbrev pub size_words : MetaCommand → ℕ → List (List ℕ)
size_words metas.Get len = []
size_words metas.Set len = decimal len ∷ []
size_words metas.Delete len = []
size_words metas.Arithmetic len = []
size_words metas.Debug len = []

-- the name of a command
abbrev pub command_word : Asked → List ℕ
command_word (AskGet false) = codes "get"
command_word (AskGet true) = codes "gets"
command_word (AskGetAndTouch exptime false) = codes "gat"
command_word (AskGetAndTouch exptime true) = codes "gats"
command_word (AskStore store) = mode_word store.mode
command_word (AskDelete key noreply) = codes "delete"
command_word (AskDelta delta) = direction_word delta.direction
command_word (AskTouch key exptime noreply) = codes "touch"
command_word (AskFlushAll delay noreply) = codes "flush_all"
command_word (AskStats argument further) = codes "stats"
command_word AskVersion = codes "version"
command_word (AskVerbosity level noreply) = codes "verbosity"
command_word AskQuit = codes "quit"
command_word (AskShutdown graceful) = codes "shutdown"
command_word AskMetaNoop = codes "mn"
command_word (AskMeta meta) = meta_word meta.command

-- the words after it, but for the keys of get and gat and for flags
abbrev pub further_words : Asked → List (List ℕ)
further_words (AskGet cas) = []
further_words (AskGetAndTouch exptime cas) = exptime_word exptime ∷ []
further_words (AskStore store) =
    store.key ∷ decimal store.flags ∷ exptime_word store.exptime ∷ decimal store.length ∷ (cas_words store.mode store.cas ++ quiet_words store.noreply)
further_words (AskDelete key noreply) = key ∷ quiet_words noreply
further_words (AskDelta delta) = delta.key ∷ decimal delta.amount ∷ quiet_words delta.noreply
further_words (AskTouch key exptime noreply) = key ∷ exptime_word exptime ∷ quiet_words noreply
further_words (AskFlushAll delay noreply) = delay_words delay ++ quiet_words noreply
further_words (AskStats argument further) = some_word argument ++ some_word further
further_words AskVersion = []
further_words (AskVerbosity level noreply) = decimal level ∷ quiet_words noreply
further_words AskQuit = []
further_words (AskShutdown graceful) = graceful_words graceful
further_words AskMetaNoop = []
further_words (AskMeta meta) = meta.key ∷ size_words meta.command meta.length

-- the flags of a meta command, as they are written
abbrev pub flags_of : Asked → List ℕ
flags_of (AskMeta meta) = meta.flags
flags_of _ = []

-- the flags after the words
abbrev pub flagged : List ℕ → List ℕ → List ℕ
flagged words [] = words
flagged words (b ∷ bs) = words ++ 32 ∷ b ∷ bs

-- the line of a request that names no list of keys, without its end
unfoldable pub line_text : Asked → List ℕ
line_text asked = flagged (spaced (command_word asked) (further_words asked)) (flags_of asked)

-- ---- what can be asked for

-- a word has a byte or more, and neither a space nor a line feed
pub record IsWord (word : List ℕ) : Type 0 where
  pub some : 0 < length word
  pub bytes : All (λ b. (b ≢ 32) × (b ≢ 10)) word

-- a key is a word of at most 250 bytes
pub record IsName (key : List ℕ) : Type 0 where
  pub word : IsWord key
  pub few : length key ≤ 250

abbrev pub IsExptime : Exptime → Type 0
IsExptime Never = Unit {0}
IsExptime (At seconds) = (0 < seconds) × (seconds < 2 ^ 31)
IsExptime Past = Unit {0}

-- a command other than cas names no unique number
abbrev pub HasCas : StoreCommand → ℕ → Type 0
HasCas modes.Set cas = cas ≡ 0
HasCas modes.Add cas = cas ≡ 0
HasCas modes.Replace cas = cas ≡ 0
HasCas modes.Append cas = cas ≡ 0
HasCas modes.Prepend cas = cas ≡ 0
HasCas modes.Cas cas = cas < 2 ^ 64

-- what a storing command names
pub record CanStore (store : Storing) : Type 0 where
  pub key : IsName store.key
  pub flags : store.flags < 2 ^ 32
  pub exptime : IsExptime store.exptime
  pub length : store.length < 2 ^ 31
  pub cas : HasCas store.mode store.cas

-- an argument of stats is a word, if it is there, and a second one only follows a first
pub record CanShow (argument further : List ℕ) : Type 0 where
  pub one : All (λ b. (b ≢ 32) × (b ≢ 10)) argument
  pub other : All (λ b. (b ≢ 32) × (b ≢ 10)) further
  pub order : argument ≡ [] → further ≡ []

-- ms alone names a length
abbrev pub HasSize : MetaCommand → ℕ → Type 0
HasSize metas.Get len = len ≡ 0
HasSize metas.Set len = len < 2 ^ 31
HasSize metas.Delete len = len ≡ 0
HasSize metas.Arithmetic len = len ≡ 0
HasSize metas.Debug len = len ≡ 0

-- a text does not begin with a space
abbrev pub StartsWithNone : List ℕ → Type 0
StartsWithNone [] = Unit {0}
StartsWithNone (b ∷ bs) = b ≢ 32

-- what a meta command names: its flags are at most 16, have no fault, and begin with no space
pub record CanAskMeta (meta : MetaAsking) : Type 0 where
  pub key : IsName meta.key
  pub size : HasSize meta.command meta.length
  pub first : StartsWithNone meta.flags
  pub bytes : All (λ b. b ≢ 10) meta.flags
  pub few : length (parts_of meta.flags) ≤ 16
  pub faultless : flags_fault meta.command (words_of meta.flags) ≡ None

-- what the words of a line can ask for
abbrev pub CanAsk : Asked → Type 0
CanAsk (AskGet cas) = Unit {0}
CanAsk (AskGetAndTouch exptime cas) = IsExptime exptime
CanAsk (AskStore store) = CanStore store
CanAsk (AskDelete key noreply) = IsName key
CanAsk (AskDelta delta) = IsName delta.key × (delta.amount < 2 ^ 64)
CanAsk (AskTouch key exptime noreply) = IsName key × IsExptime exptime
CanAsk (AskFlushAll delay noreply) = delay < 2 ^ 31
CanAsk (AskStats argument further) = CanShow argument further
CanAsk AskVersion = Unit {0}
CanAsk (AskVerbosity level noreply) = level < 2 ^ 32
CanAsk AskQuit = Unit {0}
CanAsk (AskShutdown graceful) = Unit {0}
CanAsk AskMetaNoop = Unit {0}
CanAsk (AskMeta meta) = CanAskMeta meta

-- a request with neither a list of keys nor a data block
abbrev pub IsLone : Asked → Type 0
IsLone (AskGet cas) = ⊥
IsLone (AskGetAndTouch exptime cas) = ⊥
IsLone (AskStore store) = ⊥
IsLone (AskMeta meta) = meta.command ≢ metas.Set
IsLone _ = Unit {0}

-- a request with a data block of this length
abbrev pub HasBlock : ℕ → Asked → Type 0
HasBlock len (AskStore store) = store.length ≡ len
HasBlock len (AskMeta meta) = (meta.command ≡ metas.Set) × (meta.length ≡ len)
HasBlock len _ = ⊥

-- a request with a list of keys, and the expiry that each of them gets and whether its unique number is asked for
abbrev pub NamesKeys : Option Exptime → Bool → Asked → Type 0
NamesKeys exptime cas (AskGet it) = (exptime ≡ None) × (cas ≡ it)
NamesKeys exptime cas (AskGetAndTouch moment it) = (exptime ≡ Some moment) × (cas ≡ it)
NamesKeys exptime cas _ = ⊥

-- a request without a list of keys
abbrev pub NamesNoKeys : Asked → Type 0
NamesNoKeys (AskGet cas) = ⊥
NamesNoKeys (AskGetAndTouch exptime cas) = ⊥
NamesNoKeys _ = Unit {0}

-- ---- requests in a stream

-- what a client writes: a line; a line and a data block; or a line with keys
pub data Written : Type 0 where
  Alone : Asked → Written
  WithBlock : Asked → List ℕ → Written
  WithKeys : Asked → Option Exptime → Bool → List ℕ → List (List ℕ) → Written

-- the end of a line, and of a data block
abbrev pub ended : List ℕ → List ℕ
ended bytes = bytes ++ codes "\r\n"

-- the line of a request with keys, without its end
abbrev pub keys_line : Asked → List ℕ → List (List ℕ) → List ℕ
keys_line asked key keys = spaced (command_word asked) (further_words asked ++ key ∷ keys)

-- its bytes
abbrev pub written_text : Written → List ℕ
written_text (Alone asked) = ended (line_text asked)
written_text (WithBlock asked block) = ended (line_text asked) ++ ended block
written_text (WithKeys asked exptime cas key keys) = ended (keys_line asked key keys)

-- what the reader is to give of it
abbrev pub written_told : Written → List Told
written_told (Alone asked) = TellRequest asked ∷ []
written_told (WithBlock asked block) = TellData asked block ∷ []
written_told (WithKeys asked exptime cas key keys) = TellRequest asked ∷ (map (λ k. TellKey k exptime cas) (key ∷ keys) ++ TellKeysEnd ∷ [])

-- a line of at most 2,047 bytes that has what it names
pub record CanSend (line : List ℕ) (asked : Asked) : Type 0 where
  pub can : CanAsk asked
  pub few : length line ≤ 2047

-- what a client can write to a reader of data blocks of at most so many bytes
abbrev pub IsWritten : ℕ → Written → Type 0
IsWritten most (Alone asked) = CanSend (line_text asked) asked × IsLone asked
IsWritten most (WithBlock asked block) = CanSend (line_text asked) asked × (HasBlock (length block) asked × (length block ≤ most))
IsWritten most (WithKeys asked exptime cas key keys) = CanSend (keys_line asked key keys) asked × (NamesKeys exptime cas asked × All IsName (key ∷ keys))

-- a line that a client writes asks for what was meant
abbrev pub LinesReadBack : Type 0
LinesReadBack = (asked : Asked) → CanAsk asked → NamesNoKeys asked → request_of (line_text asked) ≡ Ok asked

-- a stream that clients write gives what was meant, one after the other
abbrev pub StreamsReadBack : Type 0
StreamsReadBack = (most : ℕ) (all : List Written) → All (IsWritten most) all → events_of most Line (flat_map written_text all) ≡ flat_map written_told all
