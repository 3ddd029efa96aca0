-- What the next step of a session needs of its server.
use Rattle.std.specs.Prelude.{ℕ, Bool, true, false, ◌||◌, List, length, ◌==◌, if◌then◌else◌, Option, Some, None, codes}
use Rattle.std.specs.Str.{bytes_eq}
use Rattle.memcached_text.specs.declared.reader_state.ReaderState.{ReaderState}
use Rattle.memcached_text.specs.declared.reader_state.ReaderState.TheVariants.{Line, Keys, SkipLine, SkipData, Closed}
use Rattle.memcached_text.specs.Asked.{Asked, AskGet, AskGetAndTouch, AskStore, AskDelete, AskDelta, AskTouch, AskFlushAll, AskStats, AskVersion, AskVerbosity, AskQuit, AskShutdown, AskMetaNoop, AskMeta}
use Rattle.memcached_text.specs.Steps.{Told, Outcome, TellMore, TellRequest, TellData, TellTooLarge, TellKey, TellKeysEnd, TellRefused, TellForeign, step_of}
use Rattle.memcached_session.specs.declared.session.Session.{Session}
use Rattle.memcached_session.specs.declared.stats_kind.StatsKind.{StatsKind}
use Rattle.memcached_session.specs.declared.stats_kind.StatsKind.TheVariants as kinds
use Rattle.memcached_session.specs.declared.want.Need.{Need}
use Rattle.memcached_session.specs.declared.want.Need.TheVariants as needs
use Rattle.memcached_session.specs.declared.want.Want.{Want}
use Rattle.memcached_session.specs.declared.want.Want.TheVariants as wants
use Rattle.memcached_session.specs.Keyed.{KeyAsked, key_in, gives_number, keyed_of}
use Rattle.memcached_session.specs.Standing.{state_of}

-- the kind of a stats detail, by the word after it
abbrev pub detail_of : List ℕ → StatsKind
detail_of word =
    if bytes_eq word (codes "on") || bytes_eq word (codes "off") then kinds.Detail
    else (if bytes_eq word (codes "dump") then kinds.Dump else kinds.WrongDetail)

-- the kind that an argument of stats names, with the word after it
abbrev pub kind_of : List ℕ → List ℕ → StatsKind
kind_of word further =
    if length word == 0 then kinds.General
    else (if bytes_eq word (codes "settings") then kinds.Settings
    else (if bytes_eq word (codes "conns") then kinds.Conns
    else (if bytes_eq word (codes "items") then kinds.Items
    else (if bytes_eq word (codes "slabs") then kinds.Slabs
    else (if bytes_eq word (codes "sizes") then kinds.Sizes
    else (if bytes_eq word (codes "reset") then kinds.Reset
    else (if bytes_eq word (codes "cachedump") then kinds.Dump
    else (if bytes_eq word (codes "detail") then detail_of further else kinds.Unknown))))))))

-- the number of a kind
abbrev pub number_of_kind : StatsKind → ℕ
number_of_kind kinds.General = 0
number_of_kind kinds.Settings = 1
number_of_kind kinds.Conns = 2
number_of_kind kinds.Items = 3
number_of_kind kinds.Slabs = 4
number_of_kind kinds.Sizes = 5
number_of_kind kinds.Reset = 6
number_of_kind kinds.Unknown = 7
number_of_kind kinds.Dump = 8
number_of_kind kinds.Detail = 9
number_of_kind kinds.WrongDetail = 10

-- the client is to be closed
abbrev pub is_closed : ReaderState → Bool
is_closed Line = false
is_closed (Keys exptime cas) = false
is_closed SkipLine = false
is_closed (SkipData n) = false
is_closed Closed = true

-- what a request that asks nothing of a lane needs
abbrev pub want_asked : Asked → Need
want_asked (AskFlushAll delay noreply) = needs.FlushAll delay
want_asked (AskStats argument further) = needs.Stats (kind_of argument further)
want_asked (AskVerbosity level noreply) = needs.Verbosity level
want_asked (AskShutdown graceful) = needs.Shutdown graceful
want_asked (AskGet cas) = needs.Step
want_asked (AskGetAndTouch exptime cas) = needs.Step
want_asked (AskStore store) = needs.Step
want_asked (AskDelete key noreply) = needs.Step
want_asked (AskDelta delta) = needs.Step
want_asked (AskTouch key exptime noreply) = needs.Step
want_asked AskVersion = needs.Step
want_asked AskQuit = needs.Step
want_asked AskMetaNoop = needs.Step
want_asked (AskMeta meta) = needs.Step

-- what is needed for what a reader gave, if it asks nothing of a lane, by whether bytes are taken
abbrev pub want_alone : ℕ → Told → Need
want_alone taken TellMore = if taken == 0 then needs.More else needs.Step
want_alone taken (TellRequest asked) = want_asked asked
want_alone taken (TellData asked block) = needs.Step
want_alone taken (TellTooLarge asked) = needs.Step
want_alone taken (TellKey key exptime cas) = needs.Step
want_alone taken TellKeysEnd = needs.Step
want_alone taken (TellRefused refusal) = needs.Step
want_alone taken TellForeign = needs.Step

-- what the next step needs: the lane of a key, and a number for an item or none; or something else
pub data WantShown : Type 0 where
  WantLane : List ℕ → Bool → WantShown
  WantAlone : Need → WantShown

abbrev pub want_shown : Want → WantShown
want_shown (wants.Lane key number) = WantLane key.now number
want_shown (wants.Alone need) = WantAlone need

-- the lane of the key that something is asked of, if anything is
abbrev pub want_by : Option KeyAsked → ℕ → Told → WantShown
want_by (Some asked) taken told = WantLane (key_in asked) (gives_number asked)
want_by None taken told = WantAlone (want_alone taken told)

-- what the next step needs, by where the reader stands and what it gives
abbrev pub want_at : ReaderState → Outcome → WantShown
want_at state o = if is_closed state then WantAlone needs.Close else want_by (keyed_of o.told) o.taken o.told

-- what the next step of a session needs, by the bytes at hand
abbrev pub want_of : Session → List ℕ → WantShown
want_of session bytes = want_at (state_of session) (step_of 2039 (state_of session) bytes)

-- an item may get the number that the server draws
abbrev pub draws : WantShown → Bool
draws (WantLane key number) = number
draws (WantAlone need) = false

-- a step takes bytes, and asks nothing of a lane
abbrev pub is_alone : WantShown → Bool
is_alone (WantLane key number) = false
is_alone (WantAlone needs.More) = false
is_alone (WantAlone needs.Step) = true
is_alone (WantAlone (needs.FlushAll delay)) = true
is_alone (WantAlone (needs.Stats kind)) = true
is_alone (WantAlone (needs.Verbosity level)) = true
is_alone (WantAlone (needs.Shutdown graceful)) = true
is_alone (WantAlone needs.Close) = false

-- a step takes bytes, and asks something of the lane of a key
abbrev pub is_keyed : WantShown → Bool
is_keyed (WantLane key number) = true
is_keyed (WantAlone need) = false
