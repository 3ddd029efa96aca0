-- What a step was and how it went, and the numbers by which C knows them.
use Rattle.std.specs.Prelude.{ℕ, Option, Some, None}
use Rattle.memcached_text.specs.declared.exptime.Exptime.{Exptime}
use Rattle.memcached_text.specs.declared.store_command.StoreCommand.{StoreCommand}
use Rattle.memcached_text.specs.declared.store_command.StoreCommand.TheVariants as modes
use Rattle.memcached_text.specs.declared.verb.Direction.{Direction}
use Rattle.memcached_text.specs.declared.verb.Direction.TheVariants.{Up, Down}
use Rattle.memcached_text.specs.declared.verb.MetaCommand.{MetaCommand}
use Rattle.memcached_text.specs.declared.verb.MetaCommand.TheVariants as metas
use Rattle.memcached_text.specs.Asked.{Asked, AskGet, AskGetAndTouch, AskStore, AskDelete, AskDelta, AskTouch, AskFlushAll, AskStats, AskVersion, AskVerbosity, AskQuit, AskShutdown, AskMetaNoop, AskMeta}
use Rattle.memcached_text.specs.Steps.{Told, TellMore, TellRequest, TellData, TellTooLarge, TellKey, TellKeysEnd, TellRefused, TellForeign}
use Rattle.memcached_session.specs.declared.command.SessionCommand.{SessionCommand}
use Rattle.memcached_session.specs.declared.command.SessionCommand.TheVariants as commands
use Rattle.memcached_session.specs.declared.outcome.SessionOutcome.{SessionOutcome}
use Rattle.memcached_session.specs.declared.outcome.SessionOutcome.TheVariants as outcomes

-- the number of a command that stores
abbrev pub command_of_mode : StoreCommand → ℕ
command_of_mode modes.Set = 3
command_of_mode modes.Add = 4
command_of_mode modes.Replace = 5
command_of_mode modes.Append = 6
command_of_mode modes.Prepend = 7
command_of_mode modes.Cas = 8

-- the number of incr or decr
abbrev pub command_of_direction : Direction → ℕ
command_of_direction Up = 10
command_of_direction Down = 11

-- the number of a meta command
abbrev pub command_of_meta : MetaCommand → ℕ
command_of_meta metas.Get = 14
command_of_meta metas.Set = 15
command_of_meta metas.Delete = 16
command_of_meta metas.Arithmetic = 17
command_of_meta metas.Debug = 18

-- the number of a command
abbrev pub number_of_command : SessionCommand → ℕ
number_of_command commands.None = 0
number_of_command commands.Get = 1
number_of_command commands.GetAndTouch = 2
number_of_command (commands.Store mode) = command_of_mode mode
number_of_command commands.Delete = 9
number_of_command (commands.Count direction) = command_of_direction direction
number_of_command commands.Touch = 12
number_of_command commands.FlushAll = 13
number_of_command (commands.Meta command) = command_of_meta command

-- the number of how a step went
abbrev pub number_of_outcome : SessionOutcome → ℕ
number_of_outcome outcomes.Nothing = 0
number_of_outcome outcomes.Hit = 1
number_of_outcome outcomes.Miss = 2
number_of_outcome outcomes.Stored = 3
number_of_outcome outcomes.NotStored = 4
number_of_outcome outcomes.Exists = 5
number_of_outcome outcomes.Deleted = 6
number_of_outcome outcomes.Touched = 7
number_of_outcome outcomes.Counted = 8
number_of_outcome outcomes.NotNumber = 9
number_of_outcome outcomes.TooLarge = 10
number_of_outcome outcomes.NoMemory = 11
number_of_outcome outcomes.Refused = 12
number_of_outcome outcomes.Lost = 13

-- what a request is counted as; gets are counted by their keys
abbrev pub command_asked : Asked → SessionCommand
command_asked (AskStore store) = commands.Store store.mode
command_asked (AskDelete key noreply) = commands.Delete
command_asked (AskDelta delta) = commands.Count delta.direction
command_asked (AskTouch key exptime noreply) = commands.Touch
command_asked (AskFlushAll delay noreply) = commands.FlushAll
command_asked (AskMeta meta) = commands.Meta meta.command
command_asked (AskGet cas) = commands.None
command_asked (AskGetAndTouch exptime cas) = commands.None
command_asked (AskStats argument further) = commands.None
command_asked AskVersion = commands.None
command_asked (AskVerbosity level noreply) = commands.None
command_asked AskQuit = commands.None
command_asked (AskShutdown graceful) = commands.None
command_asked AskMetaNoop = commands.None

-- what a key of a get is counted as
abbrev pub command_of_key : Option Exptime → SessionCommand
command_of_key None = commands.Get
command_of_key (Some exptime) = commands.GetAndTouch

-- what is counted of what a reader gave
abbrev pub command_of : Told → SessionCommand
command_of TellMore = commands.None
command_of (TellRequest asked) = command_asked asked
command_of (TellData asked block) = command_asked asked
command_of (TellTooLarge asked) = command_asked asked
command_of (TellKey key exptime cas) = command_of_key exptime
command_of TellKeysEnd = commands.None
command_of (TellRefused refusal) = commands.None
command_of TellForeign = commands.None
