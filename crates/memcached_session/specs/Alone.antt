-- What a step answers that asks nothing of a lane.
use Rattle.std.specs.Prelude.{ℕ, Bool, List, if◌then◌else◌, Option, Some, None, codes}
use Rattle.memcached_text.specs.declared.fixed_reply.FixedReply.{FixedReply}
use Rattle.memcached_text.specs.declared.fixed_reply.FixedReply.TheVariants as replies
use Rattle.memcached_text.specs.declared.line_error.LineError.TheVariants.{Unknown, BadDetail}
use Rattle.memcached_text.specs.Texts.{reply_text, fault_text}
use Rattle.memcached_text.specs.Answers.{line_text}
use Rattle.memcached_text.specs.Asked.{Asked, AskGet, AskGetAndTouch, AskStore, AskDelete, AskDelta, AskTouch, AskFlushAll, AskStats, AskVersion, AskVerbosity, AskQuit, AskShutdown, AskMetaNoop, AskMeta}
use Rattle.memcached_text.specs.Steps.{Told, TellMore, TellRequest, TellData, TellTooLarge, TellKey, TellKeysEnd, TellRefused, TellForeign}
use Rattle.memcached_session.specs.declared.outcome.SessionOutcome.TheVariants as outcomes
use Rattle.memcached_session.specs.declared.stats_kind.StatsKind.{StatsKind}
use Rattle.memcached_session.specs.declared.stats_kind.StatsKind.TheVariants as kinds
use Rattle.memcached_session.specs.declared.unserved.Unserved.{Unserved}
use Rattle.memcached_session.specs.Unserving.{unserved_text, unserved_in}
use Rattle.memcached_session.specs.Saying.{Said, said, silent, unless_quiet}
use Rattle.memcached_session.specs.Wanting.{kind_of}

-- the line of a fixed reply
abbrev pub reply_line : FixedReply → List ℕ
reply_line reply = line_text (reply_text reply)

-- what ends the lines of stats
abbrev pub stats_end : StatsKind → Said
stats_end kinds.General = said (reply_line replies.End) outcomes.Nothing
stats_end kinds.Settings = said (reply_line replies.End) outcomes.Nothing
stats_end kinds.Conns = said (reply_line replies.End) outcomes.Nothing
stats_end kinds.Items = said (reply_line replies.End) outcomes.Nothing
stats_end kinds.Slabs = said (reply_line replies.End) outcomes.Nothing
stats_end kinds.Sizes = said (reply_line replies.End) outcomes.Nothing
stats_end kinds.Reset = said (reply_line replies.Reset) outcomes.Nothing
stats_end kinds.Unknown = said (line_text (fault_text Unknown)) outcomes.Refused
stats_end kinds.Dump = said (reply_line replies.End) outcomes.Nothing
stats_end kinds.Detail = said (reply_line replies.Ok) outcomes.Nothing
stats_end kinds.WrongDetail = said (line_text (fault_text BadDetail)) outcomes.Refused

-- a flush, which the server refuses or did
abbrev pub flush_said : Bool → Bool → Said
flush_said refuses noreply =
    if refuses then unless_quiet noreply (reply_line replies.FlushNotAllowed) outcomes.Refused
    else unless_quiet noreply (reply_line replies.Ok) outcomes.Nothing

-- the server's end, which it refuses or not
abbrev pub shutdown_said : Bool → Said
shutdown_said refuses = if refuses then said (reply_line replies.ShutdownNotEnabled) outcomes.Refused else silent outcomes.Nothing

-- a meta command that is not served
abbrev pub unserved_said : Option Unserved → Said
unserved_said None = silent outcomes.Nothing
unserved_said (Some unserved) = said (unserved_text unserved) outcomes.Refused

-- what is answered to a request that asks nothing of a lane
abbrev pub request_said : Bool → Asked → Said
request_said refuses (AskGet cas) = silent outcomes.Nothing
request_said refuses (AskGetAndTouch exptime cas) = silent outcomes.Nothing
request_said refuses (AskFlushAll delay noreply) = flush_said refuses noreply
request_said refuses (AskStats argument further) = stats_end (kind_of argument further)
request_said refuses AskVersion = said (codes "VERSION 1.6.18\r\n") outcomes.Nothing
request_said refuses (AskVerbosity level noreply) = unless_quiet noreply (reply_line replies.Ok) outcomes.Nothing
request_said refuses AskQuit = silent outcomes.Nothing
request_said refuses (AskShutdown graceful) = shutdown_said refuses
request_said refuses AskMetaNoop = said (reply_line replies.MetaNoop) outcomes.Nothing
request_said refuses (AskMeta meta) = unserved_said (unserved_in meta)
request_said refuses (AskStore store) = silent outcomes.Nothing
request_said refuses (AskDelete key noreply) = silent outcomes.Nothing
request_said refuses (AskDelta delta) = silent outcomes.Nothing
request_said refuses (AskTouch key exptime noreply) = silent outcomes.Nothing

-- what is answered to a request whose data block is too large, if the key stays as it is
abbrev pub large_said : Asked → Said
large_said (AskStore store) = unless_quiet store.noreply (reply_line replies.TooLarge) outcomes.TooLarge
large_said (AskMeta meta) = unserved_said (unserved_in meta)
large_said _ = silent outcomes.Nothing

-- what is answered to what a reader gave that asks nothing of a lane
abbrev pub alone_said : Bool → Told → Said
alone_said refuses TellMore = silent outcomes.Nothing
alone_said refuses (TellRequest asked) = request_said refuses asked
alone_said refuses (TellData asked block) = request_said refuses asked
alone_said refuses (TellTooLarge asked) = large_said asked
alone_said refuses (TellKey key exptime cas) = silent outcomes.Nothing
alone_said refuses TellKeysEnd = said (reply_line replies.End) outcomes.Nothing
alone_said refuses (TellRefused refusal) = unless_quiet refusal.noreply (line_text (fault_text refusal.fault)) outcomes.Refused
alone_said refuses TellForeign = silent outcomes.Nothing
