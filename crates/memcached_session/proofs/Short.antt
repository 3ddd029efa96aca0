-- The answer of a step without a lane has at most 4,096 bytes, and is lost only if the room is shorter.
use Rattle.std.proofs.Common.{◌≡◌, ℕ, ◌≤◌, ◌==◌, nat_le, Bool, true, false, List, length, Option, Some, None, arith, refl, lit≤}
use Rattle.std.proofs.lemmas.Bool.Decides.{nat_tests}
use Rattle.memcached_text.specs.declared.fixed_reply.FixedReply.{FixedReply}
use Rattle.memcached_text.specs.declared.fixed_reply.FixedReply.TheVariants as replies
use Rattle.memcached_text.specs.declared.line_error.LineError.{LineError}
use Rattle.memcached_text.specs.declared.line_error.LineError.TheVariants as faults
use Rattle.memcached_text.specs.Texts.{fault_text}
use Rattle.memcached_text.specs.Answers.{line_text}
use Rattle.memcached_text.specs.Asked.{Asked, AskGet, AskGetAndTouch, AskStore, AskDelete, AskDelta, AskTouch, AskFlushAll, AskStats, AskVersion, AskVerbosity, AskQuit, AskShutdown, AskMetaNoop, AskMeta}
use Rattle.memcached_text.specs.Steps.{Told, TellMore, TellRequest, TellData, TellTooLarge, TellKey, TellKeysEnd, TellRefused, TellForeign}
use Rattle.memcached_session.specs.declared.done.SessionDone.{SessionDone}
use Rattle.memcached_session.specs.declared.outcome.SessionOutcome.{SessionOutcome}
use Rattle.memcached_session.specs.declared.outcome.SessionOutcome.TheVariants as outcomes
use Rattle.memcached_session.specs.declared.stats_kind.StatsKind.{StatsKind}
use Rattle.memcached_session.specs.declared.stats_kind.StatsKind.TheVariants as kinds
use Rattle.memcached_session.specs.declared.unserved.Unserved.{Unserved}
use Rattle.memcached_session.specs.declared.unserved.Unserved.TheVariants as unserved
use Rattle.memcached_session.specs.Alone.{reply_line, stats_end, flush_said, shutdown_said, unserved_said, request_said, large_said, alone_said}
use Rattle.memcached_session.specs.Counting.{number_of_outcome}
use Rattle.memcached_session.specs.Saying.{Said, said, unless_quiet}
use Rattle.memcached_session.specs.Stepping.{written_in, done_by}
use Rattle.memcached_session.specs.Unserving.{unserved_in}
use Rattle.memcached_session.specs.Wanting.{kind_of}

-- an answer is short, and how it went is not that it was lost
abbrev pub IsShort : Said → Type 0
IsShort said = (length said.text ≤ 4096) × ((number_of_outcome said.outcome == 13) ≡ false)

reply_short : (reply : FixedReply) → length (reply_line reply) ≤ 4096
reply_short replies.End = lit≤ tt
reply_short replies.Stored = lit≤ tt
reply_short replies.NotStored = lit≤ tt
reply_short replies.Exists = lit≤ tt
reply_short replies.NotFound = lit≤ tt
reply_short replies.Deleted = lit≤ tt
reply_short replies.Touched = lit≤ tt
reply_short replies.Ok = lit≤ tt
reply_short replies.Reset = lit≤ tt
reply_short replies.MetaNoop = lit≤ tt
reply_short replies.NotNumber = lit≤ tt
reply_short replies.FlushNotAllowed = lit≤ tt
reply_short replies.ShutdownNotEnabled = lit≤ tt
reply_short replies.TooLarge = lit≤ tt
reply_short replies.OutOfMemory = lit≤ tt

fault_short : (fault : LineError) → length (line_text (fault_text fault)) ≤ 4096
fault_short faults.Unknown = lit≤ tt
fault_short faults.BadFormat = lit≤ tt
fault_short faults.BadDelete = lit≤ tt
fault_short faults.BadExptime = lit≤ tt
fault_short faults.BadDelta = lit≤ tt
fault_short faults.BadShutdown = lit≤ tt
fault_short faults.BadData = lit≤ tt
fault_short faults.LineTooLong = lit≤ tt
fault_short faults.TooManyFlags = lit≤ tt
fault_short faults.FlagsTooLong = lit≤ tt
fault_short faults.DuplicateFlag = lit≤ tt
fault_short faults.BadFlag = lit≤ tt
fault_short faults.BadOrDuplicateFlag = lit≤ tt
fault_short faults.BadToken = lit≤ tt
fault_short faults.OpaqueTooLong = lit≤ tt
fault_short faults.BadModeToken = lit≤ tt
fault_short faults.BadInitial = lit≤ tt
fault_short faults.BadMetaDelta = lit≤ tt
fault_short faults.BadSetMode = lit≤ tt
fault_short faults.BadArithmeticMode = lit≤ tt
fault_short faults.BadDetail = lit≤ tt

unserved_short : (what : Option Unserved) → IsShort (unserved_said what)
unserved_short None = (lit≤ tt, refl)
unserved_short (Some unserved.Debug) = (lit≤ tt, refl)
unserved_short (Some unserved.Base64) = (lit≤ tt, refl)
unserved_short (Some unserved.WasHit) = (lit≤ tt, refl)
unserved_short (Some unserved.LastUsed) = (lit≤ tt, refl)

quiet_short : (noreply : Bool) (text : List ℕ) (outcome : SessionOutcome) → length text ≤ 4096 → (number_of_outcome outcome == 13) ≡ false → IsShort (unless_quiet noreply text outcome)
quiet_short true text outcome short kept = (lit≤ tt, kept)
quiet_short false text outcome short kept = (short, kept)

stats_short : (kind : StatsKind) → IsShort (stats_end kind)
stats_short kinds.General = (lit≤ tt, refl)
stats_short kinds.Settings = (lit≤ tt, refl)
stats_short kinds.Conns = (lit≤ tt, refl)
stats_short kinds.Items = (lit≤ tt, refl)
stats_short kinds.Slabs = (lit≤ tt, refl)
stats_short kinds.Sizes = (lit≤ tt, refl)
stats_short kinds.Reset = (lit≤ tt, refl)
stats_short kinds.Unknown = (lit≤ tt, refl)
stats_short kinds.Dump = (lit≤ tt, refl)
stats_short kinds.Detail = (lit≤ tt, refl)
stats_short kinds.WrongDetail = (lit≤ tt, refl)

flush_short : (refuses noreply : Bool) → IsShort (flush_said refuses noreply)
flush_short true noreply = quiet_short noreply (reply_line replies.FlushNotAllowed) outcomes.Refused (lit≤ tt) refl
flush_short false noreply = quiet_short noreply (reply_line replies.Ok) outcomes.Nothing (lit≤ tt) refl

shutdown_short : (refuses : Bool) → IsShort (shutdown_said refuses)
shutdown_short true = (lit≤ tt, refl)
shutdown_short false = (lit≤ tt, refl)

request_short : (refuses : Bool) (asked : Asked) → IsShort (request_said refuses asked)
request_short refuses (AskGet cas) = (lit≤ tt, refl)
request_short refuses (AskGetAndTouch exptime cas) = (lit≤ tt, refl)
request_short refuses (AskFlushAll delay noreply) = flush_short refuses noreply
request_short refuses (AskStats argument further) = stats_short (kind_of argument further)
request_short refuses AskVersion = (lit≤ tt, refl)
request_short refuses (AskVerbosity level noreply) = quiet_short noreply (reply_line replies.Ok) outcomes.Nothing (lit≤ tt) refl
request_short refuses AskQuit = (lit≤ tt, refl)
request_short refuses (AskShutdown graceful) = shutdown_short refuses
request_short refuses AskMetaNoop = (lit≤ tt, refl)
request_short refuses (AskMeta meta) = unserved_short (unserved_in meta)
request_short refuses (AskStore store) = (lit≤ tt, refl)
request_short refuses (AskDelete key noreply) = (lit≤ tt, refl)
request_short refuses (AskDelta delta) = (lit≤ tt, refl)
request_short refuses (AskTouch key exptime noreply) = (lit≤ tt, refl)

large_short : (asked : Asked) → IsShort (large_said asked)
large_short (AskStore store) = quiet_short store.noreply (reply_line replies.TooLarge) outcomes.TooLarge (lit≤ tt) refl
large_short (AskMeta meta) = unserved_short (unserved_in meta)
large_short (AskGet cas) = (lit≤ tt, refl)
large_short (AskGetAndTouch exptime cas) = (lit≤ tt, refl)
large_short (AskFlushAll delay noreply) = (lit≤ tt, refl)
large_short (AskStats argument further) = (lit≤ tt, refl)
large_short AskVersion = (lit≤ tt, refl)
large_short (AskVerbosity level noreply) = (lit≤ tt, refl)
large_short AskQuit = (lit≤ tt, refl)
large_short (AskShutdown graceful) = (lit≤ tt, refl)
large_short AskMetaNoop = (lit≤ tt, refl)
large_short (AskDelete key noreply) = (lit≤ tt, refl)
large_short (AskDelta delta) = (lit≤ tt, refl)
large_short (AskTouch key exptime noreply) = (lit≤ tt, refl)

pub alone_short : (refuses : Bool) (told : Told) → IsShort (alone_said refuses told)
alone_short refuses TellMore = (lit≤ tt, refl)
alone_short refuses (TellRequest asked) = request_short refuses asked
alone_short refuses (TellData asked block) = request_short refuses asked
alone_short refuses (TellTooLarge asked) = large_short asked
alone_short refuses (TellKey key exptime cas) = (lit≤ tt, refl)
alone_short refuses TellKeysEnd = (lit≤ tt, refl)
alone_short refuses (TellRefused refusal) = quiet_short refusal.noreply (line_text (fault_text refusal.fault)) outcomes.Refused (fault_short refusal.fault) refl
alone_short refuses TellForeign = (lit≤ tt, refl)

fits : (n most : ℕ) → n ≤ most → nat_le n most ≡ true
fits n most less = grind (arith, nat_tests)

-- an answer that fits is not lost
pub whole_by : (said : Said) (room : List ℕ) (taken command : ℕ) → length said.text ≤ 4096 → (number_of_outcome said.outcome == 13) ≡ false → length said.text ≤ length room → ((done_by taken command said.outcome (written_in room said.text)).outcome == 13) ≡ false
whole_by said room taken command short kept within =
    rw (fits (length said.text) 4096 short, fits (length said.text) (length room) within) kept

pub not_lost : (refuses : Bool) (told : Told) (s : Said) (room : List ℕ) (taken command : ℕ) (done : SessionDone) → s ≡ alone_said refuses told → done ≡ done_by taken command s.outcome (written_in room s.text) → 4096 ≤ length room → (done.outcome == 13) ≡ false
not_lost refuses told s room taken command done is done_is enough =
    let short : IsShort s = rw is (alone_short refuses told) in
    rw done_is (whole_by s room taken command short.0 short.1 (omega (arith, short.0, enough)))
