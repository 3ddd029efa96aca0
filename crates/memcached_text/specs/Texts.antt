-- The lines of fixed words that a server answers, without their ends.
use Rattle.std.specs.Prelude.{ℕ, List, codes}
use Rattle.memcached_text.specs.declared.line_error.LineError.{LineError}
use Rattle.memcached_text.specs.declared.line_error.LineError.TheVariants as faults
use Rattle.memcached_text.specs.declared.fixed_reply.FixedReply.{FixedReply}
use Rattle.memcached_text.specs.declared.fixed_reply.FixedReply.TheVariants as replies

-- why a line is refused
abbrev pub fault_text : LineError → List ℕ
fault_text faults.Unknown = codes "ERROR"
fault_text faults.BadFormat = codes "CLIENT_ERROR bad command line format"
fault_text faults.BadDelete = codes "CLIENT_ERROR bad command line format.  Usage: delete <key> [noreply]"
fault_text faults.BadExptime = codes "CLIENT_ERROR invalid exptime argument"
fault_text faults.BadDelta = codes "CLIENT_ERROR invalid numeric delta argument"
fault_text faults.BadShutdown = codes "CLIENT_ERROR invalid shutdown mode"
fault_text faults.BadData = codes "CLIENT_ERROR bad data chunk"
fault_text faults.LineTooLong = codes "CLIENT_ERROR line too long"
fault_text faults.TooManyFlags = codes "CLIENT_ERROR options flags are too long"
fault_text faults.FlagsTooLong = codes "CLIENT_ERROR options flags too long"
fault_text faults.DuplicateFlag = codes "CLIENT_ERROR duplicate flag"
fault_text faults.BadFlag = codes "CLIENT_ERROR invalid flag"
fault_text faults.BadOrDuplicateFlag = codes "CLIENT_ERROR invalid or duplicate flag"
fault_text faults.BadToken = codes "CLIENT_ERROR bad token in command line format"
fault_text faults.OpaqueTooLong = codes "CLIENT_ERROR opaque token too long"
fault_text faults.BadModeToken = codes "CLIENT_ERROR incorrect length for M token"
fault_text faults.BadInitial = codes "CLIENT_ERROR invalid numeric initial value"
fault_text faults.BadMetaDelta = codes "CLIENT_ERROR invalid numeric delta value"
fault_text faults.BadSetMode = codes "CLIENT_ERROR invalid mode for ms M token"
fault_text faults.BadArithmeticMode = codes "CLIENT_ERROR invalid mode for ma M token"
fault_text faults.BadDetail = codes "CLIENT_ERROR usage: stats detail on|off|dump"

-- what was done, or why not
abbrev pub reply_text : FixedReply → List ℕ
reply_text replies.End = codes "END"
reply_text replies.Stored = codes "STORED"
reply_text replies.NotStored = codes "NOT_STORED"
reply_text replies.Exists = codes "EXISTS"
reply_text replies.NotFound = codes "NOT_FOUND"
reply_text replies.Deleted = codes "DELETED"
reply_text replies.Touched = codes "TOUCHED"
reply_text replies.Ok = codes "OK"
reply_text replies.Reset = codes "RESET"
reply_text replies.MetaNoop = codes "MN"
reply_text replies.NotNumber = codes "CLIENT_ERROR cannot increment or decrement non-numeric value"
reply_text replies.FlushNotAllowed = codes "CLIENT_ERROR flush_all not allowed"
reply_text replies.ShutdownNotEnabled = codes "ERROR: shutdown not enabled"
reply_text replies.TooLarge = codes "SERVER_ERROR object too large for cache"
reply_text replies.OutOfMemory = codes "SERVER_ERROR out of memory storing object"
