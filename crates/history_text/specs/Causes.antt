-- What is reported of a bad line.
use Rattle.std.specs.Prelude.{List, ◌++◌, ℕ, codes}
use Rattle.std.specs.Fmt.{decimal}
use Rattle.history_text.specs.declared.bad_line.BadLine.{BadLine}
use Rattle.history_text.specs.declared.line_cause.LineCause.{LineCause}
use Rattle.history_text.specs.declared.line_cause.LineCause.TheVariants.{TooLong, TooManyLines, NotWords, BadStart, BadEnd, BadKind, WrongCount, NoReturn, BadKeyCode, BadKeyLen, BadValueCode, BadValueLen, BadExpiry, BadMoment, TooManyCalls, TooManyCallers, BeforeWindow}

-- the message of a cause: what is wrong, and what is wanted
abbrev pub cause_text : LineCause → List ℕ
cause_text TooLong = codes "the line is too long: a line has at most 8192 bytes"
cause_text TooManyLines = codes "too many lines: a text has at most 9223372036854775807"
cause_text NotWords = codes "a line has five to seven words of printable ASCII, separated by single spaces: CALLER START END put|hit|miss|remove KEY [VALUE [TIME]]"
cause_text BadStart = codes "START must be a number below 2^63, in decimal without leading zeros"
cause_text BadEnd = codes "END must be a number below 2^63, in decimal without leading zeros, or - if the call never returned"
cause_text BadKind = codes "the fourth word must be put, hit, miss or remove"
cause_text WrongCount = codes "wrong number of words: put and hit have KEY VALUE and at most one time after them, miss and remove have only KEY"
cause_text NoReturn = codes "END of a hit or a miss must be a number: leave out gets that never returned"
cause_text BadKeyCode = codes "bad percent-encoding in the key: % must be followed by two hexadecimal digits"
cause_text BadKeyLen = codes "the key must have 1 to 255 bytes after percent-decoding: - means no bytes, %2D is a hyphen"
cause_text BadValueCode = codes "bad percent-encoding in the value: % must be followed by two hexadecimal digits"
cause_text BadValueLen = codes "the value must have at most 2048 bytes after percent-decoding: record a hash of a longer one"
cause_text BadExpiry = codes "the expiry of a put must be a number below 2^63, in decimal without leading zeros: leave it out if the value never expires"
cause_text BadMoment = codes "the moment of a hit must be a number below 2^63, in decimal without leading zeros: leave it out to mean 0"
cause_text TooManyCalls = codes "too many calls: a history has at most 268435456"
cause_text TooManyCallers = codes "too many callers: a history has at most 65536"
cause_text BeforeWindow = codes "the call started before the window: sort the calls by START, or give a longer window"

-- a bad line in words: its number, and the cause
abbrev pub bad_line_text : BadLine → List ℕ
bad_line_text bad = codes "bad line " ++ decimal bad.number ++ codes ": " ++ cause_text bad.cause
