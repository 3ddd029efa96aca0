-- How a text is read: which of its calls, and what a bad line means.
use Rattle.std.specs.Prelude.{ℕ, ◌%◌, Bool, true, false, ◌==◌, nat_lt, List, if◌then◌else◌}
use Rattle.set_hash.specs.Fnv.{fnv1a}
use Rattle.history_text.specs.declared.line_cause.LineCause.{LineCause}
use Rattle.history_text.specs.declared.line_cause.LineCause.TheVariants.{TooLong, TooManyLines, NotWords, BadStart, BadEnd, BadKind, WrongCount, NoReturn, BadKeyCode, BadKeyLen, BadValueCode, BadValueLen, BadExpiry, BadMoment, TooManyCalls, TooManyCallers, BeforeWindow}
use Rattle.history_text.specs.declared.reading.Reading.{Reading}
use Rattle.history_text.specs.declared.share.Share.{Share}

-- one share of so many
abbrev pub share_by : ℕ → ℕ → Share
share_by part of = record { part = part; of = of }

-- the hash of a key that is in a share leaves this remainder. If there is one share, it has each key
unfoldable pub is_in_share : Share → List ℕ → Bool
is_in_share share key = if nat_lt 1 share.of then fnv1a key % share.of == share.part else true

-- all calls, and no bad line is passed over
abbrev pub whole : Reading
whole = record { share = share_by 0 1; skip_bad = false }

-- a cause is one of the line itself, and not of its length or of a text that is full
abbrev pub is_of_line : LineCause → Bool
is_of_line TooLong = false
is_of_line TooManyLines = false
is_of_line NotWords = true
is_of_line BadStart = true
is_of_line BadEnd = true
is_of_line BadKind = true
is_of_line WrongCount = true
is_of_line NoReturn = true
is_of_line BadKeyCode = true
is_of_line BadKeyLen = true
is_of_line BadValueCode = true
is_of_line BadValueLen = true
is_of_line BadExpiry = true
is_of_line BadMoment = true
is_of_line TooManyCalls = false
is_of_line TooManyCallers = false
is_of_line BeforeWindow = false
