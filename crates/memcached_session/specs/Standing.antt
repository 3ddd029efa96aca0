-- Where a session stands, by its plain data.
use Rattle.std.specs.Prelude.{not, ◌==◌, if◌then◌else◌, Option, Some, None}
use Rattle.memcached_text.specs.declared.exptime.Exptime.{Exptime}
use Rattle.memcached_text.specs.declared.exptime.Exptime.TheVariants.{Never, At, Past}
use Rattle.memcached_text.specs.declared.reader_state.ReaderState.{ReaderState}
use Rattle.memcached_text.specs.declared.reader_state.ReaderState.TheVariants.{Line, Keys, SkipLine, SkipData, Closed}
use Rattle.memcached_session.specs.declared.session.Session.{Session}

-- the expiry that each of the keys gets, if the numbers are one or none
abbrev pub exptime_of : Session → Option (Option Exptime)
exptime_of s =
    if s.expiry == 0 then Some None
    else (if s.expiry == 1 then Some (Some Never)
    else (if s.expiry == 2 then Some (Some (At s.seconds))
    else (if s.expiry == 3 then Some (Some Past) else None)))

-- among keys with this expiry
abbrev pub keys_state : Option (Option Exptime) → Session → ReaderState
keys_state None s = Closed
keys_state (Some exptime) s = Keys exptime (not (s.with_cas == 0))

-- the state of the reader of a session; numbers that are no place are a session that is to be closed
abbrev pub state_of : Session → ReaderState
state_of s =
    if s.place == 0 then Line
    else (if s.place == 1 then keys_state (exptime_of s) s
    else (if s.place == 2 then SkipLine
    else (if s.place == 3 then SkipData s.skipped else Closed)))
