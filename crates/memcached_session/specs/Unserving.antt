-- What a meta command asks for that is not served, and the line that says so.
use Rattle.std.specs.Prelude.{ℕ, List, if◌then◌else◌, Option, Some, None, codes}
use Rattle.memcached_text.specs.declared.verb.MetaCommand.{MetaCommand}
use Rattle.memcached_text.specs.declared.verb.MetaCommand.TheVariants as metas
use Rattle.memcached_text.specs.Asked.{MetaAsking}
use Rattle.memcached_session.specs.declared.unserved.Unserved.{Unserved}
use Rattle.memcached_session.specs.declared.unserved.Unserved.TheVariants.{Debug, Base64, WasHit, LastUsed}
use Rattle.memcached_session.specs.MetaReading.{has_flag}

-- the line that says so
abbrev pub unserved_text : Unserved → List ℕ
unserved_text Debug = codes "CLIENT_ERROR me is not served\r\n"
unserved_text Base64 = codes "CLIENT_ERROR flag b is not served\r\n"
unserved_text WasHit = codes "CLIENT_ERROR flag h is not served\r\n"
unserved_text LastUsed = codes "CLIENT_ERROR flag l is not served\r\n"

-- b, h and l are not served
abbrev pub unserved_flag : List ℕ → Option Unserved
unserved_flag flags =
    if has_flag 98 flags then Some Base64
    else (if has_flag 104 flags then Some WasHit
    else (if has_flag 108 flags then Some LastUsed else None))

abbrev pub unserved_by : MetaCommand → List ℕ → Option Unserved
unserved_by metas.Debug flags = Some Debug
unserved_by metas.Get flags = unserved_flag flags
unserved_by metas.Set flags = unserved_flag flags
unserved_by metas.Delete flags = unserved_flag flags
unserved_by metas.Arithmetic flags = unserved_flag flags

-- me is not served, nor are those flags
abbrev pub unserved_in : MetaAsking → Option Unserved
unserved_in meta = unserved_by meta.command meta.flags
