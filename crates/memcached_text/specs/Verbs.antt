-- The commands that words name.
use Rattle.std.specs.Prelude.{ℕ, List, if◌then◌else◌, Option, Some, None, codes}
use Rattle.std.specs.Str.{bytes_eq}
use Rattle.memcached_text.specs.declared.store_command.StoreCommand.{StoreCommand}
use Rattle.memcached_text.specs.declared.store_command.StoreCommand.TheVariants as modes
use Rattle.memcached_text.specs.declared.verb.Direction.TheVariants.{Up, Down}
use Rattle.memcached_text.specs.declared.verb.MetaCommand.{MetaCommand}
use Rattle.memcached_text.specs.declared.verb.MetaCommand.TheVariants as metas
use Rattle.memcached_text.specs.declared.verb.Verb.{Verb}
use Rattle.memcached_text.specs.declared.verb.Verb.TheVariants as verbs

-- the mode of a command that stores
abbrev pub mode_of : List ℕ → Option StoreCommand
mode_of word =
    if bytes_eq word (codes "set") then Some modes.Set
    else (if bytes_eq word (codes "add") then Some modes.Add
    else (if bytes_eq word (codes "replace") then Some modes.Replace
    else (if bytes_eq word (codes "append") then Some modes.Append
    else (if bytes_eq word (codes "prepend") then Some modes.Prepend
    else (if bytes_eq word (codes "cas") then Some modes.Cas else None)))))

-- a meta command that names a key
abbrev pub meta_of : List ℕ → Option MetaCommand
meta_of word =
    if bytes_eq word (codes "mg") then Some metas.Get
    else (if bytes_eq word (codes "ms") then Some metas.Set
    else (if bytes_eq word (codes "md") then Some metas.Delete
    else (if bytes_eq word (codes "ma") then Some metas.Arithmetic
    else (if bytes_eq word (codes "me") then Some metas.Debug else None))))

-- a command that names no key
abbrev pub of_server : List ℕ → Option Verb
of_server word =
    if bytes_eq word (codes "flush_all") then Some verbs.FlushAll
    else (if bytes_eq word (codes "stats") then Some verbs.Stats
    else (if bytes_eq word (codes "version") then Some verbs.Version
    else (if bytes_eq word (codes "verbosity") then Some verbs.Verbosity
    else (if bytes_eq word (codes "quit") then Some verbs.Quit
    else (if bytes_eq word (codes "shutdown") then Some verbs.Shutdown
    else (if bytes_eq word (codes "mn") then Some verbs.MetaNoop else None))))))

-- any other command
abbrev pub other_of : List ℕ → Option Verb
other_of word =
    if bytes_eq word (codes "get") then Some verbs.Get
    else (if bytes_eq word (codes "gets") then Some verbs.Gets
    else (if bytes_eq word (codes "gat") then Some verbs.GetAndTouch
    else (if bytes_eq word (codes "gats") then Some verbs.GetsAndTouch
    else (if bytes_eq word (codes "delete") then Some verbs.Delete
    else (if bytes_eq word (codes "incr") then Some (verbs.Count Up)
    else (if bytes_eq word (codes "decr") then Some (verbs.Count Down)
    else (if bytes_eq word (codes "touch") then Some verbs.Touch else of_server word)))))))

-- the command that stores, or the other one
abbrev pub verb_from : Option StoreCommand → Option Verb → Option Verb
verb_from (Some mode) other = Some (verbs.Store mode)
verb_from None other = other

-- the classic command that a word names, or mn
unfoldable pub verb_of : List ℕ → Option Verb
verb_of word = verb_from (mode_of word) (other_of word)
