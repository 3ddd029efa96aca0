-- What a line asks for.
use Rattle.std.specs.Prelude.{ℕ, ◌-◌, Bool, true, false, ◌&&◌, ◌||◌, not, List, length, take, Option, Some, None, is_some, Result, Ok, Err, codes}
use Rattle.std.specs.Str.{bytes_eq}
use Rattle.memcached_text.specs.declared.line_error.LineError.{LineError}
use Rattle.memcached_text.specs.declared.line_error.LineError.TheVariants.{Unknown}
use Rattle.memcached_text.specs.declared.line_refusal.LineRefusal.{LineRefusal}
use Rattle.memcached_text.specs.declared.verb.MetaCommand.{MetaCommand}
use Rattle.memcached_text.specs.declared.verb.Verb.{Verb}
use Rattle.memcached_text.specs.declared.verb.Verb.TheVariants.{Get, Gets, GetAndTouch, GetsAndTouch, Store, Delete, Count, Touch, FlushAll, Stats, Version, Verbosity, Quit, Shutdown, MetaNoop}
use Rattle.memcached_text.specs.Words.{words_of, word_at, is_noreply}
use Rattle.memcached_text.specs.Verbs.{verb_of, meta_of}
use Rattle.memcached_text.specs.Classic.{store_of, delete_of, delta_of, touch_of, flush_of, verbosity_of, shutdown_of, get_of, get_and_touch_of}
use Rattle.memcached_text.specs.Meta.{meta_request_of}
use Rattle.memcached_text.specs.Refusals.{loud, block_after}
use Rattle.memcached_text.specs.Asked.{Asked, AskStats, AskVersion, AskQuit, AskMetaNoop}

-- the last word is noreply
abbrev pub is_last_noreply : List (List ℕ) → Bool
is_last_noreply words = is_noreply (word_at words (length words - 1))

-- a command of which memcached does not know how to read the words is answered whatever its last word
abbrev pub is_unknown : LineError → Bool
is_unknown Unknown = true
is_unknown _ = false

-- a command whose line may end in noreply
abbrev pub may_be_quiet : Verb → Bool
may_be_quiet Get = false
may_be_quiet Gets = false
may_be_quiet GetAndTouch = false
may_be_quiet GetsAndTouch = false
may_be_quiet (Store mode) = true
may_be_quiet Delete = true
may_be_quiet (Count direction) = true
may_be_quiet Touch = true
may_be_quiet FlushAll = true
may_be_quiet Stats = false
may_be_quiet Version = false
may_be_quiet Verbosity = true
may_be_quiet Quit = false
may_be_quiet Shutdown = false
may_be_quiet MetaNoop = false

-- a request, or the refusal of its line; that is not answered if the line says noreply
abbrev pub or_refusal : Verb → List (List ℕ) → Result Asked LineError → Result Asked LineRefusal
or_refusal verb words (Ok asked) = Ok asked
or_refusal verb words (Err fault) = Err (record { fault = fault; noreply = may_be_quiet verb && not (is_unknown fault) && is_last_noreply words; block = block_after verb words })

-- what the words of a classic command ask for
unfoldable pub classic_of : Verb → List (List ℕ) → Result Asked LineError
classic_of Get words = get_of false words
classic_of Gets words = get_of true words
classic_of GetAndTouch words = get_and_touch_of false words
classic_of GetsAndTouch words = get_and_touch_of true words
classic_of (Store mode) words = store_of mode words
classic_of Delete words = delete_of words
classic_of (Count direction) words = delta_of direction words
classic_of Touch words = touch_of words
classic_of FlushAll words = flush_of words
classic_of Stats words = Ok (AskStats (word_at words 1) (word_at words 2))
classic_of Version words = Ok AskVersion
classic_of Verbosity words = verbosity_of words
classic_of Quit words = Ok AskQuit
classic_of Shutdown words = shutdown_of words
classic_of MetaNoop words = Ok AskMetaNoop

-- what a line asks for, by the commands that its first word names
abbrev pub request_by : Option MetaCommand → Option Verb → List (List ℕ) → List ℕ → Result Asked LineRefusal
request_by (Some command) verb words line = meta_request_of command words line
request_by None (Some verb) words line = or_refusal verb words (classic_of verb words)
request_by None None words line = Err (loud Unknown)

-- what a line asks for, or why it is refused
unfoldable pub request_of : List ℕ → Result Asked LineRefusal
request_of line =
    let words = words_of line in
    request_by (meta_of (word_at words 0)) (verb_of (word_at words 0)) words line

-- a word names a command
abbrev pub is_command : List ℕ → Bool
is_command word = is_some (meta_of word) || is_some (verb_of word)

-- a word begins as the version of HTTP does
abbrev pub is_version : List ℕ → Bool
is_version word = bytes_eq (take 5 word) (codes "HTTP/")

-- a line of HTTP: its first word names no command, and its last one is a version
unfoldable pub is_http : List ℕ → Bool
is_http line =
    let words = words_of line in
    not (is_command (word_at words 0)) && is_version (word_at words (length words - 1))
