-- The classic commands, by the words of their lines.
use Rattle.std.specs.Prelude.{ℕ, ◌+◌, ◌^◌, Bool, true, false, ◌&&◌, ◌||◌, not, List, length, ◌==◌, nat_le, nat_lt, if◌then◌else◌, Option, Some, None, option_and_then, option_map, ok_or, Result, Ok, Err, codes}
use Rattle.std.specs.Str.{bytes_eq}
use Rattle.memcached_text.specs.declared.exptime.Exptime.{Exptime}
use Rattle.memcached_text.specs.declared.exptime.Exptime.TheVariants.{Never, At, Past}
use Rattle.memcached_text.specs.declared.line_error.LineError.{LineError}
use Rattle.memcached_text.specs.declared.line_error.LineError.TheVariants.{Unknown, BadFormat, BadDelete, BadExptime, BadDelta, BadShutdown}
use Rattle.memcached_text.specs.declared.store_command.StoreCommand.{StoreCommand}
use Rattle.memcached_text.specs.declared.store_command.StoreCommand.TheVariants.{Set, Add, Replace, Append, Prepend, Cas}
use Rattle.memcached_text.specs.declared.verb.Direction.{Direction}
use Rattle.memcached_text.specs.Words.{word_at, is_key, is_noreply}
use Rattle.memcached_text.specs.Numbers.{number_below, length_of, low_number, exptime_of}
use Rattle.memcached_text.specs.Asked.{Asked, AskGet, AskGetAndTouch, AskStore, AskDelete, AskDelta, AskTouch, AskFlushAll, AskVerbosity, AskShutdown, Storing}

-- how many words there are
abbrev pub has_words : List (List ℕ) → ℕ → ℕ → Bool
has_words words least most = nat_le least (length words) && nat_le (length words) most

-- one word more than these stands there, and it is noreply
abbrev pub ends_noreply : List (List ℕ) → ℕ → Bool
ends_noreply words least = (length words == least + 1) && is_noreply (word_at words least)

-- the words of a line that stores, without noreply: COMMAND KEY FLAGS EXPTIME LENGTH [CAS]
abbrev pub fewest_of : StoreCommand → ℕ
fewest_of Set = 5
fewest_of Add = 5
fewest_of Replace = 5
fewest_of Append = 5
fewest_of Prepend = 5
fewest_of Cas = 6

-- the unique number that the value has to have; only cas names one
unfoldable pub cas_of : StoreCommand → List (List ℕ) → Option ℕ
cas_of Set words = Some 0
cas_of Add words = Some 0
cas_of Replace words = Some 0
cas_of Append words = Some 0
cas_of Prepend words = Some 0
cas_of Cas words = number_below (2 ^ 64) (word_at words 5)

-- what these words store
unfoldable pub storing_of : StoreCommand → List (List ℕ) → Option Storing
storing_of mode words =
    if is_key (word_at words 1) then
    option_and_then (λ flags. option_and_then (λ exptime. option_and_then (λ length. option_map (λ cas.
    record {
      mode = mode;
      key = word_at words 1;
      flags = flags;
      exptime = exptime;
      length = length;
      cas = cas;
      noreply = ends_noreply words (fewest_of mode);
    })
    (cas_of mode words)) (length_of (word_at words 4))) (exptime_of (word_at words 3))) (low_number (word_at words 2))
    else None

-- COMMAND KEY FLAGS EXPTIME LENGTH [CAS] [noreply]
unfoldable pub store_of : StoreCommand → List (List ℕ) → Result Asked LineError
store_of mode words =
    if has_words words (fewest_of mode) (fewest_of mode + 1) then ok_or (option_map AskStore (storing_of mode words)) BadFormat
    else Err Unknown

-- whether no answer to a delete is wanted, if its words after the key are [0] [noreply]
unfoldable pub delete_noreply : List (List ℕ) → Option Bool
delete_noreply words =
    if length words == 2 then Some false
    else (if length words == 3 then
    (if bytes_eq (word_at words 2) (codes "0") then Some false
    else (if is_noreply (word_at words 2) then Some true else None))
    else (if bytes_eq (word_at words 2) (codes "0") && is_noreply (word_at words 3) then Some true else None))

-- the removal of a key, if the words after it can stand there
abbrev pub delete_at : List ℕ → Option Bool → Result Asked LineError
delete_at key None = Err BadDelete
delete_at key (Some noreply) = if is_key key then Ok (AskDelete key noreply) else Err BadFormat

-- delete KEY [0] [noreply]
unfoldable pub delete_of : List (List ℕ) → Result Asked LineError
delete_of words = if has_words words 2 4 then delete_at (word_at words 1) (delete_noreply words) else Err Unknown

-- incr KEY AMOUNT [noreply], decr KEY AMOUNT [noreply]
unfoldable pub delta_of : Direction → List (List ℕ) → Result Asked LineError
delta_of direction words =
    if not (has_words words 3 4) then Err Unknown
    else (if not (is_key (word_at words 1)) then Err BadFormat
    else ok_or (option_map (λ amount. AskDelta (record {
      direction = direction;
      key = word_at words 1;
      amount = amount;
      noreply = ends_noreply words 3;
    })) (number_below (2 ^ 64) (word_at words 2))) BadDelta)

-- touch KEY EXPTIME [noreply]
unfoldable pub touch_of : List (List ℕ) → Result Asked LineError
touch_of words =
    if not (has_words words 3 4) then Err Unknown
    else (if not (is_key (word_at words 1)) then Err BadFormat
    else ok_or (option_map (λ exptime. AskTouch (word_at words 1) exptime (ends_noreply words 3)) (exptime_of (word_at words 2))) BadExptime)

-- the seconds of a delay; one that has passed is none
abbrev pub delay_of : Exptime → ℕ
delay_of Never = 0
delay_of (At seconds) = seconds
delay_of Past = 0

-- flush_all [DELAY] [noreply]
unfoldable pub flush_of : List (List ℕ) → Result Asked LineError
flush_of words =
    if not (has_words words 1 3) then Err Unknown
    else (if (length words == 1) || ends_noreply words 1 then Ok (AskFlushAll 0 (ends_noreply words 1))
    else ok_or (option_map (λ exptime. AskFlushAll (delay_of exptime) (ends_noreply words 2)) (exptime_of (word_at words 1))) BadExptime)

-- verbosity LEVEL [noreply]
unfoldable pub verbosity_of : List (List ℕ) → Result Asked LineError
verbosity_of words =
    if not (has_words words 2 3) then Err Unknown
    else ok_or (option_map (λ level. AskVerbosity level (ends_noreply words 2)) (low_number (word_at words 1))) BadFormat

-- shutdown [graceful]
unfoldable pub shutdown_of : List (List ℕ) → Result Asked LineError
shutdown_of words =
    if length words == 1 then Ok (AskShutdown false)
    else (if (length words == 2) && bytes_eq (word_at words 1) (codes "graceful") then Ok (AskShutdown true) else Err BadShutdown)

-- get KEY.., gets KEY..
unfoldable pub get_of : Bool → List (List ℕ) → Result Asked LineError
get_of with_cas words = if nat_lt (length words) 2 then Err Unknown else Ok (AskGet with_cas)

-- gat EXPTIME KEY.., gats EXPTIME KEY..
unfoldable pub get_and_touch_of : Bool → List (List ℕ) → Result Asked LineError
get_and_touch_of with_cas words =
    if nat_lt (length words) 2 then Err Unknown
    else ok_or (option_map (λ exptime. AskGetAndTouch exptime with_cas) (exptime_of (word_at words 1))) BadExptime
