-- The commands that a script's lines spell.
use Rattle.std.specs.Prelude.{ℕ, Bool, ◌&&◌, List, [], length, ◌==◌, nat_le, nat_lt, if◌then◌else◌, Option, Some, None, option_map, option_and_then, slice_index_or, codes}
use Rattle.std.specs.Str.{bytes_eq}
use Rattle.record_pages.specs.Expiry.{never}
use Rattle.script_words.specs.Words.{words_of, number_of, time_of}
use Rattle.script_words.specs.declared.command.Command.{Command}
use Rattle.script_words.specs.declared.command.Command.TheVariants.{Put, Get, Remove, Forget, Flush, Move, Verdict, Trace}

-- that many words, and this is the first
abbrev pub is_named : List (List ℕ) → ℕ → List ℕ → Bool
is_named words count name = (length words == count) && bytes_eq (slice_index_or words 0 []) name

-- a key is a word of at most 255 bytes
abbrev pub key_of : List ℕ → Option (List ℕ)
key_of word = if nat_lt 0 (length word) && nat_le (length word) 255 then Some word else None

-- a value is a word of at most 2,048 bytes; - is the empty value
abbrev pub value_of : List ℕ → Option (List ℕ)
value_of word = if bytes_eq word (codes "-") then Some [] else (if nat_le (length word) 2048 then Some word else None)

-- remove KEY or forget KEY, by what is to be done with the key
abbrev pub at_key : (List ℕ → Command) → List (List ℕ) → Option Command
at_key command words = option_map command (key_of (slice_index_or words 1 []))

-- the get of the key that this word writes, at a moment, if there is one
unfoldable pub get_words : List ℕ → Option ℕ → Option Command
get_words key moment = option_and_then (λ k. option_map (λ m. Get k m) moment) (key_of key)

-- the put of these words, with the moment from which it is expired, if there is one
unfoldable pub put_words : List ℕ → List ℕ → List ℕ → Option ℕ → Option Command
put_words key value word expires =
    option_and_then (λ k. option_and_then (λ v. option_and_then (λ w. option_map (λ e. Put k v w e) expires) (number_of word)) (value_of value)) (key_of key)

-- verdict, trace, flush or move
unfoldable pub bare_of : List (List ℕ) → Option Command
bare_of words =
    if is_named words 1 (codes "verdict") then Some Verdict
    else (if is_named words 1 (codes "trace") then Some Trace
    else (if is_named words 1 (codes "flush") then Some Flush
    else (if is_named words 1 (codes "move") then Some Move else None)))

-- get KEY [MOMENT], remove KEY, forget KEY, put KEY VALUE WORD [EXPIRES], or a command of one word.
-- If no moment is given, a get is at 0, and a put never expires
abbrev pub command_of_words : List (List ℕ) → Option Command
command_of_words words =
    if is_named words 2 (codes "get") then get_words (slice_index_or words 1 []) (Some 0)
    else (if is_named words 3 (codes "get") then get_words (slice_index_or words 1 []) (time_of (slice_index_or words 2 []))
    else (if is_named words 2 (codes "remove") then at_key Remove words
    else (if is_named words 2 (codes "forget") then at_key Forget words
    else (if is_named words 4 (codes "put") then put_words (slice_index_or words 1 []) (slice_index_or words 2 []) (slice_index_or words 3 []) (Some never)
    else (if is_named words 5 (codes "put") then put_words (slice_index_or words 1 []) (slice_index_or words 2 []) (slice_index_or words 3 []) (time_of (slice_index_or words 4 []))
    else bare_of words)))))

-- the command that a line spells, if it spells one
abbrev pub command_of : List ℕ → Option Command
command_of line = option_and_then command_of_words (words_of line)
