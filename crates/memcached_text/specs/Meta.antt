-- The meta commands that name a key, and their flags.
use Rattle.std.specs.Prelude.{ℕ, ◌+◌, ◌^◌, Bool, false, ◌&&◌, ◌||◌, not, List, [], ◌∷◌, ◌++◌, length, drop, ◌==◌, nat_lt, nat_le, if◌then◌else◌, Option, Some, None, option_and_then, option_map, Result, Ok, Err, codes, slice_index_or, position}
use Rattle.std.specs.List.{list_any, find}
use Rattle.memcached_text.specs.declared.exptime.Exptime.{Exptime}
use Rattle.memcached_text.specs.declared.line_error.LineError.{LineError}
use Rattle.memcached_text.specs.declared.line_error.LineError.TheVariants.{Unknown, BadFormat, TooManyFlags, FlagsTooLong, DuplicateFlag, BadFlag, BadOrDuplicateFlag, BadToken, OpaqueTooLong, BadModeToken, BadInitial, BadMetaDelta, BadSetMode, BadArithmeticMode}
use Rattle.memcached_text.specs.declared.line_refusal.LineRefusal.{LineRefusal}
use Rattle.memcached_text.specs.declared.verb.MetaCommand.{MetaCommand}
use Rattle.memcached_text.specs.declared.verb.MetaCommand.TheVariants.{Get, Set, Delete, Arithmetic, Debug}
use Rattle.memcached_text.specs.Words.{words_of, word_at, after_word, is_key}
use Rattle.memcached_text.specs.Numbers.{number_below, length_of, low_number, exptime_of}
use Rattle.memcached_text.specs.Refusals.{meta_block}
use Rattle.memcached_text.specs.Asked.{Asked, AskMeta, MetaAsking}

-- the letter of a flag is its first byte, and its token what follows
abbrev pub letter_of : List ℕ → ℕ
letter_of flag = slice_index_or flag 0 0

abbrev pub token_of : List ℕ → List ℕ
token_of flag = drop 1 flag

-- a letter is one of these
abbrev pub is_among : ℕ → List ℕ → Bool
is_among letter letters = list_any (λ other. other == letter) letters

-- one of the flags has this letter
abbrev pub has_letter : ℕ → List (List ℕ) → Bool
has_letter letter flags = list_any (λ flag. letter_of flag == letter) flags

-- the flag with a letter, if there is one
abbrev pub flag_at : ℕ → List (List ℕ) → Option (List ℕ)
flag_at letter flags = find (λ flag. letter_of flag == letter) flags

-- the token of the flag with a letter, and the number or the moment that it writes
abbrev pub token_at : ℕ → List ℕ → Option (List ℕ)
token_at letter flags = option_map token_of (flag_at letter (words_of flags))

-- the place of the first flag with a letter
abbrev pub place_at : ℕ → List (List ℕ) → Option ℕ
place_at letter flags = position (λ flag. letter_of flag == letter) flags

-- one place is before another
abbrev pub is_less : Option ℕ → Option ℕ → Bool
is_less (Some i) (Some j) = nat_lt i j
is_less (Some i) None = false
is_less None place = false

-- the flag with one letter stands before that with another; not if one of them is not there
abbrev pub is_before : ℕ → ℕ → List ℕ → Bool
is_before first second flags = is_less (place_at first (words_of flags)) (place_at second (words_of flags))

unfoldable pub number_at : ℕ → List ℕ → Option ℕ
number_at letter flags = option_and_then (number_below (2 ^ 64)) (token_at letter flags)

unfoldable pub exptime_at : ℕ → List ℕ → Option Exptime
exptime_at letter flags = option_and_then exptime_of (token_at letter flags)

-- a fault, if there is no such number or moment
abbrev pub unless : {A : Type 0} → Option A → LineError → Option LineError
unless (Some x) fault = None
unless None fault = Some fault

-- the fault of a flag whose token is a number: N, T and R have a moment, F, C, J and D one of 64 bits. memcached tells the fault of F as one of
-- the line, and takes a letter that is no ASCII for one that stands twice
unfoldable pub number_fault : ℕ → List ℕ → Option LineError
number_fault letter token =
    if is_among letter (codes "NTR") then unless (exptime_of token) BadToken
    else (if letter == 70 then unless (low_number token) BadFormat
    else (if letter == 67 then unless (number_below (2 ^ 64) token) BadToken
    else (if letter == 74 then unless (number_below (2 ^ 64) token) BadInitial
    else (if letter == 68 then unless (number_below (2 ^ 64) token) BadMetaDelta
    else (if nat_lt letter 127 then Some BadFlag else Some DuplicateFlag)))))

-- the fault of a flag by itself: O has an opaque token, M one byte
unfoldable pub flag_fault : List ℕ → Option LineError
flag_fault flag =
    if is_among (letter_of flag) (codes "bPLlhkstcfuvqI") then None
    else (if letter_of flag == 79 then (if nat_lt 32 (length flag) then Some OpaqueTooLong else None)
    else (if letter_of flag == 77 then (if length flag == 2 then None else Some BadModeToken)
    else number_fault (letter_of flag) (token_of flag)))

-- the fault of a flag after these
unfoldable pub fault_after : List (List ℕ) → List ℕ → Option LineError
fault_after before flag = if has_letter (letter_of flag) before then Some DuplicateFlag else flag_fault flag

-- the first of two faults
abbrev pub first_of : Option LineError → Option LineError → Option LineError
first_of (Some fault) other = Some fault
first_of None other = other

-- how a fault ranks among those of other flags: one that is not known or stands twice is told before all others, an opaque token that is
-- too long after all others
abbrev pub weight_of : LineError → ℕ
weight_of OpaqueTooLong = 0
weight_of BadFormat = 1
weight_of DuplicateFlag = 3
weight_of BadFlag = 3
weight_of _ = 2

abbrev pub rank_of : Option LineError → ℕ
rank_of None = 0
rank_of (Some fault) = 1 + weight_of fault

-- of two faults, the one that memcached tells: it looks no further after one of the highest rank, and else tells the later of equals
abbrev pub graver : Option LineError → Option LineError → Option LineError
graver told fault = if nat_le 4 (rank_of told) || nat_lt (rank_of fault) (rank_of told) then told else fault

-- the fault of flags that is told, after these flags, of which one is told
abbrev pub gravest : List (List ℕ) → Option LineError → List (List ℕ) → Option LineError
gravest before told [] = told
gravest before told (flag ∷ rest) = gravest (before ++ flag ∷ []) (graver told (fault_after before flag)) rest

-- the fault of a command's flags, as the command says it
abbrev pub fault_for : MetaCommand → LineError → LineError
fault_for Get fault = fault
fault_for Set fault = fault
fault_for Delete fault = BadOrDuplicateFlag
fault_for Arithmetic fault = BadOrDuplicateFlag
fault_for Debug fault = BadFormat

-- the flag M, with a mode that is none of these
abbrev pub is_mode_outside : List ℕ → List ℕ → Bool
is_mode_outside modes flag = (letter_of flag == 77) && not (is_among (slice_index_or flag 1 0) modes)

-- the fault of the mode that flags name; only ms and ma look at it
unfoldable pub mode_fault : MetaCommand → List (List ℕ) → Option LineError
mode_fault Get flags = None
mode_fault Set flags = if list_any (is_mode_outside (codes "SREAP")) flags then Some BadSetMode else None
mode_fault Delete flags = None
mode_fault Arithmetic flags = if list_any (is_mode_outside (codes "I+D-")) flags then Some BadArithmeticMode else None
mode_fault Debug flags = None

-- the fault that is told, of that of the flags and that of their mode: an opaque token that is too long is told after the mode
abbrev pub told_of : MetaCommand → Option LineError → Option LineError → Option LineError
told_of command None mode = mode
told_of command (Some fault) mode = if weight_of fault == 0 then first_of mode (Some fault) else Some (fault_for command fault)

-- the fault of a command's flags
unfoldable pub flags_fault : MetaCommand → List (List ℕ) → Option LineError
flags_fault command flags = told_of command (gravest [] None flags) (mode_fault command flags)

-- a meta command's line is refused, with the data block that belongs to it
abbrev pub meta_refusal : MetaCommand → List (List ℕ) → LineError → LineRefusal
meta_refusal command words fault = record { fault = fault; noreply = false; block = meta_block command words }

-- the request, unless its flags have a fault
abbrev pub unless_fault : Option LineError → List (List ℕ) → MetaAsking → Result Asked LineRefusal
unless_fault None words asking = Ok (AskMeta asking)
unless_fault (Some fault) words asking = Err (meta_refusal asking.command words fault)

-- COMMAND KEY FLAG.. for all but ms, by the text of the flags
abbrev pub keyed_of : MetaCommand → List (List ℕ) → List ℕ → Result Asked LineRefusal
keyed_of command words flags =
    unless_fault (flags_fault command (words_of flags)) words (record { command = command; key = word_at words 1; length = 0; flags = flags })

-- ms KEY LENGTH FLAG.., by the length and the text of the flags
abbrev pub sized_of : Option ℕ → List (List ℕ) → List ℕ → Result Asked LineRefusal
sized_of None words flags = Err (meta_refusal Set words BadFormat)
sized_of (Some length) words flags =
    unless_fault (flags_fault Set (words_of flags)) words (record { command = Set; key = word_at words 1; length = length; flags = flags })

unfoldable pub set_of : List (List ℕ) → List ℕ → Result Asked LineRefusal
set_of words flags = sized_of (length_of (word_at words 2)) words flags

-- the flags are what is after the key and, for ms, the length
abbrev pub request_after : MetaCommand → List (List ℕ) → List ℕ → Result Asked LineRefusal
request_after Get words rest = keyed_of Get words rest
request_after Set words rest = set_of words (after_word rest)
request_after Delete words rest = keyed_of Delete words rest
request_after Arithmetic words rest = keyed_of Arithmetic words rest
request_after Debug words rest = keyed_of Debug words rest

-- the key is after the command
abbrev pub asking_of : MetaCommand → List (List ℕ) → List ℕ → Result Asked LineRefusal
asking_of command words line = request_after command words (after_word (after_word line))

-- the words of a command's line before its flags
abbrev pub first_flag : MetaCommand → ℕ
first_flag Get = 2
first_flag Set = 3
first_flag Delete = 2
first_flag Arithmetic = 2
first_flag Debug = 2

-- the fault of a line with too many words, as the command says it
abbrev pub many_fault : MetaCommand → LineError
many_fault Get = TooManyFlags
many_fault _ = FlagsTooLong

-- a meta command's line, which has at most 19 words
unfoldable pub meta_request_of : MetaCommand → List (List ℕ) → List ℕ → Result Asked LineRefusal
meta_request_of command words line =
    if nat_lt (length words) 2 then Err (meta_refusal command words Unknown)
    else (if not (is_key (word_at words 1)) || nat_lt (length words) (first_flag command) then Err (meta_refusal command words BadFormat)
    else (if nat_lt 19 (length words) then Err (meta_refusal command words (many_fault command))
    else asking_of command words line))

-- the fault of the words of such a line, their flags aside
abbrev pub words_fault : MetaCommand → List (List ℕ) → Option LineError
words_fault command words =
    if nat_lt (length words) 2 then Some Unknown
    else (if not (is_key (word_at words 1)) || nat_lt (length words) (first_flag command) then Some BadFormat
    else (if nat_lt 19 (length words) then Some (many_fault command) else None))
