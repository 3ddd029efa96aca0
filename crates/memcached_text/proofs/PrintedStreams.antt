-- A stream that clients write gives what was meant.
use Rattle.std.proofs.Common.{◌≡◌, ◌≢◌, ℕ, zero, suc, ◌+◌, ◌-◌, ◌<◌, ◌≤◌, ◌^◌, not, eqb, nat_lt, nat_le, ◌==◌, ◌&&◌, ◌||◌, Bool, true, false, List, [], ◌∷◌, ◌++◌, length, take, drop, map, All, Option, Some, None, Result, Ok, refl, sym, ap, subst, ◌∙◌, arith, inl, inr, get_or, append_assoc, append-nil, zero-add}
use Rattle.std.specs.Prelude.{codes, position}
use Rattle.std.specs.Fmt.{decimal}
use Rattle.std.specs.List.{flat_map, list_all, position_or_len}
use Rattle.std.proofs.lemmas.Bool.{cases_Bool}
use Rattle.std.proofs.lemmas.Bool.Decides.{nat_tests}
use Rattle.std.proofs.lemmas.Grind.{common_steps}
use Rattle.std.proofs.lemmas.List.{length-append}
use Rattle.std.proofs.lemmas.List.Elements.{All-nil, All-cons, All-head, All-tail, All-append, All-weaker}
use borrow.Author.Tests.{lt-ltb}
use Rattle.memcached_text.specs.declared.exptime.Exptime.{Exptime}
use Rattle.memcached_text.specs.declared.reader_state.ReaderState.{ReaderState}
use Rattle.memcached_text.specs.declared.reader_state.ReaderState.TheVariants.{Line, Keys}
use Rattle.memcached_text.specs.declared.store_command.StoreCommand.{StoreCommand}
use Rattle.memcached_text.specs.declared.store_command.StoreCommand.TheVariants as modes
use Rattle.memcached_text.specs.declared.verb.Direction.TheVariants.{Up, Down}
use Rattle.memcached_text.specs.declared.verb.MetaCommand.{MetaCommand}
use Rattle.memcached_text.specs.declared.verb.MetaCommand.TheVariants as metas
use Rattle.memcached_text.specs.declared.verb.Verb.{Verb}
use Rattle.memcached_text.specs.declared.verb.Verb.TheVariants as verbs
use Rattle.memcached_text.specs.Classic.{get_of, get_and_touch_of}
use Rattle.memcached_text.specs.Asked.{Asked, Storing, MetaAsking, AskGet, AskGetAndTouch, AskStore, AskDelete, AskDelta, AskTouch, AskFlushAll, AskStats, AskVersion, AskVerbosity, AskQuit, AskShutdown, AskMetaNoop, AskMeta}
use Rattle.memcached_text.specs.Printing.{spaced, flagged, quiet_words, exptime_word, mode_word, cas_words, direction_word, delay_words, some_word, graceful_words, meta_word, size_words, command_word, further_words, flags_of, line_text, IsWord, IsName, IsExptime, HasCas, CanStore, CanShow, HasSize, CanAskMeta, CanAsk, CanSend, NamesNoKeys, IsLone, HasBlock, NamesKeys, Written, Alone, WithBlock, WithKeys, ended, keys_line, written_text, written_told, IsWritten, StreamsReadBack}
use Rattle.memcached_text.specs.Requests.{classic_of, request_of}
use Rattle.memcached_text.specs.Steps.{Outcome, Told, events_in, TellRequest, TellData, TellKey, TellKeysEnd, outcome, is_feed, is_end, without_return, block_step, meta_step, plain_step, asked_step, whole_step, line_by, line_step, key_by, key_step, passing, decided, step_of, given_list, events_of}
use Rattle.memcached_text.specs.Verbs.{verb_of, meta_of}
use Rattle.memcached_text.specs.Words.{after_word, is_key, words_of}
use Rattle.memcached_text.proofs.PrintedWords.{parts_spaced, drop_word, drop_all, decimal_word, exptime_is_word, exptime_reads, is_name}
use Rattle.memcached_text.proofs.PrintedRequests.{Words, all_words, letters, noreply, of_bytes, word_past, lines_read_back}
use Rattle.memcached_text.proofs.StepLaws.{place_at, place_taken}
use Rattle.memcached_text.proofs.Streams.{steady, later}

-- ---- the words of a request are words

more_words : (words others : List (List ℕ)) → Words words → Words others → Words (words ++ others)
more_words [] others all rest = rest
more_words (word ∷ words) others all rest = (all.0, more_words words others all.1 rest)

quiet_are : (quiet : Bool) → Words (quiet_words quiet)
quiet_are true = (noreply, tt)
quiet_are false = tt

mode_is : (mode : StoreCommand) → IsWord (mode_word mode)
mode_is modes.Set = letters (codes "set") refl
mode_is modes.Add = letters (codes "add") refl
mode_is modes.Replace = letters (codes "replace") refl
mode_is modes.Append = letters (codes "append") refl
mode_is modes.Prepend = letters (codes "prepend") refl
mode_is modes.Cas = letters (codes "cas") refl

cas_are : (mode : StoreCommand) (cas : ℕ) → HasCas mode cas → Words (cas_words mode cas)
cas_are modes.Set cas has = tt
cas_are modes.Add cas has = tt
cas_are modes.Replace cas has = tt
cas_are modes.Append cas has = tt
cas_are modes.Prepend cas has = tt
cas_are modes.Cas cas has = (decimal_word cas has, tt)

meta_is : (command : MetaCommand) → IsWord (meta_word command)
meta_is metas.Get = letters (codes "mg") refl
meta_is metas.Set = letters (codes "ms") refl
meta_is metas.Delete = letters (codes "md") refl
meta_is metas.Arithmetic = letters (codes "ma") refl
meta_is metas.Debug = letters (codes "me") refl

size_are : (command : MetaCommand) (len : ℕ) → HasSize command len → Words (size_words command len)
size_are metas.Get len has = tt
size_are metas.Set len has = (decimal_word len (omega (arith, has)), tt)
size_are metas.Delete len has = tt
size_are metas.Arithmetic len has = tt
size_are metas.Debug len has = tt

delay_are : (delay : ℕ) → delay < 2 ^ 31 → Words (delay_words delay)
delay_are delay small = elim (cases_Bool (delay == 0)) [
  | inl none ↦ rw none tt
  | inr some ↦ rw some (decimal_word delay (omega (arith, small)), tt)
]

some_are : (bytes : List ℕ) → All (λ b. (b ≢ 32) × (b ≢ 10)) bytes → Words (some_word bytes)
some_are [] all = tt
some_are (b ∷ bs) all = (of_bytes b bs all, tt)

words_are : (asked : Asked) → CanAsk asked → Words (command_word asked ∷ further_words asked)
words_are (AskGet false) can = (letters (codes "get") refl, tt)
words_are (AskGet true) can = (letters (codes "gets") refl, tt)
words_are (AskGetAndTouch exptime false) can = (letters (codes "gat") refl, (exptime_is_word exptime can, tt))
words_are (AskGetAndTouch exptime true) can = (letters (codes "gats") refl, (exptime_is_word exptime can, tt))
words_are (AskStore s) can = (mode_is s.mode, (can.key.word, (decimal_word s.flags (omega (arith, can.flags)), (exptime_is_word s.exptime can.exptime, (decimal_word s.length (omega (arith, can.length)), more_words (cas_words s.mode s.cas) (quiet_words s.noreply) (cas_are s.mode s.cas can.cas) (quiet_are s.noreply))))))
words_are (AskDelete key quiet) can = (letters (codes "delete") refl, (can.word, quiet_are quiet))
words_are (AskDelta delta) can = (direction_is, (can.0.word, (decimal_word delta.amount can.1, quiet_are delta.noreply)))
  where
    direction_is : IsWord (direction_word delta.direction)
    direction_is = elim delta.direction as (λ d. IsWord (direction_word d)) [ Up ↦ letters (codes "incr") refl | Down ↦ letters (codes "decr") refl ]
words_are (AskTouch key exptime quiet) can = (letters (codes "touch") refl, (can.0.word, (exptime_is_word exptime can.1, quiet_are quiet)))
words_are (AskFlushAll delay quiet) can = (letters (codes "flush_all") refl, more_words (delay_words delay) (quiet_words quiet) (delay_are delay can) (quiet_are quiet))
words_are (AskStats argument further) can = (letters (codes "stats") refl, more_words (some_word argument) (some_word further) (some_are argument can.one) (some_are further can.other))
words_are AskVersion can = (letters (codes "version") refl, tt)
words_are (AskVerbosity level quiet) can = (letters (codes "verbosity") refl, (decimal_word level (omega (arith, can)), quiet_are quiet))
words_are AskQuit can = (letters (codes "quit") refl, tt)
words_are (AskShutdown true) can = (letters (codes "shutdown") refl, (letters (codes "graceful") refl, tt))
words_are (AskShutdown false) can = (letters (codes "shutdown") refl, tt)
words_are AskMetaNoop can = (letters (codes "mn") refl, tt)
words_are (AskMeta meta) can = (meta_is meta.command, (can.key.word, size_are meta.command meta.length can.size))

-- ---- a line has no feed, and does not begin as a binary request

abbrev NoFeed : List ℕ → Type 0
NoFeed bytes = All (λ b. is_feed b ≡ false) bytes

other_than_feed : (b : ℕ) → b ≢ 10 → is_feed b ≡ false
other_than_feed b apart = grind (arith, nat_tests, apart)

word_feedless : (word : List ℕ) → IsWord word → NoFeed word
word_feedless word is = All-weaker (λ b. (b ≢ 32) × (b ≢ 10)) (λ b. is_feed b ≡ false) (λ b h. other_than_feed b h.1) word is.bytes

spaced_feedless : (word : List ℕ) (words : List (List ℕ)) → Words (word ∷ words) → NoFeed (spaced word words)
spaced_feedless word [] all = word_feedless word all.0
spaced_feedless word (next ∷ words) all =
    All-append (λ b. is_feed b ≡ false) word (32 ∷ spaced next words) (word_feedless word all.0) (All-cons (λ b. is_feed b ≡ false) 32 (spaced next words) refl (spaced_feedless next words all.1))

flagged_feedless : (words flags : List ℕ) → NoFeed words → NoFeed flags → NoFeed (flagged words flags)
flagged_feedless words [] one other = one
flagged_feedless words (b ∷ bs) one other = All-append (λ b. is_feed b ≡ false) words (32 ∷ b ∷ bs) one (All-cons (λ b. is_feed b ≡ false) 32 (b ∷ bs) refl other)

flags_feedless : (asked : Asked) → CanAsk asked → NoFeed (flags_of asked)
flags_feedless (AskMeta meta) can = All-weaker (λ b. b ≢ 10) (λ b. is_feed b ≡ false) other_than_feed meta.flags can.bytes
flags_feedless (AskGet cas) can = All-nil _
flags_feedless (AskGetAndTouch exptime cas) can = All-nil _
flags_feedless (AskStore s) can = All-nil _
flags_feedless (AskDelete key quiet) can = All-nil _
flags_feedless (AskDelta delta) can = All-nil _
flags_feedless (AskTouch key exptime quiet) can = All-nil _
flags_feedless (AskFlushAll delay quiet) can = All-nil _
flags_feedless (AskStats argument further) can = All-nil _
flags_feedless AskVersion can = All-nil _
flags_feedless (AskVerbosity level quiet) can = All-nil _
flags_feedless AskQuit can = All-nil _
flags_feedless (AskShutdown graceful) can = All-nil _
flags_feedless AskMetaNoop can = All-nil _

-- a word does not begin with the byte of a binary request
abbrev begins : List ℕ → Bool
begins [] = false
begins (b ∷ bs) = not (b == 128)

mode_begins : (mode : StoreCommand) → begins (mode_word mode) ≡ true
mode_begins modes.Set = refl
mode_begins modes.Add = refl
mode_begins modes.Replace = refl
mode_begins modes.Append = refl
mode_begins modes.Prepend = refl
mode_begins modes.Cas = refl

meta_begins : (command : MetaCommand) → begins (meta_word command) ≡ true
meta_begins metas.Get = refl
meta_begins metas.Set = refl
meta_begins metas.Delete = refl
meta_begins metas.Arithmetic = refl
meta_begins metas.Debug = refl

command_begins : (asked : Asked) → begins (command_word asked) ≡ true
command_begins (AskGet false) = refl
command_begins (AskGet true) = refl
command_begins (AskGetAndTouch exptime false) = refl
command_begins (AskGetAndTouch exptime true) = refl
command_begins (AskStore s) = mode_begins s.mode
command_begins (AskDelete key quiet) = refl
command_begins (AskDelta delta) = elim delta.direction as (λ d. begins (direction_word d) ≡ true) [ Up ↦ refl | Down ↦ refl ]
command_begins (AskTouch key exptime quiet) = refl
command_begins (AskFlushAll delay quiet) = refl
command_begins (AskStats argument further) = refl
command_begins AskVersion = refl
command_begins (AskVerbosity level quiet) = refl
command_begins AskQuit = refl
command_begins (AskShutdown graceful) = refl
command_begins AskMetaNoop = refl
command_begins (AskMeta meta) = meta_begins meta.command

-- a line that begins so has a byte, and no byte of a binary request at its start
record Starts (bytes : List ℕ) : Type 0 where
  some : (length bytes == 0) ≡ false
  text : (get_or bytes 0 0 == 128) ≡ false

starts_so : (b : ℕ) (bs : List ℕ) → not (b == 128) ≡ true → Starts (b ∷ bs)
starts_so b bs is = record { some = grind (arith, nat_tests); text = grind (arith, nat_tests, is) }

line_starts : (word : List ℕ) (words : List (List ℕ)) (flags rest : List ℕ) → begins word ≡ true → Starts (flagged (spaced word words) flags ++ rest)
line_starts [] words flags rest is = let bad : false ≡ true = is in cc
line_starts (c ∷ cs) [] [] rest is = starts_so c (cs ++ rest) is
line_starts (c ∷ cs) [] (b ∷ bs) rest is = starts_so c ((cs ++ 32 ∷ b ∷ bs) ++ rest) is
line_starts (c ∷ cs) (next ∷ words) [] rest is = starts_so c ((cs ++ 32 ∷ spaced next words) ++ rest) is
line_starts (c ∷ cs) (next ∷ words) (b ∷ bs) rest is = starts_so c (((cs ++ 32 ∷ spaced next words) ++ 32 ∷ b ∷ bs) ++ rest) is

-- ---- lists

take_word : (word rest : List ℕ) → take (length word) (word ++ rest) ≡ word
take_word [] rest = refl
take_word (b ∷ bs) rest = ap (λ cs. b ∷ cs) (take_word bs rest)

drop_more : (word : List ℕ) (b : ℕ) (rest : List ℕ) → drop (length word + 1) (word ++ b ∷ rest) ≡ rest
drop_more [] b rest = refl
drop_more (c ∷ cs) b rest =
    let same : length (c ∷ cs) + 1 ≡ suc (length cs + 1) = omega arith in
    ap (λ n. drop n ((c ∷ cs) ++ b ∷ rest)) same ∙ drop_more cs b rest

at_end : (word : List ℕ) (b : ℕ) (rest : List ℕ) → ◌≡◌ {A = ℕ} (get_or (word ++ b ∷ rest) (length word) 0) b
at_end [] b rest = refl
at_end (c ∷ cs) b rest = at_end cs b rest

after_end : (word : List ℕ) (b c : ℕ) (rest : List ℕ) → ◌≡◌ {A = ℕ} (get_or (word ++ b ∷ c ∷ rest) (length word + 1) 0) c
after_end [] b c rest = refl
after_end (d ∷ ds) b c rest =
    let same : length (d ∷ ds) + 1 ≡ suc (length ds + 1) = omega arith in
    ap (λ n. get_or ((d ∷ ds) ++ b ∷ c ∷ rest) n 0) same ∙ after_end ds b c rest

first_at : (p : ℕ → Bool) (word : List ℕ) (b : ℕ) (rest : List ℕ) → All (λ c. p c ≡ false) word → p b ≡ true → position_or_len p (word ++ b ∷ rest) ≡ length word
first_at p [] b rest none is = rw is refl
first_at p (c ∷ cs) b rest none is =
    let others = first_at p cs b rest (All-tail (λ d. p d ≡ false) c cs none) is in
    rw (All-head (λ d. p d ≡ false) c cs none) (omega (arith, others))

-- the first byte that passes is at the end of a word, in a front of so many bytes
place_front : (p : ℕ → Bool) (n : ℕ) (word : List ℕ) (b : ℕ) (rest : List ℕ) → All (λ c. p c ≡ false) word → p b ≡ true → length word < n → position p (take n (word ++ b ∷ rest)) ≡ Some (length word)
place_front p n word b rest none is few =
    let longer = length-append word (b ∷ []) in
    let front : take n (word ++ b ∷ []) ≡ word ++ b ∷ [] = grind (arith, common_steps, longer, few) in
    let first : position p (word ++ b ∷ []) ≡ Some (length word) = place_at p (word ++ b ∷ []) (length word) (first_at p word b [] none is) (omega (arith, longer)) in
    let short : position p (take n (word ++ b ∷ [])) ≡ Some (length word) = ap (position p) front ∙ first in
    ap (λ bs. position p (take n bs)) (sym (append_assoc word (b ∷ []) rest)) ∙ place_taken p n (word ++ b ∷ []) rest (length word) short

-- a line's end without its carriage return
returned : (line : List ℕ) → without_return (line ++ 13 ∷ []) ≡ line
returned line =
    let longer = length-append line (13 ∷ []) in
    let last : length (line ++ 13 ∷ []) - 1 ≡ length line = omega (arith, longer) in
    rw (last, at_end line 13 [], take_word line (13 ∷ [])) refl

-- ---- a whole line

unshifted : (o : Outcome) → outcome (0 + o.taken) o.told o.state ≡ o
unshifted o = ap (λ n. outcome n o.told o.state) (zero-add o.taken)

-- a line with its end is read as what it asks for, with what follows it
line_reads : (most : ℕ) (line rest : List ℕ) (asked : Asked) → NoFeed line → length line ≤ 2047 → Starts ((line ++ 13 ∷ []) ++ 10 ∷ rest) → request_of line ≡ Ok asked →
    step_of most Line ((line ++ 13 ∷ []) ++ 10 ∷ rest) ≡ asked_step most (length (line ++ 13 ∷ []) + 1) line rest asked
unfolding step_of passing decided line_step
line_reads most line rest asked none few starts asks =
    let longer = length-append line (13 ∷ []) in
    let feedless : NoFeed (line ++ 13 ∷ []) = All-append (λ b. is_feed b ≡ false) line (13 ∷ []) none (All-cons (λ b. is_feed b ≡ false) 13 [] refl (All-nil _)) in
    let place : position is_feed (take 2049 ((line ++ 13 ∷ []) ++ 10 ∷ rest)) ≡ Some (length (line ++ 13 ∷ [])) = place_front is_feed 2049 (line ++ 13 ∷ []) 10 rest feedless refl (omega (arith, longer, few)) in
    rw (starts.some, starts.text, place, take_word (line ++ 13 ∷ []) (10 ∷ rest), drop_more (line ++ 13 ∷ []) 10 rest, returned line, asks) (unshifted (asked_step most (length (line ++ 13 ∷ []) + 1) line rest asked))

-- a request that its line ends
other_meta : (most past : ℕ) (rest : List ℕ) (asked : Asked) (command : MetaCommand) (len : ℕ) → command ≢ metas.Set → meta_step most past asked command len rest ≡ outcome past (TellRequest asked) Line
other_meta most past rest asked metas.Get len apart = refl
other_meta most past rest asked metas.Set len apart = absurd (apart refl)
other_meta most past rest asked metas.Delete len apart = refl
other_meta most past rest asked metas.Arithmetic len apart = refl
other_meta most past rest asked metas.Debug len apart = refl

lone_step : (most past : ℕ) (line rest : List ℕ) (asked : Asked) → IsLone asked → asked_step most past line rest asked ≡ outcome past (TellRequest asked) Line
lone_step most past line rest (AskGet cas) is = absurd is
lone_step most past line rest (AskGetAndTouch exptime cas) is = absurd is
lone_step most past line rest (AskStore s) is = absurd is
lone_step most past line rest (AskDelete key quiet) is = refl
lone_step most past line rest (AskDelta delta) is = refl
lone_step most past line rest (AskTouch key exptime quiet) is = refl
lone_step most past line rest (AskFlushAll delay quiet) is = refl
lone_step most past line rest (AskStats argument further) is = refl
lone_step most past line rest AskVersion is = refl
lone_step most past line rest (AskVerbosity level quiet) is = refl
lone_step most past line rest AskQuit is = refl
lone_step most past line rest (AskShutdown graceful) is = refl
lone_step most past line rest AskMetaNoop is = refl
lone_step most past line rest (AskMeta meta) is = other_meta most past rest (AskMeta meta) meta.command meta.length is

-- a request with its data block
with_block : (most past : ℕ) (asked : Asked) (quiet : Bool) (block : List ℕ) → length block ≤ most → block_step most past asked (length block) quiet (block ++ 13 ∷ 10 ∷ []) ≡ outcome (past + length block + 2) (TellData asked block) Line
with_block most past asked quiet block fits =
    let longer = length-append block (13 ∷ 10 ∷ []) in
    let small : nat_lt most (length block) ≡ false = grind (arith, nat_tests, fits) in
    let whole : nat_lt (length (block ++ 13 ∷ 10 ∷ [])) (length block + 2) ≡ false = grind (arith, nat_tests, longer) in
    rw (small, whole, at_end block 13 (10 ∷ []), after_end block 13 10 [], take_word block (13 ∷ 10 ∷ [])) refl

of_length : (most past : ℕ) (asked : Asked) (len : ℕ) (quiet : Bool) (block : List ℕ) → len ≡ length block → length block ≤ most → block_step most past asked len quiet (block ++ 13 ∷ 10 ∷ []) ≡ outcome (past + length block + 2) (TellData asked block) Line
of_length most past asked len quiet block same fits = rw same (with_block most past asked quiet block fits)

set_block : (most past : ℕ) (asked : Asked) (command : MetaCommand) (len : ℕ) (block : List ℕ) → command ≡ metas.Set → len ≡ length block → length block ≤ most → meta_step most past asked command len (block ++ 13 ∷ 10 ∷ []) ≡ outcome (past + length block + 2) (TellData asked block) Line
set_block most past asked command len block is same fits = rw (is, same) (with_block most past asked false block fits)

block_step_is : (most past : ℕ) (line block : List ℕ) (asked : Asked) → HasBlock (length block) asked → length block ≤ most → asked_step most past line (block ++ 13 ∷ 10 ∷ []) asked ≡ outcome (past + length block + 2) (TellData asked block) Line
block_step_is most past line block (AskStore s) has fits = of_length most past (AskStore s) s.length s.noreply block has fits
block_step_is most past line block (AskMeta meta) has fits = set_block most past (AskMeta meta) meta.command meta.length block has.0 has.1 fits
block_step_is most past line block (AskGet cas) has fits = absurd has
block_step_is most past line block (AskGetAndTouch exptime cas) has fits = absurd has
block_step_is most past line block (AskDelete key quiet) has fits = absurd has
block_step_is most past line block (AskDelta delta) has fits = absurd has
block_step_is most past line block (AskTouch key exptime quiet) has fits = absurd has
block_step_is most past line block (AskFlushAll delay quiet) has fits = absurd has
block_step_is most past line block (AskStats argument further) has fits = absurd has
block_step_is most past line block AskVersion has fits = absurd has
block_step_is most past line block (AskVerbosity level quiet) has fits = absurd has
block_step_is most past line block AskQuit has fits = absurd has
block_step_is most past line block (AskShutdown graceful) has fits = absurd has
block_step_is most past line block AskMetaNoop has fits = absurd has

lone_names : (asked : Asked) → IsLone asked → NamesNoKeys asked
lone_names (AskGet cas) is = is
lone_names (AskGetAndTouch exptime cas) is = is
lone_names (AskStore s) is = tt
lone_names (AskDelete key quiet) is = tt
lone_names (AskDelta delta) is = tt
lone_names (AskTouch key exptime quiet) is = tt
lone_names (AskFlushAll delay quiet) is = tt
lone_names (AskStats argument further) is = tt
lone_names AskVersion is = tt
lone_names (AskVerbosity level quiet) is = tt
lone_names AskQuit is = tt
lone_names (AskShutdown graceful) is = tt
lone_names AskMetaNoop is = tt
lone_names (AskMeta meta) is = tt

block_names : (len : ℕ) (asked : Asked) → HasBlock len asked → NamesNoKeys asked
block_names len (AskGet cas) is = is
block_names len (AskGetAndTouch exptime cas) is = is
block_names len (AskStore s) is = tt
block_names len (AskDelete key quiet) is = tt
block_names len (AskDelta delta) is = tt
block_names len (AskTouch key exptime quiet) is = tt
block_names len (AskFlushAll delay quiet) is = tt
block_names len (AskStats argument further) is = tt
block_names len AskVersion is = tt
block_names len (AskVerbosity level quiet) is = tt
block_names len AskQuit is = tt
block_names len (AskShutdown graceful) is = tt
block_names len AskMetaNoop is = tt
block_names len (AskMeta meta) is = tt

-- the line of a request has no feed, and begins as it should
text_feedless : (asked : Asked) → CanAsk asked → NoFeed (line_text asked)
unfolding line_text
text_feedless asked can =
    flagged_feedless (spaced (command_word asked) (further_words asked)) (flags_of asked) (spaced_feedless (command_word asked) (further_words asked) (words_are asked can)) (flags_feedless asked can)

text_starts : (asked : Asked) (rest : List ℕ) → Starts (line_text asked ++ rest)
unfolding line_text
text_starts asked rest = line_starts (command_word asked) (further_words asked) (flags_of asked) rest (command_begins asked)

text_reads : (most : ℕ) (asked : Asked) (rest : List ℕ) → CanSend (line_text asked) asked → NamesNoKeys asked →
    step_of most Line ((line_text asked ++ 13 ∷ []) ++ 10 ∷ rest) ≡ asked_step most (length (line_text asked ++ 13 ∷ []) + 1) (line_text asked) rest asked
text_reads most asked rest sends named =
    line_reads most (line_text asked) rest asked (text_feedless asked sends.can) sends.few
    (subst Starts (sym (append_assoc (line_text asked) (13 ∷ []) (10 ∷ rest))) (text_starts asked ((13 ∷ []) ++ 10 ∷ rest)))
    (lines_read_back asked sends.can named)

-- all bytes are taken by one step, which gives this
taken_whole : (most : ℕ) (bytes more : List ℕ) (taken : ℕ) (told : Told) → step_of most Line bytes ≡ outcome taken told Line → taken ≡ length bytes → events_of most Line (bytes ++ more) ≡ given_list told ++ events_of most Line more
taken_whole most bytes more taken told is all =
    steady most Line bytes more (outcome taken told Line) (sym is) (omega (arith, all))
    ∙ ap (λ n. given_list told ++ events_of most Line (drop n bytes ++ more)) all
    ∙ ap (λ bs. given_list told ++ events_of most Line (bs ++ more)) (drop_all bytes)

alone_reads : (most : ℕ) (asked : Asked) (more : List ℕ) → CanSend (line_text asked) asked → IsLone asked → events_of most Line (ended (line_text asked) ++ more) ≡ TellRequest asked ∷ events_of most Line more
alone_reads most asked more sends is =
    let bytes = (line_text asked ++ 13 ∷ []) ++ 10 ∷ [] in
    let longer = length-append (line_text asked ++ 13 ∷ []) (10 ∷ []) in
    ap (λ bs. events_of most Line (bs ++ more)) (sym (append_assoc (line_text asked) (13 ∷ []) (10 ∷ [])))
    ∙ taken_whole most bytes more (length (line_text asked ++ 13 ∷ []) + 1) (TellRequest asked)
    (text_reads most asked [] sends (lone_names asked is) ∙ lone_step most (length (line_text asked ++ 13 ∷ []) + 1) (line_text asked) [] asked is)
    (omega (arith, longer))

block_reads : (most : ℕ) (asked : Asked) (block more : List ℕ) → CanSend (line_text asked) asked → HasBlock (length block) asked → length block ≤ most → events_of most Line ((ended (line_text asked) ++ ended block) ++ more) ≡ TellData asked block ∷ events_of most Line more
block_reads most asked block more sends has fits =
    let line = line_text asked in
    let rest = block ++ 13 ∷ 10 ∷ [] in
    let bytes = (line ++ 13 ∷ []) ++ 10 ∷ rest in
    let same : ended line ++ ended block ≡ bytes = append_assoc line (13 ∷ 10 ∷ []) rest ∙ sym (append_assoc line (13 ∷ []) (10 ∷ rest)) in
    let longer = length-append (line ++ 13 ∷ []) (10 ∷ rest) in
    let longest = length-append block (13 ∷ 10 ∷ []) in
    ap (λ bs. events_of most Line (bs ++ more)) same
    ∙ taken_whole most bytes more (length (line ++ 13 ∷ []) + 1 + length block + 2) (TellData asked block)
    (text_reads most asked rest sends (block_names (length block) asked has) ∙ block_step_is most (length (line ++ 13 ∷ []) + 1) line block asked has fits)
    (omega (arith, longer, longest))

-- ---- a line with keys

-- a byte that ends no key
ends_none : (b : ℕ) → (b ≢ 32) × (b ≢ 10) → is_end b ≡ false
ends_none b apart = let blank = apart.0 in let feed = apart.1 in grind (arith, nat_tests, blank, feed)

key_ends : (key : List ℕ) → IsName key → All (λ b. is_end b ≡ false) key
key_ends key name = All-weaker (λ b. (b ≢ 32) × (b ≢ 10)) (λ b. is_end b ≡ false) ends_none key name.word.bytes

no_blank_first : (key rest : List ℕ) → IsWord key → position_or_len (λ b. not (b == 32)) (key ++ rest) ≡ 0
no_blank_first [] rest is = let some = is.some in absurd (omega (arith, some))
no_blank_first (c ∷ cs) rest is =
    let apart = (All-head (λ b. (b ≢ 32) × (b ≢ 10)) c cs is.bytes).0 in
    let other : (c == 32) ≡ false = grind (arith, nat_tests, apart) in rw other refl

key_full : (key : List ℕ) → IsName key → (length key == 0) ≡ false
key_full key name = let some = name.word.some in grind (arith, nat_tests, some)

-- a step among keys that passes over no space
keys_step_is : (most : ℕ) (exptime : Option Exptime) (cas : Bool) (key rest : List ℕ) (o : Outcome) → IsWord key → key_step exptime cas (key ++ rest) ≡ o → step_of most (Keys exptime cas) (key ++ rest) ≡ o
unfolding step_of passing decided
keys_step_is most exptime cas key rest o is gives = rw (no_blank_first key rest is, gives) (unshifted o)

-- a key that a space follows
spaced_key : (most : ℕ) (exptime : Option Exptime) (cas : Bool) (key : List ℕ) → IsName key → step_of most (Keys exptime cas) (key ++ 32 ∷ []) ≡ outcome (length key) (TellKey key exptime cas) (Keys exptime cas)
unfolding key_step
spaced_key most exptime cas key name =
    let few = name.few in
    let place : position is_end (take 252 (key ++ 32 ∷ [])) ≡ Some (length key) = place_front is_end 252 key 32 [] (key_ends key name) refl (omega (arith, few)) in
    keys_step_is most exptime cas key (32 ∷ []) (outcome (length key) (TellKey key exptime cas) (Keys exptime cas)) name.word
    (rw (place, at_end key 32 [], take_word key (32 ∷ []), is_name key name) refl)

-- a key at the end of a line
last_key_is : (most : ℕ) (exptime : Option Exptime) (cas : Bool) (key : List ℕ) → IsName key → step_of most (Keys exptime cas) ((key ++ 13 ∷ []) ++ 10 ∷ []) ≡ outcome (length key) (TellKey key exptime cas) (Keys exptime cas)
unfolding key_step
last_key_is most exptime cas key name =
    let few = name.few in
    let longer = length-append key (13 ∷ []) in
    let endless : All (λ b. is_end b ≡ false) (key ++ 13 ∷ []) = All-append (λ b. is_end b ≡ false) key (13 ∷ []) (key_ends key name) (All-cons (λ b. is_end b ≡ false) 13 [] refl (All-nil _)) in
    let place : position is_end (take 252 ((key ++ 13 ∷ []) ++ 10 ∷ [])) ≡ Some (length (key ++ 13 ∷ [])) = place_front is_end 252 (key ++ 13 ∷ []) 10 [] endless refl (omega (arith, longer, few)) in
    let gives : key_step exptime cas ((key ++ 13 ∷ []) ++ 10 ∷ []) ≡ outcome (length key) (TellKey key exptime cas) (Keys exptime cas) =
    rw (place, at_end (key ++ 13 ∷ []) 10 [], take_word (key ++ 13 ∷ []) (10 ∷ []), returned key, key_full key name, is_name key name) refl in
    let same : (key ++ 13 ∷ []) ++ 10 ∷ [] ≡ key ++ 13 ∷ 10 ∷ [] = append_assoc key (13 ∷ []) (10 ∷ []) in
    ap (step_of most (Keys exptime cas)) same ∙ keys_step_is most exptime cas key (13 ∷ 10 ∷ []) (outcome (length key) (TellKey key exptime cas) (Keys exptime cas)) name.word (ap (key_step exptime cas) (sym same) ∙ gives)

-- the end of a line after its keys
line_end_is : (most : ℕ) (exptime : Option Exptime) (cas : Bool) → step_of most (Keys exptime cas) (13 ∷ 10 ∷ []) ≡ outcome 2 TellKeysEnd Line
unfolding step_of passing decided key_step
line_end_is most exptime cas = refl

-- a space before a key is passed over
blank_passed : (most : ℕ) (exptime : Option Exptime) (cas : Bool) (more : List ℕ) → events_of most (Keys exptime cas) (32 ∷ more) ≡ events_of most (Keys exptime cas) more
unfolding passing
blank_passed most exptime cas more = later most (Keys exptime cas) (32 ∷ []) more

keys_read : (most : ℕ) (exptime : Option Exptime) (cas : Bool) (key : List ℕ) (keys : List (List ℕ)) (more : List ℕ) → All IsName (key ∷ keys) →
    events_of most (Keys exptime cas) ((spaced key keys ++ 13 ∷ 10 ∷ []) ++ more) ≡ map (λ k. TellKey k exptime cas) (key ∷ keys) ++ TellKeysEnd ∷ events_of most Line more
keys_read most exptime cas key [] more names =
    let name = All-head IsName key [] names in
    let bytes = (key ++ 13 ∷ []) ++ 10 ∷ [] in
    let longer = length-append (key ++ 13 ∷ []) (10 ∷ []) in
    let long = length-append key (13 ∷ []) in
    let same : key ++ 13 ∷ 10 ∷ [] ≡ bytes = sym (append_assoc key (13 ∷ []) (10 ∷ [])) in
    ap (λ bs. events_of most (Keys exptime cas) (bs ++ more)) same
    ∙ steady most (Keys exptime cas) bytes more (outcome (length key) (TellKey key exptime cas) (Keys exptime cas)) (sym (last_key_is most exptime cas key name)) (omega (arith, longer, long))
    ∙ ap (λ bs. TellKey key exptime cas ∷ events_of most (Keys exptime cas) (bs ++ more)) (ap (drop (length key)) (sym same) ∙ drop_word key (13 ∷ 10 ∷ []))
    ∙ ap (λ events. TellKey key exptime cas ∷ events) (steady most (Keys exptime cas) (13 ∷ 10 ∷ []) more (outcome 2 TellKeysEnd Line) (sym (line_end_is most exptime cas)) (omega arith))
keys_read most exptime cas key (next ∷ keys) more names =
    let name = All-head IsName key (next ∷ keys) names in
    let others = All-tail IsName key (next ∷ keys) names in
    let after = (spaced next keys ++ 13 ∷ 10 ∷ []) ++ more in
    let longer = length-append key (32 ∷ []) in
    let same : ((key ++ 32 ∷ spaced next keys) ++ 13 ∷ 10 ∷ []) ++ more ≡ (key ++ 32 ∷ []) ++ after =
    ap (λ bs. bs ++ more) (append_assoc key (32 ∷ spaced next keys) (13 ∷ 10 ∷ [])) ∙ append_assoc key (32 ∷ (spaced next keys ++ 13 ∷ 10 ∷ [])) more ∙ sym (append_assoc key (32 ∷ []) after) in
    ap (events_of most (Keys exptime cas)) same
    ∙ steady most (Keys exptime cas) (key ++ 32 ∷ []) after (outcome (length key) (TellKey key exptime cas) (Keys exptime cas)) (sym (spaced_key most exptime cas key name)) (omega (arith, longer))
    ∙ ap (λ bs. TellKey key exptime cas ∷ events_of most (Keys exptime cas) (bs ++ after)) (drop_word key (32 ∷ []))
    ∙ ap (λ events. TellKey key exptime cas ∷ events) (blank_passed most exptime cas after ∙ keys_read most exptime cas next keys more others)

name_word : (key : List ℕ) → IsName key → IsWord key
name_word key name = name.word

names_are : (keys : List (List ℕ)) → All IsName keys → Words keys
names_are [] all = tt
names_are (key ∷ keys) all = (name_word key (All-head IsName key keys all), names_are keys (All-tail IsName key keys all))

-- the line of get or gat, of which this front is before the keys
keyed_reads : (most : ℕ) (asked : Asked) (exptime : Option Exptime) (cas : Bool) (front key : List ℕ) (keys : List (List ℕ)) (more : List ℕ) → All IsName (key ∷ keys) → NoFeed (front ++ 32 ∷ spaced key keys) → length (front ++ 32 ∷ spaced key keys) ≤ 2047 →
    Starts ((front ++ 32 ∷ spaced key keys) ++ 13 ∷ 10 ∷ []) → request_of (front ++ 32 ∷ spaced key keys) ≡ Ok asked →
    ((past : ℕ) → asked_step most past (front ++ 32 ∷ spaced key keys) [] asked ≡ outcome (length (front ++ 32 ∷ spaced key keys) - length (spaced key keys)) (TellRequest asked) (Keys exptime cas)) →
    events_of most Line (ended (front ++ 32 ∷ spaced key keys) ++ more) ≡ TellRequest asked ∷ (map (λ k. TellKey k exptime cas) (key ∷ keys) ++ TellKeysEnd ∷ events_of most Line more)
keyed_reads most asked exptime cas front key keys more names none few starts asks step =
    let line = front ++ 32 ∷ spaced key keys in
    let bytes = (line ++ 13 ∷ []) ++ 10 ∷ [] in
    let same : ended line ≡ bytes = sym (append_assoc line (13 ∷ []) (10 ∷ [])) in
    let whole = length-append front (32 ∷ spaced key keys) in
    let taken : length line - length (spaced key keys) ≡ length front + 1 = omega (arith, whole) in
    let longer = length-append (line ++ 13 ∷ []) (10 ∷ []) in
    let long = length-append line (13 ∷ []) in
    let made : step_of most Line bytes ≡ outcome (length front + 1) (TellRequest asked) (Keys exptime cas) =
    line_reads most line [] asked none few (subst Starts same starts) asks ∙ step (length (line ++ 13 ∷ []) + 1) ∙ ap (λ n. outcome n (TellRequest asked) (Keys exptime cas)) taken in
    let left : drop (length front + 1) bytes ≡ spaced key keys ++ 13 ∷ 10 ∷ [] =
    ap (drop (length front + 1)) (sym same ∙ append_assoc front (32 ∷ spaced key keys) (13 ∷ 10 ∷ [])) ∙ drop_more front 32 (spaced key keys ++ 13 ∷ 10 ∷ []) in
    ap (λ bs. events_of most Line (bs ++ more)) same
    ∙ steady most Line bytes more (outcome (length front + 1) (TellRequest asked) (Keys exptime cas)) (sym made) (omega (arith, longer, long, whole))
    ∙ ap (λ bs. TellRequest asked ∷ events_of most (Keys exptime cas) (bs ++ more)) left
    ∙ ap (λ events. TellRequest asked ∷ events) (keys_read most exptime cas key keys more names)

-- what get asks for
get_asks : (word key : List ℕ) (keys : List (List ℕ)) (verb : Verb) (cas : Bool) → IsWord word → All IsName (key ∷ keys) → meta_of word ≡ None → verb_of word ≡ Some verb → ((words : List (List ℕ)) → classic_of verb words ≡ get_of cas words) → request_of (word ++ 32 ∷ spaced key keys) ≡ Ok (AskGet cas)
unfolding request_of get_of
get_asks word key keys verb cas is names other named asks =
    let parts = parts_spaced word (key ∷ keys) (all_words (word ∷ key ∷ keys) (is, names_are (key ∷ keys) names)) in
    let listed : words_of (word ++ 32 ∷ spaced key keys) ≡ word ∷ key ∷ take 22 keys = ap (take 24) parts in
    let enough : nat_lt (length (word ∷ key ∷ take 22 keys)) 2 ≡ false = grind (arith, nat_tests) in
    rw (listed, other, named, asks (word ∷ key ∷ take 22 keys), enough) refl

-- what gat asks for
touch_asks : (word key : List ℕ) (keys : List (List ℕ)) (exptime : Exptime) (verb : Verb) (cas : Bool) → IsWord word → IsExptime exptime → All IsName (key ∷ keys) → meta_of word ≡ None → verb_of word ≡ Some verb → ((words : List (List ℕ)) → classic_of verb words ≡ get_and_touch_of cas words) → request_of (spaced word (exptime_word exptime ∷ key ∷ keys)) ≡ Ok (AskGetAndTouch exptime cas)
unfolding request_of get_and_touch_of
touch_asks word key keys exptime verb cas is time names other named asks =
    let parts = parts_spaced word (exptime_word exptime ∷ key ∷ keys) (all_words (word ∷ exptime_word exptime ∷ key ∷ keys) (is, (exptime_is_word exptime time, names_are (key ∷ keys) names))) in
    let listed : words_of (spaced word (exptime_word exptime ∷ key ∷ keys)) ≡ word ∷ exptime_word exptime ∷ take 22 (key ∷ keys) = ap (take 24) parts in
    let enough : nat_lt (length (word ∷ exptime_word exptime ∷ take 22 (key ∷ keys))) 2 ≡ false = grind (arith, nat_tests) in
    rw (listed, other, named, asks (word ∷ exptime_word exptime ∷ take 22 (key ∷ keys)), enough, exptime_reads exptime time) refl

get_reads : (most : ℕ) (word key : List ℕ) (keys : List (List ℕ)) (verb : Verb) (cas : Bool) (more : List ℕ) → IsWord word → begins word ≡ true → All IsName (key ∷ keys) → length (word ++ 32 ∷ spaced key keys) ≤ 2047 → meta_of word ≡ None → verb_of word ≡ Some verb → ((words : List (List ℕ)) → classic_of verb words ≡ get_of cas words) →
    events_of most Line (ended (word ++ 32 ∷ spaced key keys) ++ more) ≡ TellRequest (AskGet cas) ∷ (map (λ k. TellKey k None cas) (key ∷ keys) ++ TellKeysEnd ∷ events_of most Line more)
get_reads most word key keys verb cas more is begun names few other named asks =
    let past : after_word (word ++ 32 ∷ spaced key keys) ≡ spaced key keys = word_past word key keys [] is (All-head IsName key keys names).word in
    keyed_reads most (AskGet cas) None cas word key keys more names
    (spaced_feedless word (key ∷ keys) (is, names_are (key ∷ keys) names)) few
    (line_starts word (key ∷ keys) [] (13 ∷ 10 ∷ []) begun)
    (get_asks word key keys verb cas is names other named asks)
    (λ n. ap (λ rest. outcome (length (word ++ 32 ∷ spaced key keys) - length rest) (TellRequest (AskGet cas)) (Keys None cas)) past)

touch_reads : (most : ℕ) (word key : List ℕ) (keys : List (List ℕ)) (exptime : Exptime) (verb : Verb) (cas : Bool) (more : List ℕ) → IsWord word → begins word ≡ true → IsExptime exptime → All IsName (key ∷ keys) → length (spaced word (exptime_word exptime ∷ key ∷ keys)) ≤ 2047 → meta_of word ≡ None → verb_of word ≡ Some verb → ((words : List (List ℕ)) → classic_of verb words ≡ get_and_touch_of cas words) →
    events_of most Line (ended (spaced word (exptime_word exptime ∷ key ∷ keys)) ++ more) ≡ TellRequest (AskGetAndTouch exptime cas) ∷ (map (λ k. TellKey k (Some exptime) cas) (key ∷ keys) ++ TellKeysEnd ∷ events_of most Line more)
touch_reads most word key keys exptime verb cas more is begun time names few other named asks =
    let moment = exptime_word exptime in
    let front = word ++ 32 ∷ moment in
    let same : spaced word (moment ∷ key ∷ keys) ≡ front ++ 32 ∷ spaced key keys = sym (append_assoc word (32 ∷ moment) (32 ∷ spaced key keys)) in
    let past : after_word (after_word (spaced word (moment ∷ key ∷ keys))) ≡ spaced key keys =
    ap after_word (word_past word moment (key ∷ keys) [] is (exptime_is_word exptime time)) ∙ word_past moment key keys [] (exptime_is_word exptime time) (All-head IsName key keys names).word in
    let all : Words (word ∷ moment ∷ key ∷ keys) = (is, (exptime_is_word exptime time, names_are (key ∷ keys) names)) in
    ap (λ line. events_of most Line (ended line ++ more)) same
    ∙ keyed_reads most (AskGetAndTouch exptime cas) (Some exptime) cas front key keys more names
    (subst NoFeed same (spaced_feedless word (moment ∷ key ∷ keys) all)) (subst (λ line. length line ≤ 2047) same few)
    (subst (λ line. Starts (line ++ 13 ∷ 10 ∷ [])) same (line_starts word (moment ∷ key ∷ keys) [] (13 ∷ 10 ∷ []) begun))
    (subst (λ line. request_of line ≡ Ok (AskGetAndTouch exptime cas)) same (touch_asks word key keys exptime verb cas is time names other named asks))
    (λ n. ap (λ rest. outcome (length (front ++ 32 ∷ spaced key keys) - length rest) (TellRequest (AskGetAndTouch exptime cas)) (Keys (Some exptime) cas)) (ap (λ line. after_word (after_word line)) (sym same) ∙ past))

-- the events that a line with keys gives, before others
abbrev Keyed : Asked → Option Exptime → Bool → List ℕ → List (List ℕ) → List Told → List Told
Keyed asked exptime cas key keys events = TellRequest asked ∷ (map (λ k. TellKey k exptime cas) (key ∷ keys) ++ TellKeysEnd ∷ events)

with_keys : (most : ℕ) (asked : Asked) (exptime : Option Exptime) (cas : Bool) (key : List ℕ) (keys : List (List ℕ)) (more : List ℕ) → CanSend (keys_line asked key keys) asked → NamesKeys exptime cas asked → All IsName (key ∷ keys) →
    events_of most Line (ended (keys_line asked key keys) ++ more) ≡ Keyed asked exptime cas key keys (events_of most Line more)
unfolding classic_of verb_of
with_keys most (AskGet false) exptime cas key keys more sends named names =
    get_reads most (codes "get") key keys verbs.Get false more (letters (codes "get") refl) refl names sends.few refl refl (λ words. refl)
    ∙ ap (λ e. Keyed (AskGet false) e false key keys (events_of most Line more)) (sym named.0) ∙ ap (λ c. Keyed (AskGet false) exptime c key keys (events_of most Line more)) (sym named.1)
with_keys most (AskGet true) exptime cas key keys more sends named names =
    get_reads most (codes "gets") key keys verbs.Gets true more (letters (codes "gets") refl) refl names sends.few refl refl (λ words. refl)
    ∙ ap (λ e. Keyed (AskGet true) e true key keys (events_of most Line more)) (sym named.0) ∙ ap (λ c. Keyed (AskGet true) exptime c key keys (events_of most Line more)) (sym named.1)
with_keys most (AskGetAndTouch moment false) exptime cas key keys more sends named names =
    touch_reads most (codes "gat") key keys moment verbs.GetAndTouch false more (letters (codes "gat") refl) refl sends.can names sends.few refl refl (λ words. refl)
    ∙ ap (λ e. Keyed (AskGetAndTouch moment false) e false key keys (events_of most Line more)) (sym named.0) ∙ ap (λ c. Keyed (AskGetAndTouch moment false) exptime c key keys (events_of most Line more)) (sym named.1)
with_keys most (AskGetAndTouch moment true) exptime cas key keys more sends named names =
    touch_reads most (codes "gats") key keys moment verbs.GetsAndTouch true more (letters (codes "gats") refl) refl sends.can names sends.few refl refl (λ words. refl)
    ∙ ap (λ e. Keyed (AskGetAndTouch moment true) e true key keys (events_of most Line more)) (sym named.0) ∙ ap (λ c. Keyed (AskGetAndTouch moment true) exptime c key keys (events_of most Line more)) (sym named.1)
with_keys most (AskStore s) exptime cas key keys more sends named names = absurd named
with_keys most (AskDelete name quiet) exptime cas key keys more sends named names = absurd named
with_keys most (AskDelta delta) exptime cas key keys more sends named names = absurd named
with_keys most (AskTouch name moment quiet) exptime cas key keys more sends named names = absurd named
with_keys most (AskFlushAll delay quiet) exptime cas key keys more sends named names = absurd named
with_keys most (AskStats argument further) exptime cas key keys more sends named names = absurd named
with_keys most AskVersion exptime cas key keys more sends named names = absurd named
with_keys most (AskVerbosity level quiet) exptime cas key keys more sends named names = absurd named
with_keys most AskQuit exptime cas key keys more sends named names = absurd named
with_keys most (AskShutdown graceful) exptime cas key keys more sends named names = absurd named
with_keys most AskMetaNoop exptime cas key keys more sends named names = absurd named
with_keys most (AskMeta meta) exptime cas key keys more sends named names = absurd named

-- ---- all of a stream

nothing_more : (most : ℕ) → events_of most Line [] ≡ []
unfolding events_of events_in step_of passing decided line_step
nothing_more most = refl

written_reads : (most : ℕ) (w : Written) (more : List ℕ) → IsWritten most w → events_of most Line (written_text w ++ more) ≡ written_told w ++ events_of most Line more
written_reads most (Alone asked) more is = alone_reads most asked more is.0 is.1
written_reads most (WithBlock asked block) more is = block_reads most asked block more is.0 is.1.0 is.1.1
written_reads most (WithKeys asked exptime cas key keys) more is =
    with_keys most asked exptime cas key keys more is.0 is.1.0 is.1.1
    ∙ ap (λ events. TellRequest asked ∷ events) (sym (append_assoc (map (λ k. TellKey k exptime cas) (key ∷ keys)) (TellKeysEnd ∷ []) (events_of most Line more)))

pub streams_read_back : StreamsReadBack
streams_read_back most [] all = nothing_more most
streams_read_back most (w ∷ ws) all =
    written_reads most w (flat_map written_text ws) (All-head (IsWritten most) w ws all)
    ∙ ap (λ events. written_told w ++ events) (streams_read_back most ws (All-tail (IsWritten most) w ws all))
