-- The flags of a meta request that a reader gives have no fault.
use Rattle.std.proofs.Common.{◌≡◌, ℕ, ◌+◌, ◌^◌, ◌&&◌, ◌||◌, not, nat_lt, nat_le, ◌==◌, Bool, true, false, List, [], length, take, drop, if◌then◌else◌, Option, Some, None, Result, Ok, Err, refl}
use Rattle.std.specs.Prelude.{position, slice_index_or, ok_or, codes, option_map}
use Rattle.std.specs.Str.{bytes_eq}
use Rattle.std.proofs.Common.{inl, inr}
use Rattle.std.proofs.lemmas.Bool.{cases_Bool}
use Rattle.memcached_text.specs.declared.exptime.Exptime.{Exptime}
use Rattle.memcached_text.specs.declared.line_error.LineError.{LineError}
use Rattle.memcached_text.specs.declared.line_error.LineError.TheVariants.{BadFormat, BadExptime, BadDelta}
use Rattle.memcached_text.specs.declared.line_refusal.LineRefusal.{LineRefusal}
use Rattle.memcached_text.specs.declared.reader_state.ReaderState.{ReaderState}
use Rattle.memcached_text.specs.declared.reader_state.ReaderState.TheVariants.{Line, Keys, SkipLine, SkipData, Closed}
use Rattle.memcached_text.specs.declared.store_command.StoreCommand.{StoreCommand}
use Rattle.memcached_text.specs.declared.verb.Direction.{Direction}
use Rattle.memcached_text.specs.declared.verb.MetaCommand.{MetaCommand}
use Rattle.memcached_text.specs.declared.verb.MetaCommand.TheVariants as metas
use Rattle.memcached_text.specs.declared.verb.Verb.{Verb}
use Rattle.memcached_text.specs.declared.verb.Verb.TheVariants as verbs
use Rattle.memcached_text.specs.Asked.{Asked, MetaAsking, AskGet, AskGetAndTouch, AskStore, AskDelete, AskDelta, AskTouch, AskFlushAll, AskStats, AskVersion, AskVerbosity, AskQuit, AskShutdown, AskMetaNoop, AskMeta}
use Rattle.memcached_text.specs.Classic.{has_words, ends_noreply, storing_of, fewest_of, store_of, delete_at, delete_noreply, delete_of, delta_of, touch_of, flush_of, verbosity_of, shutdown_of, get_of, get_and_touch_of}
use Rattle.memcached_text.specs.Limits.{AreFlags, HasFlags, GivesFlags}
use Rattle.memcached_text.specs.Meta.{weight_of, first_of, gravest, fault_for, mode_fault, told_of, flags_fault, unless_fault, keyed_of, sized_of, set_of, asking_of, first_flag, meta_request_of}
use Rattle.memcached_text.specs.Numbers.{number_below, length_of, low_number, exptime_of}
use Rattle.memcached_text.specs.Requests.{or_refusal, classic_of, request_by, request_of, is_http}
use Rattle.memcached_text.specs.Steps.{Outcome, is_feed, is_end, without_return, block_step, meta_step, whole_step, refused_step, long_step, line_by, line_step, key_or, last_key, key_by, key_step, passing, decided, step_of}
use Rattle.memcached_text.specs.Verbs.{verb_of, meta_of}
use Rattle.memcached_text.specs.Words.{words_of, word_at, after_word, is_key}

-- a request that was read has flags without a fault
abbrev pub IsGood : {E : Type 0} → Result Asked E → Type 0
IsGood (Ok asked) = HasFlags asked
IsGood (Err fault) = Unit {0}

-- so has one of two requests
either : {E : Type 0} (b : Bool) (x y : Result Asked E) → IsGood x → IsGood y → IsGood (if b then x else y)
either true x y one other = one
either false x y one other = other

-- a request that no meta command names
good_of : {A : Type 0} (f : A → Asked) (found : Option A) (fault : LineError) → ((a : A) → HasFlags (f a)) → IsGood (ok_or (option_map f found) fault)
good_of f None fault all = tt
good_of f (Some a) fault all = all a

store_good : (mode : StoreCommand) (words : List (List ℕ)) → IsGood (store_of mode words)
unfolding store_of
store_good mode words = either (has_words words (fewest_of mode) (fewest_of mode + 1)) _ _ (good_of AskStore (storing_of mode words) BadFormat (λ s. tt)) tt

delete_at_good : (key : List ℕ) (noreply : Option Bool) → IsGood (delete_at key noreply)
delete_at_good key None = tt
delete_at_good key (Some noreply) = either (is_key key) _ _ tt tt

delete_good : (words : List (List ℕ)) → IsGood (delete_of words)
unfolding delete_of
delete_good words = either (has_words words 2 4) _ _ (delete_at_good (word_at words 1) (delete_noreply words)) tt

delta_good : (direction : Direction) (words : List (List ℕ)) → IsGood (delta_of direction words)
unfolding delta_of
delta_good direction words = either (not (has_words words 3 4)) _ _ tt (either (not (is_key (word_at words 1))) _ _ tt (good_of _ (number_below (2 ^ 64) (word_at words 2)) BadDelta (λ amount. tt)))

touch_good : (words : List (List ℕ)) → IsGood (touch_of words)
unfolding touch_of
touch_good words = either (not (has_words words 3 4)) _ _ tt (either (not (is_key (word_at words 1))) _ _ tt (good_of _ (exptime_of (word_at words 2)) BadExptime (λ exptime. tt)))

flush_good : (words : List (List ℕ)) → IsGood (flush_of words)
unfolding flush_of
flush_good words = either (not (has_words words 1 3)) _ _ tt (either ((length words == 1) || ends_noreply words 1) _ _ tt (good_of _ (exptime_of (word_at words 1)) BadExptime (λ exptime. tt)))

verbosity_good : (words : List (List ℕ)) → IsGood (verbosity_of words)
unfolding verbosity_of
verbosity_good words = either (not (has_words words 2 3)) _ _ tt (good_of _ (low_number (word_at words 1)) BadFormat (λ level. tt))

shutdown_good : (words : List (List ℕ)) → IsGood (shutdown_of words)
unfolding shutdown_of
shutdown_good words = either (length words == 1) _ _ tt (either ((length words == 2) && bytes_eq (word_at words 1) (codes "graceful")) _ _ tt tt)

get_good : (cas : Bool) (words : List (List ℕ)) → IsGood (get_of cas words)
unfolding get_of
get_good cas words = either (nat_lt (length words) 2) _ _ tt tt

get_and_touch_good : (cas : Bool) (words : List (List ℕ)) → IsGood (get_and_touch_of cas words)
unfolding get_and_touch_of
get_and_touch_good cas words = either (nat_lt (length words) 2) _ _ tt (good_of _ (exptime_of (word_at words 1)) BadExptime (λ exptime. tt))

classic_good : (verb : Verb) (words : List (List ℕ)) → IsGood (classic_of verb words)
unfolding classic_of
classic_good verbs.Get words = get_good false words
classic_good verbs.Gets words = get_good true words
classic_good verbs.GetAndTouch words = get_and_touch_good false words
classic_good verbs.GetsAndTouch words = get_and_touch_good true words
classic_good (verbs.Store mode) words = store_good mode words
classic_good verbs.Delete words = delete_good words
classic_good (verbs.Count direction) words = delta_good direction words
classic_good verbs.Touch words = touch_good words
classic_good verbs.FlushAll words = flush_good words
classic_good verbs.Stats words = tt
classic_good verbs.Version words = tt
classic_good verbs.Verbosity words = verbosity_good words
classic_good verbs.Quit words = tt
classic_good verbs.Shutdown words = shutdown_good words
classic_good verbs.MetaNoop words = tt

refusal_good : (verb : Verb) (words : List (List ℕ)) (asked : Result Asked LineError) → IsGood asked → IsGood (or_refusal verb words asked)
refusal_good verb words (Ok asked) good = good
refusal_good verb words (Err fault) good = tt

-- one of two faults is told, if there is one
some_of : (mode : Option LineError) (fault : LineError) → first_of mode (Some fault) ≡ None → Some fault ≡ None
some_of None fault none = none
some_of (Some other) fault none = cc

told_none : (command : MetaCommand) (fault mode : Option LineError) → told_of command fault mode ≡ None → fault ≡ None
told_none command None mode none = refl
told_none command (Some fault) mode none = elim (cases_Bool (weight_of fault == 0)) [
  | inl last ↦ some_of mode fault (rw last at none)
  | inr other ↦ let never : Some (fault_for command fault) ≡ None = rw other at none in cc
]

-- flags of which a command finds no fault have none
no_fault : (command : MetaCommand) (words : List (List ℕ)) → flags_fault command words ≡ None → gravest [] None words ≡ None
unfolding flags_fault
no_fault command words none = told_none command (gravest [] None words) (mode_fault command words) none

unless_good : (fault : Option LineError) (words : List (List ℕ)) (meta : MetaAsking) → (fault ≡ None → AreFlags meta.flags) → IsGood (unless_fault fault words meta)
unless_good None words meta good = good refl
unless_good (Some fault) words meta good = tt

keyed_good : (command : MetaCommand) (words : List (List ℕ)) (flags : List ℕ) → IsGood (keyed_of command words flags)
keyed_good command words flags = unless_good (flags_fault command (words_of flags)) words (record { command = command; key = word_at words 1; length = 0; flags = flags }) (no_fault command (words_of flags))

sized_good : (size : Option ℕ) (words : List (List ℕ)) (flags : List ℕ) → IsGood (sized_of size words flags)
sized_good None words flags = tt
sized_good (Some size) words flags = unless_good (flags_fault metas.Set (words_of flags)) words (record { command = metas.Set; key = word_at words 1; length = size; flags = flags }) (no_fault metas.Set (words_of flags))

asking_good : (command : MetaCommand) (words : List (List ℕ)) (line : List ℕ) → IsGood (asking_of command words line)
unfolding set_of
asking_good metas.Get words line = keyed_good metas.Get words (after_word (after_word line))
asking_good metas.Set words line = sized_good (length_of (word_at words 2)) words (after_word (after_word (after_word line)))
asking_good metas.Delete words line = keyed_good metas.Delete words (after_word (after_word line))
asking_good metas.Arithmetic words line = keyed_good metas.Arithmetic words (after_word (after_word line))
asking_good metas.Debug words line = keyed_good metas.Debug words (after_word (after_word line))

meta_good : (command : MetaCommand) (words : List (List ℕ)) (line : List ℕ) → IsGood (meta_request_of command words line)
unfolding meta_request_of
meta_good command words line =
    either (nat_lt (length words) 2) _ _ tt
    (either (not (is_key (word_at words 1)) || nat_lt (length words) (first_flag command)) _ _ tt
    (either (nat_lt 19 (length words)) _ _ tt (asking_good command words line)))

by_good : (command : Option MetaCommand) (verb : Option Verb) (words : List (List ℕ)) (line : List ℕ) → IsGood (request_by command verb words line)
by_good (Some command) verb words line = meta_good command words line
by_good None (Some verb) words line = refusal_good verb words (classic_of verb words) (classic_good verb words)
by_good None None words line = tt

-- what a line asks for has flags without a fault
pub request_good : (line : List ℕ) → IsGood (request_of line)
unfolding request_of
request_good line = by_good (meta_of (word_at (words_of line) 0)) (verb_of (word_at (words_of line) 0)) (words_of line) line

either_gives : (b : Bool) (x y : Outcome) → GivesFlags x.told → GivesFlags y.told → GivesFlags ((if b then x else y).told)
either_gives true x y one other = one
either_gives false x y one other = other

block_gives : (most past : ℕ) (asked : Asked) (len : ℕ) (noreply : Bool) (rest : List ℕ) → HasFlags asked → GivesFlags (block_step most past asked len noreply rest).told
block_gives most past asked len noreply rest good =
    either_gives (nat_lt most len) _ _ good
    (either_gives (nat_lt (length rest) (len + 2)) _ _ tt
    (either_gives ((slice_index_or rest len 0 == 13) && (slice_index_or rest (len + 1) 0 == 10)) _ _ good tt))

meta_gives : (most past : ℕ) (asked : Asked) (command : MetaCommand) (len : ℕ) (rest : List ℕ) → HasFlags asked → GivesFlags (meta_step most past asked command len rest).told
meta_gives most past asked metas.Get len rest good = good
meta_gives most past asked metas.Set len rest good = block_gives most past asked len false rest good
meta_gives most past asked metas.Delete len rest good = good
meta_gives most past asked metas.Arithmetic len rest good = good
meta_gives most past asked metas.Debug len rest good = good

refused_gives : (past : ℕ) (http : Bool) (refusal : LineRefusal) → GivesFlags (refused_step past http refusal).told
refused_gives past true refusal = tt
refused_gives past false refusal = tt

whole_gives : (most past : ℕ) (line rest : List ℕ) (asked : Result Asked LineRefusal) → IsGood asked → GivesFlags (whole_step most past line rest asked).told
whole_gives most past line rest (Ok (AskGet cas)) good = tt
whole_gives most past line rest (Ok (AskGetAndTouch exptime cas)) good = tt
whole_gives most past line rest (Ok (AskStore store)) good = block_gives most past (AskStore store) store.length store.noreply rest tt
whole_gives most past line rest (Ok (AskDelete key noreply)) good = tt
whole_gives most past line rest (Ok (AskDelta delta)) good = tt
whole_gives most past line rest (Ok (AskTouch key exptime noreply)) good = tt
whole_gives most past line rest (Ok (AskFlushAll delay noreply)) good = tt
whole_gives most past line rest (Ok (AskStats argument further)) good = tt
whole_gives most past line rest (Ok AskVersion) good = tt
whole_gives most past line rest (Ok (AskVerbosity level noreply)) good = tt
whole_gives most past line rest (Ok AskQuit) good = tt
whole_gives most past line rest (Ok (AskShutdown graceful)) good = tt
whole_gives most past line rest (Ok AskMetaNoop) good = tt
whole_gives most past line rest (Ok (AskMeta meta)) good = meta_gives most past (AskMeta meta) meta.command meta.length rest good
whole_gives most past line rest (Err refusal) good = refused_gives past (is_http line) refusal

long_gives : (line : List ℕ) (asked : Result Asked LineRefusal) → GivesFlags (long_step line asked).told
long_gives line (Ok (AskGet cas)) = tt
long_gives line (Ok (AskGetAndTouch exptime cas)) = tt
long_gives line (Ok (AskStore store)) = tt
long_gives line (Ok (AskDelete key noreply)) = tt
long_gives line (Ok (AskDelta delta)) = tt
long_gives line (Ok (AskTouch key exptime noreply)) = tt
long_gives line (Ok (AskFlushAll delay noreply)) = tt
long_gives line (Ok (AskStats argument further)) = tt
long_gives line (Ok AskVersion) = tt
long_gives line (Ok (AskVerbosity level noreply)) = tt
long_gives line (Ok AskQuit) = tt
long_gives line (Ok (AskShutdown graceful)) = tt
long_gives line (Ok AskMetaNoop) = tt
long_gives line (Ok (AskMeta meta)) = tt
long_gives line (Err refusal) = tt

line_by_gives : (most : ℕ) (bytes : List ℕ) (place : Option ℕ) → GivesFlags (line_by most bytes place).told
line_by_gives most bytes (Some n) =
    let line = without_return (take n bytes) in
    whole_gives most (n + 1) line (drop (n + 1) bytes) (request_of line) (request_good line)
line_by_gives most bytes None = either_gives (nat_le (length bytes) 2048) _ _ tt (long_gives (take 2048 bytes) (request_of (take 2048 bytes)))

line_gives : (most : ℕ) (bytes : List ℕ) → GivesFlags (line_step most bytes).told
unfolding line_step
line_gives most bytes =
    either_gives (length bytes == 0) _ _ tt
    (either_gives (slice_index_or bytes 0 0 == 128) _ _ tt (line_by_gives most bytes (position is_feed (take 2049 bytes))))

key_or_gives : (exptime : Option Exptime) (cas : Bool) (past : ℕ) (refused : ReaderState) (word : List ℕ) → GivesFlags (key_or exptime cas past refused word).told
key_or_gives exptime cas past refused word = either_gives (is_key word) _ _ tt tt

last_key_gives : (exptime : Option Exptime) (cas : Bool) (past : ℕ) (word : List ℕ) → GivesFlags (last_key exptime cas past word).told
last_key_gives exptime cas past word = either_gives (length word == 0) _ _ tt (key_or_gives exptime cas past Line word)

key_by_gives : (exptime : Option Exptime) (cas : Bool) (bytes : List ℕ) (place : Option ℕ) → GivesFlags (key_by exptime cas bytes place).told
key_by_gives exptime cas bytes (Some n) =
    either_gives (is_feed (slice_index_or bytes n 0)) _ _ (last_key_gives exptime cas (n + 1) (without_return (take n bytes))) (key_or_gives exptime cas (n + 1) SkipLine (take n bytes))
key_by_gives exptime cas bytes None = either_gives (nat_le (length bytes) 251) _ _ tt tt

decided_gives : (most : ℕ) (state : ReaderState) (bytes : List ℕ) → GivesFlags (decided most state bytes).told
unfolding decided key_step
decided_gives most Line bytes = line_gives most bytes
decided_gives most (Keys exptime cas) bytes = key_by_gives exptime cas bytes (position is_end (take 252 bytes))
decided_gives most SkipLine bytes = tt
decided_gives most (SkipData n) bytes = tt
decided_gives most Closed bytes = tt

-- what a step gives has flags without a fault
pub step_gives : (most : ℕ) (state : ReaderState) (bytes : List ℕ) → GivesFlags (step_of most state bytes).told
unfolding step_of
step_gives most state bytes = decided_gives most (passing state bytes).state (drop (passing state bytes).count bytes)
