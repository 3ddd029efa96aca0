-- A line that announces a data block is a request with that block, or is refused with it.
use Rattle.std.proofs.Common.{◌≡◌, ℕ, ◌+◌, ◌||◌, not, nat_lt, Bool, true, false, List, length, if◌then◌else◌, Option, Some, None, Result, Ok, Err, refl, ap, inl, inr}
use Rattle.std.specs.Prelude.{option_map, option_and_then, ok_or}
use Rattle.std.proofs.lemmas.Bool.{cases_Bool}
use Rattle.memcached_text.specs.declared.exptime.Exptime.{Exptime}
use Rattle.memcached_text.specs.declared.line_error.LineError.{LineError}
use Rattle.memcached_text.specs.declared.line_error.LineError.TheVariants.{BadFormat}
use Rattle.memcached_text.specs.declared.line_refusal.LineRefusal.{LineRefusal}
use Rattle.memcached_text.specs.declared.line_refusal.RefusedBlock.TheVariants.{OfLength}
use Rattle.memcached_text.specs.declared.store_command.StoreCommand.{StoreCommand}
use Rattle.memcached_text.specs.declared.verb.MetaCommand.{MetaCommand}
use Rattle.memcached_text.specs.declared.verb.MetaCommand.TheVariants as metas
use Rattle.memcached_text.specs.declared.verb.Verb.{Verb}
use Rattle.memcached_text.specs.declared.verb.Verb.TheVariants as verbs
use Rattle.memcached_text.specs.Asked.{Asked, Storing, AskGet, AskGetAndTouch, AskStore, AskDelete, AskDelta, AskTouch, AskFlushAll, AskStats, AskVersion, AskVerbosity, AskQuit, AskShutdown, AskMetaNoop, AskMeta}
use Rattle.memcached_text.specs.Blocks.{announced_by, announced}
use Rattle.memcached_text.specs.Classic.{has_words, ends_noreply, fewest_of, cas_of, storing_of, store_of}
use Rattle.memcached_text.specs.Meta.{flags_fault, first_flag, unless_fault, sized_of, set_of, meta_request_of}
use Rattle.memcached_text.specs.Numbers.{length_of, low_number, exptime_of}
use Rattle.memcached_text.specs.Refusals.{block_by}
use Rattle.memcached_text.specs.Requests.{or_refusal, classic_of, request_by, request_of}
use Rattle.memcached_text.specs.Verbs.{verb_of, meta_of}
use Rattle.memcached_text.specs.Words.{words_of, word_at, after_word, is_key}

-- what is asked for has a data block of this length
abbrev pub IsStoring : ℕ → Asked → Type 0
IsStoring len (AskStore store) = store.length ≡ len
IsStoring len (AskMeta meta) = (meta.command ≡ metas.Set) × (meta.length ≡ len)
IsStoring len (AskGet cas) = ⊥
IsStoring len (AskGetAndTouch exptime cas) = ⊥
IsStoring len (AskDelete key noreply) = ⊥
IsStoring len (AskDelta delta) = ⊥
IsStoring len (AskTouch key exptime noreply) = ⊥
IsStoring len (AskFlushAll delay noreply) = ⊥
IsStoring len (AskStats argument further) = ⊥
IsStoring len AskVersion = ⊥
IsStoring len (AskVerbosity level noreply) = ⊥
IsStoring len AskQuit = ⊥
IsStoring len (AskShutdown graceful) = ⊥
IsStoring len AskMetaNoop = ⊥

-- a request with a data block of this length, or a refusal with one
abbrev pub Stores : ℕ → Result Asked LineRefusal → Type 0
Stores len (Ok asked) = IsStoring len asked
Stores len (Err refusal) = refusal.block ≡ OfLength len

HasLength : ℕ → Option Storing → Type 0
HasLength len None = Unit {0}
HasLength len (Some store) = store.length ≡ len

StoresIt : ℕ → Result Asked LineError → Type 0
StoresIt len (Ok asked) = IsStoring len asked
StoresIt len (Err fault) = Unit {0}

same_of : (n len : ℕ) → Some n ≡ Some len → n ≡ len
same_of n len is = cc

chained : (len : ℕ) (mode : StoreCommand) (key : List ℕ) (noreply : Bool) (flags : Option ℕ) (exptime : Option Exptime) (size cas : Option ℕ) → size ≡ Some len → HasLength len (option_and_then (λ flags. option_and_then (λ exptime. option_and_then (λ length. option_map (λ cas. record { mode = mode; key = key; flags = flags; exptime = exptime; length = length; cas = cas; noreply = noreply }) cas) size) exptime) flags)
unfolding HasLength
chained len mode key noreply None exptime size cas is = tt
chained len mode key noreply (Some flags) None size cas is = tt
chained len mode key noreply (Some flags) (Some exptime) None cas is = tt
chained len mode key noreply (Some flags) (Some exptime) (Some n) None is = tt
chained len mode key noreply (Some flags) (Some exptime) (Some n) (Some cas) is = same_of n len is

storing_has : (mode : StoreCommand) (words : List (List ℕ)) (len : ℕ) → length_of (word_at words 4) ≡ Some len → HasLength len (storing_of mode words)
unfolding storing_of HasLength
storing_has mode words len is = elim (cases_Bool (is_key (word_at words 1))) [
  | inl key ↦ rw key (chained len mode (word_at words 1) (ends_noreply words (fewest_of mode)) (low_number (word_at words 2)) (exptime_of (word_at words 3)) (length_of (word_at words 4)) (cas_of mode words) is)
  | inr other ↦ rw other tt
]

either_it : (len : ℕ) (b : Bool) (x y : Result Asked LineError) → StoresIt len x → StoresIt len y → StoresIt len (if b then x else y)
either_it len true x y one other = one
either_it len false x y one other = other

found_it : (len : ℕ) (found : Option Storing) → HasLength len found → StoresIt len (ok_or (option_map AskStore found) BadFormat)
unfolding HasLength StoresIt
found_it len None has = tt
found_it len (Some store) has = has

store_stores : (mode : StoreCommand) (words : List (List ℕ)) (len : ℕ) → length_of (word_at words 4) ≡ Some len → StoresIt len (store_of mode words)
unfolding store_of StoresIt
store_stores mode words len is =
    either_it len (has_words words (fewest_of mode) (fewest_of mode + 1)) _ _ (found_it len (storing_of mode words) (storing_has mode words len is)) tt

classic_stores : (len : ℕ) (mode : StoreCommand) (words : List (List ℕ)) (asked : Result Asked LineError) → length_of (word_at words 4) ≡ Some len → StoresIt len asked → Stores len (or_refusal (verbs.Store mode) words asked)
unfolding StoresIt
classic_stores len mode words (Ok asked) is stores = stores
classic_stores len mode words (Err fault) is stores = ap block_by is

either_r : (len : ℕ) (b : Bool) (x y : Result Asked LineRefusal) → Stores len x → Stores len y → Stores len (if b then x else y)
either_r len true x y one other = one
either_r len false x y one other = other

unless_stores : (len n : ℕ) (fault : Option LineError) (words : List (List ℕ)) (key flags : List ℕ) → length_of (word_at words 2) ≡ Some len → n ≡ len → Stores len (unless_fault fault words (record { command = metas.Set; key = key; length = n; flags = flags }))
unless_stores len n None words key flags is same = (refl, same)
unless_stores len n (Some fault) words key flags is same = ap block_by is

sized_stores : (len : ℕ) (size : Option ℕ) (words : List (List ℕ)) (flags : List ℕ) → length_of (word_at words 2) ≡ Some len → size ≡ Some len → Stores len (sized_of size words flags)
sized_stores len None words flags is same = ap block_by is
sized_stores len (Some n) words flags is same = unless_stores len n (flags_fault metas.Set (words_of flags)) words (word_at words 1) flags is (same_of n len same)

meta_stores : (words : List (List ℕ)) (line : List ℕ) (len : ℕ) → length_of (word_at words 2) ≡ Some len → Stores len (meta_request_of metas.Set words line)
unfolding meta_request_of set_of
meta_stores words line len is =
    let refused = ap block_by is in
    either_r len (nat_lt (length words) 2) _ _ refused
    (either_r len (not (is_key (word_at words 1)) || nat_lt (length words) (first_flag metas.Set)) _ _ refused
    (either_r len (nat_lt 19 (length words)) _ _ refused
    (sized_stores len (length_of (word_at words 2)) words (after_word (after_word (after_word line))) is is)))

not_none : (len : ℕ) → None ≡ Some len → ⊥
not_none len is = cc

none_announced : {A : Type 0} (len : ℕ) → None ≡ Some len → A
none_announced len is = absurd (not_none len is)

by_stores : (command : Option MetaCommand) (verb : Option Verb) (words : List (List ℕ)) (line : List ℕ) (len : ℕ) → announced_by command verb words ≡ Some len → Stores len (request_by command verb words line)
unfolding classic_of
by_stores (Some metas.Set) verb words line len is = meta_stores words line len is
by_stores (Some metas.Get) verb words line len is = none_announced len is
by_stores (Some metas.Delete) verb words line len is = none_announced len is
by_stores (Some metas.Arithmetic) verb words line len is = none_announced len is
by_stores (Some metas.Debug) verb words line len is = none_announced len is
by_stores None None words line len is = none_announced len is
by_stores None (Some (verbs.Store mode)) words line len is = classic_stores len mode words (store_of mode words) is (store_stores mode words len is)
by_stores None (Some verbs.Get) words line len is = none_announced len is
by_stores None (Some verbs.Gets) words line len is = none_announced len is
by_stores None (Some verbs.GetAndTouch) words line len is = none_announced len is
by_stores None (Some verbs.GetsAndTouch) words line len is = none_announced len is
by_stores None (Some verbs.Delete) words line len is = none_announced len is
by_stores None (Some (verbs.Count direction)) words line len is = none_announced len is
by_stores None (Some verbs.Touch) words line len is = none_announced len is
by_stores None (Some verbs.FlushAll) words line len is = none_announced len is
by_stores None (Some verbs.Stats) words line len is = none_announced len is
by_stores None (Some verbs.Version) words line len is = none_announced len is
by_stores None (Some verbs.Verbosity) words line len is = none_announced len is
by_stores None (Some verbs.Quit) words line len is = none_announced len is
by_stores None (Some verbs.Shutdown) words line len is = none_announced len is
by_stores None (Some verbs.MetaNoop) words line len is = none_announced len is

-- what a line that announces a data block asks for
pub request_stores : (line : List ℕ) (len : ℕ) → announced line ≡ Some len → Stores len (request_of line)
unfolding request_of
request_stores line len is = by_stores (meta_of (word_at (words_of line) 0)) (verb_of (word_at (words_of line) 0)) (words_of line) line len is
