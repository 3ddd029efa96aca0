-- A line that a client writes asks for what was meant.
use Rattle.std.proofs.Common.{◌≡◌, ◌≢◌, ℕ, ◌+◌, ◌<◌, ◌≤◌, ◌^◌, not, eqb, nat_lt, nat_le, ◌==◌, ◌&&◌, ◌||◌, Bool, true, false, List, [], ◌∷◌, ◌++◌, length, take, All, Option, Some, None, Result, Ok, Err, refl, sym, ap, subst, ◌∙◌, arith, inl, inr, get_or, append_assoc}
use Rattle.std.specs.Prelude.{codes, if◌then◌else◌, option_map, ok_or}
use Rattle.std.specs.Fmt.{decimal}
use Rattle.std.specs.List.{list_all}
use Rattle.std.specs.Str.{bytes_eq}
use Rattle.std.specs.Cmp.{first_so, second_so}
use Rattle.std.proofs.lemmas.Bool.{cases_Bool}
use Rattle.std.proofs.lemmas.Bool.Decides.{nat_tests}
use Rattle.std.proofs.lemmas.Grind.{common_steps}
use Rattle.std.proofs.lemmas.List.{length-append}
use Rattle.std.proofs.lemmas.List.Elements.{All-nil, All-cons, All-head, All-weaker}
use Rattle.std.proofs.lemmas.List.Sums.{AllPass-from_list_all}
use borrow.Author.Tests.{ltb-true}
use Rattle.memcached_text.specs.declared.exptime.Exptime.{Exptime}
use Rattle.memcached_text.specs.declared.exptime.Exptime.TheVariants as exptimes
use Rattle.memcached_text.specs.declared.line_error.LineError.{LineError}
use Rattle.memcached_text.specs.declared.line_refusal.LineRefusal.{LineRefusal}
use Rattle.memcached_text.specs.declared.store_command.StoreCommand.{StoreCommand}
use Rattle.memcached_text.specs.declared.store_command.StoreCommand.TheVariants as modes
use Rattle.memcached_text.specs.declared.verb.Direction.{Direction}
use Rattle.memcached_text.specs.declared.verb.Direction.TheVariants.{Up, Down}
use Rattle.memcached_text.specs.declared.verb.MetaCommand.{MetaCommand}
use Rattle.memcached_text.specs.declared.verb.MetaCommand.TheVariants as metas
use Rattle.memcached_text.specs.declared.verb.Verb.{Verb}
use Rattle.memcached_text.specs.declared.verb.Verb.TheVariants as verbs
use Rattle.memcached_text.specs.Asked.{Asked, Storing, Changing, MetaAsking, AskGet, AskGetAndTouch, AskStore, AskDelete, AskDelta, AskTouch, AskFlushAll, AskStats, AskVersion, AskVerbosity, AskQuit, AskShutdown, AskMetaNoop, AskMeta}
use Rattle.memcached_text.specs.Classic.{store_of, storing_of, cas_of, fewest_of, delete_of, delete_noreply, delta_of, touch_of, flush_of, verbosity_of, shutdown_of, get_of, get_and_touch_of}
use Rattle.memcached_text.specs.Meta.{meta_request_of, set_of, flags_fault, first_flag, request_after, keyed_of}
use Rattle.memcached_text.specs.Numbers.{number_below, length_of, low_number, exptime_of}
use Rattle.memcached_text.specs.Printing.{spaced, flagged, quiet_words, exptime_word, mode_word, cas_words, direction_word, delay_words, some_word, graceful_words, meta_word, size_words, command_word, further_words, flags_of, line_text, IsWord, IsName, IsExptime, HasCas, CanStore, CanShow, HasSize, StartsWithNone, CanAskMeta, CanAsk, NamesNoKeys, LinesReadBack}
use Rattle.memcached_text.specs.Requests.{classic_of, request_of}
use Rattle.memcached_text.specs.Verbs.{verb_of, meta_of}
use Rattle.memcached_text.specs.Words.{parts_of, words_of, word_at, after_word, is_key}
use Rattle.memcached_text.proofs.PrintedWords.{parts_spaced, parts_flagged, after_first, after_last, number_reads, low_reads, exptime_reads, decimal_word, exptime_is_word, no_noreply, is_name}

-- ---- words

-- each is a word
abbrev pub Words : List (List ℕ) → Type 0
Words [] = Unit {0}
Words (word ∷ words) = IsWord word × Words words

pub all_words : (words : List (List ℕ)) → Words words → All IsWord words
all_words [] all = All-nil IsWord
all_words (word ∷ words) all = All-cons IsWord word words all.0 (all_words words all.1)

-- a byte that is neither a space nor a line feed
abbrev pub plain : ℕ → Bool
plain b = not (b == 32) && not (b == 10)

plain_byte : (b : ℕ) → plain b ≡ true → (b ≢ 32) × (b ≢ 10)
plain_byte b is =
    let no_blank : b ≢ 32 = grind (arith, nat_tests, is) in
    let no_feed : b ≢ 10 = grind (arith, nat_tests, is) in (no_blank, no_feed)

-- a name of letters is a word
pub letters : (word : List ℕ) → (nat_lt 0 (length word) && list_all plain word) ≡ true → IsWord word
letters word is =
    let some = first_so (nat_lt 0 (length word)) (list_all plain word) is in
    let all = second_so (nat_lt 0 (length word)) (list_all plain word) is in
    record {
      some = ltb-true 0 (length word) some;
      bytes = All-weaker (λ b. plain b ≡ true) (λ b. (b ≢ 32) × (b ≢ 10)) plain_byte word (AllPass-from_list_all plain word all);
    }

pub of_bytes : (b : ℕ) (bs : List ℕ) → All (λ b. (b ≢ 32) × (b ≢ 10)) (b ∷ bs) → IsWord (b ∷ bs)
of_bytes b bs bytes = record { some = omega arith; bytes = bytes }

pub noreply : IsWord (codes "noreply")
noreply = letters (codes "noreply") refl

-- ---- what a classic command's line asks for

classic : (word : List ℕ) (words : List (List ℕ)) (verb : Verb) (asked : Asked) → Words (word ∷ words) → length words ≤ 23 → meta_of word ≡ None → verb_of word ≡ Some verb → classic_of verb (word ∷ words) ≡ Ok asked → request_of (spaced word words) ≡ Ok asked
unfolding request_of
classic word words verb asked all few other is asks =
    let parts = parts_spaced word words (all_words (word ∷ words) all) in
    let whole : take 24 (word ∷ words) ≡ word ∷ words = grind (arith, common_steps, few) in
    let listed : words_of (spaced word words) ≡ word ∷ words = ap (take 24) parts ∙ whole in
    rw (listed, other, is, asks) refl

lone : (word : List ℕ) (verb : Verb) (asked : Asked) → (nat_lt 0 (length word) && list_all plain word) ≡ true → meta_of word ≡ None → verb_of word ≡ Some verb → classic_of verb (word ∷ []) ≡ Ok asked → request_of word ≡ Ok asked
lone word verb asked is other named asks = classic word [] verb asked (letters word is, tt) (omega arith) other named asks

delete_reads : (key : List ℕ) (quiet : Bool) → IsName key → request_of (spaced (codes "delete") (key ∷ quiet_words quiet)) ≡ Ok (AskDelete key quiet)
unfolding classic_of delete_of delete_noreply verb_of
delete_reads key true name =
    classic (codes "delete") (key ∷ codes "noreply" ∷ []) verbs.Delete (AskDelete key true) (letters (codes "delete") refl, (name.word, (noreply, tt))) (omega arith) refl refl
    (rw (is_name key name) refl)
delete_reads key false name =
    classic (codes "delete") (key ∷ []) verbs.Delete (AskDelete key false) (letters (codes "delete") refl, (name.word, tt)) (omega arith) refl refl
    (rw (is_name key name) refl)

counting : (word : List ℕ) (direction : Direction) (key : List ℕ) (amount : ℕ) (quiet : Bool) → IsName key → amount < 2 ^ 64 → (nat_lt 0 (length word) && list_all plain word) ≡ true → meta_of word ≡ None → verb_of word ≡ Some (verbs.Count direction) →
    request_of (spaced word (key ∷ decimal amount ∷ quiet_words quiet)) ≡ Ok (AskDelta (record { direction = direction; key = key; amount = amount; noreply = quiet }))
unfolding classic_of delta_of
counting word direction key amount true name small is other named =
    classic word (key ∷ decimal amount ∷ codes "noreply" ∷ []) (verbs.Count direction) (AskDelta (record { direction = direction; key = key; amount = amount; noreply = true })) (letters word is, (name.word, (decimal_word amount small, (noreply, tt)))) (omega arith) other named
    (rw (is_name key name, number_reads (2 ^ 64) amount small small) refl)
counting word direction key amount false name small is other named =
    classic word (key ∷ decimal amount ∷ []) (verbs.Count direction) (AskDelta (record { direction = direction; key = key; amount = amount; noreply = false })) (letters word is, (name.word, (decimal_word amount small, tt))) (omega arith) other named
    (rw (is_name key name, number_reads (2 ^ 64) amount small small) refl)

delta_reads : (direction : Direction) (key : List ℕ) (amount : ℕ) (quiet : Bool) → IsName key → amount < 2 ^ 64 → request_of (spaced (direction_word direction) (key ∷ decimal amount ∷ quiet_words quiet)) ≡ Ok (AskDelta (record { direction = direction; key = key; amount = amount; noreply = quiet }))
unfolding verb_of
delta_reads Up key amount quiet name small = counting (codes "incr") Up key amount quiet name small refl refl refl
delta_reads Down key amount quiet name small = counting (codes "decr") Down key amount quiet name small refl refl refl

touch_reads : (key : List ℕ) (exptime : Exptime) (quiet : Bool) → IsName key → IsExptime exptime → request_of (spaced (codes "touch") (key ∷ exptime_word exptime ∷ quiet_words quiet)) ≡ Ok (AskTouch key exptime quiet)
unfolding classic_of touch_of verb_of
touch_reads key exptime true name is =
    classic (codes "touch") (key ∷ exptime_word exptime ∷ codes "noreply" ∷ []) verbs.Touch (AskTouch key exptime true) (letters (codes "touch") refl, (name.word, (exptime_is_word exptime is, (noreply, tt)))) (omega arith) refl refl
    (rw (is_name key name, exptime_reads exptime is) refl)
touch_reads key exptime false name is =
    classic (codes "touch") (key ∷ exptime_word exptime ∷ []) verbs.Touch (AskTouch key exptime false) (letters (codes "touch") refl, (name.word, (exptime_is_word exptime is, tt))) (omega arith) refl refl
    (rw (is_name key name, exptime_reads exptime is) refl)

verbosity_reads : (level : ℕ) (quiet : Bool) → level < 2 ^ 32 → request_of (spaced (codes "verbosity") (decimal level ∷ quiet_words quiet)) ≡ Ok (AskVerbosity level quiet)
unfolding classic_of verbosity_of verb_of
verbosity_reads level true small =
    classic (codes "verbosity") (decimal level ∷ codes "noreply" ∷ []) verbs.Verbosity (AskVerbosity level true) (letters (codes "verbosity") refl, (decimal_word level (omega (arith, small)), (noreply, tt))) (omega arith) refl refl (rw (low_reads level small) refl)
verbosity_reads level false small =
    classic (codes "verbosity") (decimal level ∷ []) verbs.Verbosity (AskVerbosity level false) (letters (codes "verbosity") refl, (decimal_word level (omega (arith, small)), tt)) (omega arith) refl refl (rw (low_reads level small) refl)

version_reads : request_of (codes "version") ≡ Ok AskVersion
unfolding classic_of verb_of
version_reads = lone (codes "version") verbs.Version AskVersion refl refl refl refl

quit_reads : request_of (codes "quit") ≡ Ok AskQuit
unfolding classic_of verb_of
quit_reads = lone (codes "quit") verbs.Quit AskQuit refl refl refl refl

noop_reads : request_of (codes "mn") ≡ Ok AskMetaNoop
unfolding classic_of verb_of
noop_reads = lone (codes "mn") verbs.MetaNoop AskMetaNoop refl refl refl refl

shutdown_reads : (graceful : Bool) → request_of (spaced (codes "shutdown") (graceful_words graceful)) ≡ Ok (AskShutdown graceful)
unfolding classic_of shutdown_of verb_of
shutdown_reads true = classic (codes "shutdown") (codes "graceful" ∷ []) verbs.Shutdown (AskShutdown true) (letters (codes "shutdown") refl, (letters (codes "graceful") refl, tt)) (omega arith) refl refl refl
shutdown_reads false = lone (codes "shutdown") verbs.Shutdown (AskShutdown false) refl refl refl refl

flush_now : (quiet : Bool) → request_of (spaced (codes "flush_all") (quiet_words quiet)) ≡ Ok (AskFlushAll 0 quiet)
unfolding classic_of flush_of verb_of
flush_now true = classic (codes "flush_all") (codes "noreply" ∷ []) verbs.FlushAll (AskFlushAll 0 true) (letters (codes "flush_all") refl, (noreply, tt)) (omega arith) refl refl refl
flush_now false = lone (codes "flush_all") verbs.FlushAll (AskFlushAll 0 false) refl refl refl refl

flush_later : (delay : ℕ) (quiet : Bool) → 0 < delay → delay < 2 ^ 31 → request_of (spaced (codes "flush_all") (decimal delay ∷ quiet_words quiet)) ≡ Ok (AskFlushAll delay quiet)
unfolding classic_of flush_of verb_of
flush_later delay true some small =
    let reads : exptime_of (decimal delay) ≡ Some (exptimes.At delay) = exptime_reads (exptimes.At delay) (some, small) in
    classic (codes "flush_all") (decimal delay ∷ codes "noreply" ∷ []) verbs.FlushAll (AskFlushAll delay true) (letters (codes "flush_all") refl, (decimal_word delay (omega (arith, small)), (noreply, tt))) (omega arith) refl refl
    (rw reads refl)
flush_later delay false some small =
    let reads : exptime_of (decimal delay) ≡ Some (exptimes.At delay) = exptime_reads (exptimes.At delay) (some, small) in
    let other = no_noreply delay (omega (arith, small)) in
    classic (codes "flush_all") (decimal delay ∷ []) verbs.FlushAll (AskFlushAll delay false) (letters (codes "flush_all") refl, (decimal_word delay (omega (arith, small)), tt)) (omega arith) refl refl
    (rw (other, reads) refl)

flush_reads : (delay : ℕ) (quiet : Bool) → delay < 2 ^ 31 → request_of (spaced (codes "flush_all") (delay_words delay ++ quiet_words quiet)) ≡ Ok (AskFlushAll delay quiet)
flush_reads delay quiet small = elim (cases_Bool (delay == 0)) [
  | inl none ↦
      let is : delay ≡ 0 = grind (arith, nat_tests, none) in
      subst (λ d. request_of (spaced (codes "flush_all") (delay_words d ++ quiet_words quiet)) ≡ Ok (AskFlushAll d quiet)) (sym is) (flush_now quiet)
  | inr some ↦ let more : 0 < delay = grind (arith, nat_tests, some) in rw some (flush_later delay quiet more small)
]

stats_reads : (argument further : List ℕ) → CanShow argument further → request_of (spaced (codes "stats") (some_word argument ++ some_word further)) ≡ Ok (AskStats argument further)
unfolding classic_of verb_of
stats_reads [] [] can = lone (codes "stats") verbs.Stats (AskStats [] []) refl refl refl refl
stats_reads [] (c ∷ cs) can = let empty : c ∷ cs ≡ [] = can.order refl in cc
stats_reads (b ∷ bs) [] can =
    classic (codes "stats") ((b ∷ bs) ∷ []) verbs.Stats (AskStats (b ∷ bs) []) (letters (codes "stats") refl, (of_bytes b bs can.one, tt)) (omega arith) refl refl refl
stats_reads (b ∷ bs) (c ∷ cs) can =
    classic (codes "stats") ((b ∷ bs) ∷ (c ∷ cs) ∷ []) verbs.Stats (AskStats (b ∷ bs) (c ∷ cs)) (letters (codes "stats") refl, (of_bytes b bs can.one, (of_bytes c cs can.other, tt))) (omega arith) refl refl refl

-- a command that stores, and is not cas
storing : (word : List ℕ) (mode : StoreCommand) (s : Storing) (quiet : Bool) → CanStore s → (nat_lt 0 (length word) && list_all plain word) ≡ true → meta_of word ≡ None → verb_of word ≡ Some (verbs.Store mode) → fewest_of mode ≡ 5 → ((words : List (List ℕ)) → cas_of mode words ≡ Some 0) →
    request_of (spaced word (s.key ∷ decimal s.flags ∷ exptime_word s.exptime ∷ decimal s.length ∷ quiet_words quiet)) ≡ Ok (AskStore (record { mode = mode; key = s.key; flags = s.flags; exptime = s.exptime; length = s.length; cas = 0; noreply = quiet }))
unfolding classic_of store_of storing_of
storing word mode s true can is other named fewest cas =
    classic word (s.key ∷ decimal s.flags ∷ exptime_word s.exptime ∷ decimal s.length ∷ codes "noreply" ∷ []) (verbs.Store mode) (AskStore (record { mode = mode; key = s.key; flags = s.flags; exptime = s.exptime; length = s.length; cas = 0; noreply = true }))
    (letters word is, (can.key.word, (decimal_word s.flags (omega (arith, can.flags)), (exptime_is_word s.exptime can.exptime, (decimal_word s.length (omega (arith, can.length)), (noreply, tt)))))) (omega arith) other named
    (rw (fewest, is_name s.key can.key, low_reads s.flags can.flags, exptime_reads s.exptime can.exptime, number_reads (2 ^ 31) s.length can.length (omega (arith, can.length)), cas _) refl)
storing word mode s false can is other named fewest cas =
    classic word (s.key ∷ decimal s.flags ∷ exptime_word s.exptime ∷ decimal s.length ∷ []) (verbs.Store mode) (AskStore (record { mode = mode; key = s.key; flags = s.flags; exptime = s.exptime; length = s.length; cas = 0; noreply = false }))
    (letters word is, (can.key.word, (decimal_word s.flags (omega (arith, can.flags)), (exptime_is_word s.exptime can.exptime, (decimal_word s.length (omega (arith, can.length)), tt))))) (omega arith) other named
    (rw (fewest, is_name s.key can.key, low_reads s.flags can.flags, exptime_reads s.exptime can.exptime, number_reads (2 ^ 31) s.length can.length (omega (arith, can.length)), cas _) refl)

storing_cas : (s : Storing) (quiet : Bool) → CanStore s → s.cas < 2 ^ 64 →
    request_of (spaced (codes "cas") (s.key ∷ decimal s.flags ∷ exptime_word s.exptime ∷ decimal s.length ∷ decimal s.cas ∷ quiet_words quiet)) ≡ Ok (AskStore (record { mode = modes.Cas; key = s.key; flags = s.flags; exptime = s.exptime; length = s.length; cas = s.cas; noreply = quiet }))
unfolding classic_of store_of storing_of cas_of verb_of
storing_cas s true can small =
    classic (codes "cas") (s.key ∷ decimal s.flags ∷ exptime_word s.exptime ∷ decimal s.length ∷ decimal s.cas ∷ codes "noreply" ∷ []) (verbs.Store modes.Cas) (AskStore (record { mode = modes.Cas; key = s.key; flags = s.flags; exptime = s.exptime; length = s.length; cas = s.cas; noreply = true }))
    (letters (codes "cas") refl, (can.key.word, (decimal_word s.flags (omega (arith, can.flags)), (exptime_is_word s.exptime can.exptime, (decimal_word s.length (omega (arith, can.length)), (decimal_word s.cas small, (noreply, tt))))))) (omega arith) refl refl
    (rw (is_name s.key can.key, low_reads s.flags can.flags, exptime_reads s.exptime can.exptime, number_reads (2 ^ 31) s.length can.length (omega (arith, can.length)), number_reads (2 ^ 64) s.cas small small) refl)
storing_cas s false can small =
    classic (codes "cas") (s.key ∷ decimal s.flags ∷ exptime_word s.exptime ∷ decimal s.length ∷ decimal s.cas ∷ []) (verbs.Store modes.Cas) (AskStore (record { mode = modes.Cas; key = s.key; flags = s.flags; exptime = s.exptime; length = s.length; cas = s.cas; noreply = false }))
    (letters (codes "cas") refl, (can.key.word, (decimal_word s.flags (omega (arith, can.flags)), (exptime_is_word s.exptime can.exptime, (decimal_word s.length (omega (arith, can.length)), (decimal_word s.cas small, tt)))))) (omega arith) refl refl
    (rw (is_name s.key can.key, low_reads s.flags can.flags, exptime_reads s.exptime can.exptime, number_reads (2 ^ 31) s.length can.length (omega (arith, can.length)), number_reads (2 ^ 64) s.cas small small) refl)

-- what a line is to ask for that stores by this mode
abbrev Stored : StoreCommand → Storing → Bool → ℕ → Result Asked LineRefusal
Stored mode s quiet cas = Ok (AskStore (record { mode = mode; key = s.key; flags = s.flags; exptime = s.exptime; length = s.length; cas = cas; noreply = quiet }))

store_by : (mode : StoreCommand) (s : Storing) (quiet : Bool) → CanStore s → HasCas mode s.cas →
    request_of (spaced (mode_word mode) (s.key ∷ decimal s.flags ∷ exptime_word s.exptime ∷ decimal s.length ∷ (cas_words mode s.cas ++ quiet_words quiet))) ≡ Stored mode s quiet s.cas
unfolding verb_of cas_of
store_by modes.Set s quiet can has = storing (codes "set") modes.Set s quiet can refl refl refl refl (λ words. refl) ∙ ap (Stored modes.Set s quiet) (sym has)
store_by modes.Add s quiet can has = storing (codes "add") modes.Add s quiet can refl refl refl refl (λ words. refl) ∙ ap (Stored modes.Add s quiet) (sym has)
store_by modes.Replace s quiet can has = storing (codes "replace") modes.Replace s quiet can refl refl refl refl (λ words. refl) ∙ ap (Stored modes.Replace s quiet) (sym has)
store_by modes.Append s quiet can has = storing (codes "append") modes.Append s quiet can refl refl refl refl (λ words. refl) ∙ ap (Stored modes.Append s quiet) (sym has)
store_by modes.Prepend s quiet can has = storing (codes "prepend") modes.Prepend s quiet can refl refl refl refl (λ words. refl) ∙ ap (Stored modes.Prepend s quiet) (sym has)
store_by modes.Cas s quiet can has = storing_cas s quiet can has

-- ---- what a meta command's line asks for

-- what begins with a word begins with no space
starts_flagged : (word : List ℕ) (words : List (List ℕ)) (flags : List ℕ) → IsWord word → StartsWithNone (flagged (spaced word words) flags)
starts_flagged [] words flags is = let some = is.some in absurd (omega (arith, some))
starts_flagged (c ∷ cs) [] [] is = (All-head (λ b. (b ≢ 32) × (b ≢ 10)) c cs is.bytes).0
starts_flagged (c ∷ cs) [] (b ∷ bs) is = (All-head (λ b. (b ≢ 32) × (b ≢ 10)) c cs is.bytes).0
starts_flagged (c ∷ cs) (next ∷ words) [] is = (All-head (λ b. (b ≢ 32) × (b ≢ 10)) c cs is.bytes).0
starts_flagged (c ∷ cs) (next ∷ words) (b ∷ bs) is = (All-head (λ b. (b ≢ 32) × (b ≢ 10)) c cs is.bytes).0

-- what is left after a word of several
pub word_past : (word next : List ℕ) (words : List (List ℕ)) (flags : List ℕ) → IsWord word → IsWord next → after_word (flagged (spaced word (next ∷ words)) flags) ≡ flagged (spaced next words) flags
word_past word next words [] is other = after_first word (spaced next words) is (starts_flagged next words [] other)
word_past word next words (b ∷ bs) is other =
    ap after_word (append_assoc word (32 ∷ spaced next words) (32 ∷ b ∷ bs))
    ∙ after_first word (spaced next words ++ 32 ∷ b ∷ bs) is (starts_flagged next words (b ∷ bs) other)

-- and after the last one
pub words_past : (word flags : List ℕ) → IsWord word → StartsWithNone flags → after_word (flagged word flags) ≡ flags
words_past word [] is none = after_last word is
words_past word (b ∷ bs) is none = after_first word (b ∷ bs) is none

keyed : (command : MetaCommand) (word key flags : List ℕ) → meta_of word ≡ Some command → IsWord word → IsName key → StartsWithNone flags → length (parts_of flags) ≤ 16 → flags_fault command (words_of flags) ≡ None → first_flag command ≡ 2 → ((words : List (List ℕ)) (rest : List ℕ) → request_after command words rest ≡ keyed_of command words rest) →
    request_of (flagged (spaced word (key ∷ [])) flags) ≡ Ok (AskMeta (record { command = command; key = key; length = 0; flags = flags }))
unfolding request_of meta_request_of
keyed command word key flags named is name none few faultless first after =
    let p = parts_of flags in
    let parts = parts_flagged word (key ∷ []) flags (all_words (word ∷ key ∷ []) (is, (name.word, tt))) in
    let whole : take 24 (word ∷ key ∷ p) ≡ word ∷ key ∷ p = grind (arith, common_steps, few) in
    let listed : words_of (flagged (spaced word (key ∷ [])) flags) ≡ word ∷ key ∷ p = ap (take 24) parts ∙ whole in
    let many : nat_lt (length (word ∷ key ∷ p)) 2 ≡ false = grind (arith, nat_tests) in
    let fits : nat_lt 19 (length (word ∷ key ∷ p)) ≡ false = grind (arith, nat_tests, few) in
    let rest : after_word (after_word (flagged (spaced word (key ∷ [])) flags)) ≡ flags = ap after_word (word_past word key [] flags is name.word) ∙ words_past key flags name.word none in
    rw (listed, named, many, is_name key name, first, many, fits, rest, after (word ∷ key ∷ p) flags, faultless) refl

sized : (key flags : List ℕ) (len : ℕ) → IsName key → len < 2 ^ 31 → StartsWithNone flags → length (parts_of flags) ≤ 16 → flags_fault metas.Set (words_of flags) ≡ None →
    request_of (flagged (spaced (codes "ms") (key ∷ decimal len ∷ [])) flags) ≡ Ok (AskMeta (record { command = metas.Set; key = key; length = len; flags = flags }))
unfolding request_of meta_request_of set_of
sized key flags len name small none few faultless =
    let p = parts_of flags in
    let is = letters (codes "ms") refl in
    let size = decimal_word len (omega (arith, small)) in
    let parts = parts_flagged (codes "ms") (key ∷ decimal len ∷ []) flags (all_words (codes "ms" ∷ key ∷ decimal len ∷ []) (is, (name.word, (size, tt)))) in
    let whole : take 24 (codes "ms" ∷ key ∷ decimal len ∷ p) ≡ codes "ms" ∷ key ∷ decimal len ∷ p = grind (arith, common_steps, few) in
    let listed : words_of (flagged (spaced (codes "ms") (key ∷ decimal len ∷ [])) flags) ≡ codes "ms" ∷ key ∷ decimal len ∷ p = ap (take 24) parts ∙ whole in
    let two : nat_lt (length (codes "ms" ∷ key ∷ decimal len ∷ p)) 2 ≡ false = grind (arith, nat_tests) in
    let three : nat_lt (length (codes "ms" ∷ key ∷ decimal len ∷ p)) 3 ≡ false = grind (arith, nat_tests) in
    let fits : nat_lt 19 (length (codes "ms" ∷ key ∷ decimal len ∷ p)) ≡ false = grind (arith, nat_tests, few) in
    let past : after_word (after_word (flagged (spaced (codes "ms") (key ∷ decimal len ∷ [])) flags)) ≡ flagged (decimal len) flags =
    ap after_word (word_past (codes "ms") key (decimal len ∷ []) flags is name.word) ∙ word_past key (decimal len) [] flags name.word size in
    let rest : after_word (flagged (decimal len) flags) ≡ flags = words_past (decimal len) flags size none in
    rw (listed, two, is_name key name, three, fits, past, rest, number_reads (2 ^ 31) len small (omega (arith, small)), faultless) refl

-- what a line is to ask for that is of this meta command
abbrev Named : MetaCommand → List ℕ → List ℕ → ℕ → Result Asked LineRefusal
Named command key flags len = Ok (AskMeta (record { command = command; key = key; length = len; flags = flags }))

meta_by : (command : MetaCommand) (key flags : List ℕ) (len : ℕ) → IsName key → HasSize command len → StartsWithNone flags → length (parts_of flags) ≤ 16 → flags_fault command (words_of flags) ≡ None →
    request_of (flagged (spaced (meta_word command) (key ∷ size_words command len)) flags) ≡ Named command key flags len
meta_by metas.Get key flags len name size none few faultless =
    keyed metas.Get (codes "mg") key flags refl (letters (codes "mg") refl) name none few faultless refl (λ words rest. refl) ∙ ap (Named metas.Get key flags) (sym size)
meta_by metas.Set key flags len name size none few faultless = sized key flags len name size none few faultless
meta_by metas.Delete key flags len name size none few faultless =
    keyed metas.Delete (codes "md") key flags refl (letters (codes "md") refl) name none few faultless refl (λ words rest. refl) ∙ ap (Named metas.Delete key flags) (sym size)
meta_by metas.Arithmetic key flags len name size none few faultless =
    keyed metas.Arithmetic (codes "ma") key flags refl (letters (codes "ma") refl) name none few faultless refl (λ words rest. refl) ∙ ap (Named metas.Arithmetic key flags) (sym size)
meta_by metas.Debug key flags len name size none few faultless =
    keyed metas.Debug (codes "me") key flags refl (letters (codes "me") refl) name none few faultless refl (λ words rest. refl) ∙ ap (Named metas.Debug key flags) (sym size)

-- ---- all of them

pub lines_read_back : LinesReadBack
unfolding line_text
lines_read_back (AskGet cas) can named = absurd named
lines_read_back (AskGetAndTouch exptime cas) can named = absurd named
lines_read_back (AskStore s) can named = store_by s.mode s s.noreply can can.cas
lines_read_back (AskDelete key quiet) can named = delete_reads key quiet can
lines_read_back (AskDelta delta) can named = delta_reads delta.direction delta.key delta.amount delta.noreply can.0 can.1
lines_read_back (AskTouch key exptime quiet) can named = touch_reads key exptime quiet can.0 can.1
lines_read_back (AskFlushAll delay quiet) can named = flush_reads delay quiet can
lines_read_back (AskStats argument further) can named = stats_reads argument further can
lines_read_back AskVersion can named = version_reads
lines_read_back (AskVerbosity level quiet) can named = verbosity_reads level quiet can
lines_read_back AskQuit can named = quit_reads
lines_read_back (AskShutdown graceful) can named = shutdown_reads graceful
lines_read_back AskMetaNoop can named = noop_reads
lines_read_back (AskMeta meta) can named = meta_by meta.command meta.key meta.flags meta.length can.key can.size can.first can.few can.faultless
