-- A step that gives something takes a byte or more; one that gives nothing takes none but those that are passed over.
use Rattle.std.proofs.Common.{◌≡◌, ℕ, ◌+◌, ◌-◌, ◌<◌, ◌≤◌, ◌&&◌, not, eqb, nat_lt, nat_le, ◌==◌, Bool, true, false, List, [], ◌∷◌, length, take, drop, Option, Some, None, Result, Ok, Err, refl, sym, ◌∙◌, arith, inl, inr, lit<, lit≤}
use Rattle.std.specs.Prelude.{position, slice_index_or}
use Rattle.std.specs.List.{position_or_len}
use Rattle.std.proofs.lemmas.Bool.{cases_Bool}
use Rattle.std.proofs.lemmas.Bool.Decides.{nat_tests}
use Rattle.std.proofs.lemmas.Grind.{common_steps}
use Rattle.std.proofs.lemmas.List.{length-drop}
use Rattle.memcached_text.specs.declared.exptime.Exptime.{Exptime}
use Rattle.memcached_text.specs.declared.reader_state.ReaderState.{ReaderState}
use Rattle.memcached_text.specs.declared.reader_state.ReaderState.TheVariants.{Line, Keys, SkipLine, SkipData, Closed}
use Rattle.memcached_text.specs.declared.line_refusal.LineRefusal.{LineRefusal}
use Rattle.memcached_text.specs.declared.verb.MetaCommand.{MetaCommand}
use Rattle.memcached_text.specs.declared.verb.MetaCommand.TheVariants as metas
use Rattle.memcached_text.specs.Asked.{Asked, AskGet, AskGetAndTouch, AskStore, AskDelete, AskDelta, AskTouch, AskFlushAll, AskStats, AskVersion, AskVerbosity, AskQuit, AskShutdown, AskMetaNoop, AskMeta}
use Rattle.memcached_text.specs.Requests.{request_of, is_http}
use Rattle.memcached_text.specs.Verbs.{verb_of}
use Rattle.memcached_text.specs.Words.{after_word, after_spaces, from_space, is_key}
use Rattle.memcached_text.specs.Steps.{Outcome, nothing, is_more, is_feed, is_end, without_return, block_step, meta_step, asked_step, whole_step, refused_step, long_step, line_by, line_step, last_key, key_or, key_by, key_step, decided}
use Rattle.memcached_text.proofs.StepLaws.{not_empty, nothing_given, le_false_lt}

-- what is left after a word is shorter
shorter : (n : ℕ) (xs : List ℕ) → length (drop n xs) ≤ length xs
shorter n xs = let left = length-drop n xs in omega (arith, left)

pub after_word_within : (text : List ℕ) → length (after_word text) ≤ length text
after_word_within text =
    let first = shorter (position_or_len (λ b. not (b == 32)) text) text in
    let second = shorter (position_or_len (λ b. b == 32) (after_spaces text)) (after_spaces text) in
    let third = shorter (position_or_len (λ b. not (b == 32)) (from_space (after_spaces text))) (from_space (after_spaces text)) in
    omega (arith, first, second, third)

left_after : (n b : ℕ) (bs : List ℕ) → length (drop (1 + n) (b ∷ bs)) ≤ length bs
left_after n b bs = let left = length-drop (1 + n) (b ∷ bs) in omega (arith, left)

pub after_word_less : (text : List ℕ) → 0 < length text → length (after_word text) < length text
after_word_less [] some = absurd (omega (arith, some))
after_word_less (b ∷ bs) some = elim (cases_Bool (eqb b 32)) [
  | inl space ↦
      let first : length (after_spaces (b ∷ bs)) ≤ length bs = rw space (left_after (position_or_len (λ b. not (b == 32)) bs) b bs) in
      let second = shorter (position_or_len (λ b. b == 32) (after_spaces (b ∷ bs))) (after_spaces (b ∷ bs)) in
      let third = shorter (position_or_len (λ b. not (b == 32)) (from_space (after_spaces (b ∷ bs)))) (from_space (after_spaces (b ∷ bs))) in
      omega (arith, first, second, third)
  | inr other ↦
      let whole : after_spaces (b ∷ bs) ≡ b ∷ bs = rw other refl in
      let first : length (from_space (b ∷ bs)) ≤ length bs = rw other (left_after (position_or_len (λ b. b == 32) bs) b bs) in
      let third = shorter (position_or_len (λ b. not (b == 32)) (from_space (after_spaces (b ∷ bs)))) (from_space (after_spaces (b ∷ bs))) in
      let second : length (from_space (after_spaces (b ∷ bs))) ≤ length bs = rw whole first in
      omega (arith, second, third)
]

-- a line that asks for something has bytes
asked_some : (line : List ℕ) (asked : Asked) → request_of line ≡ Ok asked → 0 < length line
unfolding request_of verb_of
asked_some [] asked is = cc
asked_some (b ∷ bs) asked is = omega arith

front_some : (n : ℕ) (xs : List ℕ) → 0 < n → 0 < length xs → 0 < length (take n xs)
front_some n xs some full = grind (arith, common_steps)

key_some : (word : List ℕ) → is_key word ≡ true → 1 ≤ length word
key_some word key = grind (arith, nat_tests)

-- what a step that gives something takes
abbrev pub Takes : Outcome → Type 0
Takes o = is_more o.told ≡ false → 1 ≤ o.taken

block_takes : (most past : ℕ) (asked : Asked) (len : ℕ) (noreply : Bool) (rest : List ℕ) → 1 ≤ past → Takes (block_step most past asked len noreply rest)
block_takes most past asked len noreply rest some given = elim (cases_Bool (nat_lt most len)) [
  | inl large ↦ rw large some
  | inr fits ↦ elim (cases_Bool (nat_lt (length rest) (len + 2))) [
    | inl short ↦ let never : true ≡ false = rw (fits, short) at given in nothing_given never
    | inr there ↦ elim (cases_Bool ((slice_index_or rest len 0 == 13) && (slice_index_or rest (len + 1) 0 == 10))) [
      | inl ended ↦ rw (fits, there, ended) (omega (arith, some))
      | inr open_end ↦ rw (fits, there, open_end) (omega (arith, some))
    ]
  ]
]

meta_takes : (most past : ℕ) (asked : Asked) (command : MetaCommand) (len : ℕ) (rest : List ℕ) → 1 ≤ past → Takes (meta_step most past asked command len rest)
meta_takes most past asked metas.Get len rest some given = some
meta_takes most past asked metas.Set len rest some given = block_takes most past asked len false rest some given
meta_takes most past asked metas.Delete len rest some given = some
meta_takes most past asked metas.Arithmetic len rest some given = some
meta_takes most past asked metas.Debug len rest some given = some

keys_takes : (line : List ℕ) → 0 < length line → 1 ≤ length line - length (after_word line)
keys_takes line some = let less = after_word_less line some in omega (arith, less)

touched_takes : (line : List ℕ) → 0 < length line → 1 ≤ length line - length (after_word (after_word line))
touched_takes line some =
    let less = after_word_less line some in
    let within = after_word_within (after_word line) in
    omega (arith, less, within)

asked_takes : (most past : ℕ) (line rest : List ℕ) (asked : Asked) → 1 ≤ past → 0 < length line → Takes (asked_step most past line rest asked)
asked_takes most past line rest (AskGet cas) some full given = keys_takes line full
asked_takes most past line rest (AskGetAndTouch exptime cas) some full given = touched_takes line full
asked_takes most past line rest (AskStore store) some full given = block_takes most past (AskStore store) store.length store.noreply rest some given
asked_takes most past line rest (AskDelete key noreply) some full given = some
asked_takes most past line rest (AskDelta delta) some full given = some
asked_takes most past line rest (AskTouch key exptime noreply) some full given = some
asked_takes most past line rest (AskFlushAll delay noreply) some full given = some
asked_takes most past line rest (AskStats argument further) some full given = some
asked_takes most past line rest AskVersion some full given = some
asked_takes most past line rest (AskVerbosity level noreply) some full given = some
asked_takes most past line rest AskQuit some full given = some
asked_takes most past line rest (AskShutdown graceful) some full given = some
asked_takes most past line rest AskMetaNoop some full given = some
asked_takes most past line rest (AskMeta meta) some full given = meta_takes most past (AskMeta meta) meta.command meta.length rest some given

refused_takes : (past : ℕ) (http : Bool) (refusal : LineRefusal) → 1 ≤ past → 1 ≤ (refused_step past http refusal).taken
refused_takes past true refusal some = some
refused_takes past false refusal some = some

whole_takes : (most past : ℕ) (line rest : List ℕ) (asked : Result Asked LineRefusal) → request_of line ≡ asked → 1 ≤ past → Takes (whole_step most past line rest asked)
whole_takes most past line rest (Ok asked) is some given = asked_takes most past line rest asked some (asked_some line asked is) given
whole_takes most past line rest (Err refusal) is some given = refused_takes past (is_http line) refusal some

long_takes : (line : List ℕ) (asked : Result Asked LineRefusal) → 0 < length line → Takes (long_step line asked)
long_takes line (Ok (AskGet cas)) full given = keys_takes line full
long_takes line (Ok (AskGetAndTouch exptime cas)) full given = touched_takes line full
long_takes line (Ok (AskStore store)) full given = lit≤ tt
long_takes line (Ok (AskDelete key noreply)) full given = lit≤ tt
long_takes line (Ok (AskDelta delta)) full given = lit≤ tt
long_takes line (Ok (AskTouch key exptime noreply)) full given = lit≤ tt
long_takes line (Ok (AskFlushAll delay noreply)) full given = lit≤ tt
long_takes line (Ok (AskStats argument further)) full given = lit≤ tt
long_takes line (Ok AskVersion) full given = lit≤ tt
long_takes line (Ok (AskVerbosity level noreply)) full given = lit≤ tt
long_takes line (Ok AskQuit) full given = lit≤ tt
long_takes line (Ok (AskShutdown graceful)) full given = lit≤ tt
long_takes line (Ok AskMetaNoop) full given = lit≤ tt
long_takes line (Ok (AskMeta meta)) full given = lit≤ tt
long_takes line (Err refusal) full given = lit≤ tt

line_by_takes : (most : ℕ) (bytes : List ℕ) (place : Option ℕ) → Takes (line_by most bytes place)
line_by_takes most bytes (Some n) given = whole_takes most (n + 1) (without_return (take n bytes)) (drop (n + 1) bytes) (request_of (without_return (take n bytes))) refl (omega arith) given
line_by_takes most bytes None given = elim (cases_Bool (nat_le (length bytes) 2048)) [
  | inl short ↦ let never : true ≡ false = rw short at given in nothing_given never
  | inr long ↦
      let many : 2048 < length bytes = le_false_lt long in
      let left : is_more (long_step (take 2048 bytes) (request_of (take 2048 bytes))).told ≡ false = rw long at given in
      rw long (long_takes (take 2048 bytes) (request_of (take 2048 bytes)) (front_some 2048 bytes (lit< tt) (omega (arith, many))) left)
]

line_takes : (most : ℕ) (bytes : List ℕ) → Takes (line_step most bytes)
unfolding line_step
line_takes most [] given = nothing_given given
line_takes most (b ∷ bs) given = elim (cases_Bool (eqb b 128)) [
  | inl binary ↦ rw (not_empty (length bs), binary) (lit≤ tt)
  | inr other ↦
      let by : is_more (line_by most (b ∷ bs) (position is_feed (take 2049 (b ∷ bs)))).told ≡ false = rw (not_empty (length bs), other) at given in
      rw (not_empty (length bs), other) (line_by_takes most (b ∷ bs) (position is_feed (take 2049 (b ∷ bs))) by)
]

key_or_takes : (exptime : Option Exptime) (cas : Bool) (past : ℕ) (refused : ReaderState) (word : List ℕ) → 1 ≤ past → Takes (key_or exptime cas past refused word)
key_or_takes exptime cas past refused word some given = elim (cases_Bool (is_key word)) [
  | inl key ↦ rw key (key_some word key)
  | inr other ↦ rw other some
]

last_key_takes : (exptime : Option Exptime) (cas : Bool) (past : ℕ) (word : List ℕ) → 1 ≤ past → Takes (last_key exptime cas past word)
last_key_takes exptime cas past word some given = elim (cases_Bool (length word == 0)) [
  | inl none ↦ rw none some
  | inr more ↦
      let left : is_more (key_or exptime cas past Line word).told ≡ false = rw more at given in
      rw more (key_or_takes exptime cas past Line word some left)
]

key_by_takes : (exptime : Option Exptime) (cas : Bool) (bytes : List ℕ) (place : Option ℕ) → Takes (key_by exptime cas bytes place)
key_by_takes exptime cas bytes (Some n) given = elim (cases_Bool (is_feed (slice_index_or bytes n 0))) [
  | inl feed ↦
      let left : is_more (last_key exptime cas (n + 1) (without_return (take n bytes))).told ≡ false = rw feed at given in
      rw feed (last_key_takes exptime cas (n + 1) (without_return (take n bytes)) (omega arith) left)
  | inr space ↦
      let left : is_more (key_or exptime cas (n + 1) SkipLine (take n bytes)).told ≡ false = rw space at given in
      rw space (key_or_takes exptime cas (n + 1) SkipLine (take n bytes) (omega arith) left)
]
key_by_takes exptime cas bytes None given = elim (cases_Bool (nat_le (length bytes) 251)) [
  | inl short ↦ let never : true ≡ false = rw short at given in nothing_given never
  | inr long ↦ rw long (lit≤ tt)
]

pub decided_takes : (most : ℕ) (state : ReaderState) (bytes : List ℕ) → Takes (decided most state bytes)
unfolding decided key_step
decided_takes most Line bytes given = line_takes most bytes given
decided_takes most (Keys exptime cas) bytes given = key_by_takes exptime cas bytes (position is_end (take 252 bytes)) given
decided_takes most SkipLine bytes given = nothing_given given
decided_takes most (SkipData n) bytes given = nothing_given given
decided_takes most Closed bytes given = nothing_given given

-- what a step that gives nothing leaves
abbrev pub Stays : Outcome → ReaderState → Type 0
Stays o state = is_more o.told ≡ true → o ≡ nothing state

pub something : {A : Type 0} → false ≡ true → A
something e = cc

block_stays : (most past : ℕ) (asked : Asked) (len : ℕ) (noreply : Bool) (rest : List ℕ) → Stays (block_step most past asked len noreply rest) Line
block_stays most past asked len noreply rest none = elim (cases_Bool (nat_lt most len)) [
  | inl large ↦ let never : false ≡ true = rw large at none in something never
  | inr fits ↦ elim (cases_Bool (nat_lt (length rest) (len + 2))) [
    | inl short ↦ rw (fits, short) refl
    | inr there ↦ elim (cases_Bool ((slice_index_or rest len 0 == 13) && (slice_index_or rest (len + 1) 0 == 10))) [
      | inl ended ↦ let never : false ≡ true = rw (fits, there, ended) at none in something never
      | inr open_end ↦ let never : false ≡ true = rw (fits, there, open_end) at none in something never
    ]
  ]
]

meta_stays : (most past : ℕ) (asked : Asked) (command : MetaCommand) (len : ℕ) (rest : List ℕ) → Stays (meta_step most past asked command len rest) Line
meta_stays most past asked metas.Get len rest none = something none
meta_stays most past asked metas.Set len rest none = block_stays most past asked len false rest none
meta_stays most past asked metas.Delete len rest none = something none
meta_stays most past asked metas.Arithmetic len rest none = something none
meta_stays most past asked metas.Debug len rest none = something none

refused_stays : (past : ℕ) (http : Bool) (refusal : LineRefusal) → Stays (refused_step past http refusal) Line
refused_stays past true refusal none = something none
refused_stays past false refusal none = something none

whole_stays : (most past : ℕ) (line rest : List ℕ) (asked : Result Asked LineRefusal) → Stays (whole_step most past line rest asked) Line
whole_stays most past line rest (Ok (AskGet cas)) none = something none
whole_stays most past line rest (Ok (AskGetAndTouch exptime cas)) none = something none
whole_stays most past line rest (Ok (AskStore store)) none = block_stays most past (AskStore store) store.length store.noreply rest none
whole_stays most past line rest (Ok (AskDelete key noreply)) none = something none
whole_stays most past line rest (Ok (AskDelta delta)) none = something none
whole_stays most past line rest (Ok (AskTouch key exptime noreply)) none = something none
whole_stays most past line rest (Ok (AskFlushAll delay noreply)) none = something none
whole_stays most past line rest (Ok (AskStats argument further)) none = something none
whole_stays most past line rest (Ok AskVersion) none = something none
whole_stays most past line rest (Ok (AskVerbosity level noreply)) none = something none
whole_stays most past line rest (Ok AskQuit) none = something none
whole_stays most past line rest (Ok (AskShutdown graceful)) none = something none
whole_stays most past line rest (Ok AskMetaNoop) none = something none
whole_stays most past line rest (Ok (AskMeta meta)) none = meta_stays most past (AskMeta meta) meta.command meta.length rest none
whole_stays most past line rest (Err refusal) none = refused_stays past (is_http line) refusal none

pub long_gives : (line : List ℕ) (asked : Result Asked LineRefusal) → is_more (long_step line asked).told ≡ false
long_gives line (Ok (AskGet cas)) = refl
long_gives line (Ok (AskGetAndTouch exptime cas)) = refl
long_gives line (Ok (AskStore store)) = refl
long_gives line (Ok (AskDelete key noreply)) = refl
long_gives line (Ok (AskDelta delta)) = refl
long_gives line (Ok (AskTouch key exptime noreply)) = refl
long_gives line (Ok (AskFlushAll delay noreply)) = refl
long_gives line (Ok (AskStats argument further)) = refl
long_gives line (Ok AskVersion) = refl
long_gives line (Ok (AskVerbosity level noreply)) = refl
long_gives line (Ok AskQuit) = refl
long_gives line (Ok (AskShutdown graceful)) = refl
long_gives line (Ok AskMetaNoop) = refl
long_gives line (Ok (AskMeta meta)) = refl
long_gives line (Err refusal) = refl

line_by_stays : (most : ℕ) (bytes : List ℕ) (place : Option ℕ) → Stays (line_by most bytes place) Line
line_by_stays most bytes (Some n) none = whole_stays most (n + 1) (without_return (take n bytes)) (drop (n + 1) bytes) (request_of (without_return (take n bytes))) none
line_by_stays most bytes None none = elim (cases_Bool (nat_le (length bytes) 2048)) [
  | inl short ↦ rw short refl
  | inr long ↦
      let given : is_more (long_step (take 2048 bytes) (request_of (take 2048 bytes))).told ≡ true = rw long at none in
      something (sym (long_gives (take 2048 bytes) (request_of (take 2048 bytes))) ∙ given)
]

line_stays : (most : ℕ) (bytes : List ℕ) → Stays (line_step most bytes) Line
unfolding line_step
line_stays most [] none = refl
line_stays most (b ∷ bs) none = elim (cases_Bool (eqb b 128)) [
  | inl binary ↦ let never : false ≡ true = rw (not_empty (length bs), binary) at none in something never
  | inr other ↦
      let by : is_more (line_by most (b ∷ bs) (position is_feed (take 2049 (b ∷ bs)))).told ≡ true = rw (not_empty (length bs), other) at none in
      rw (not_empty (length bs), other) (line_by_stays most (b ∷ bs) (position is_feed (take 2049 (b ∷ bs))) by)
]

pub key_or_gives : (exptime : Option Exptime) (cas : Bool) (past : ℕ) (refused : ReaderState) (word : List ℕ) → is_more (key_or exptime cas past refused word).told ≡ false
key_or_gives exptime cas past refused word = elim (cases_Bool (is_key word)) [
  | inl key ↦ rw key refl
  | inr other ↦ rw other refl
]

pub last_key_gives : (exptime : Option Exptime) (cas : Bool) (past : ℕ) (word : List ℕ) → is_more (last_key exptime cas past word).told ≡ false
last_key_gives exptime cas past word = elim (cases_Bool (length word == 0)) [
  | inl none ↦ rw none refl
  | inr more ↦ rw more (key_or_gives exptime cas past Line word)
]

key_by_stays : (exptime : Option Exptime) (cas : Bool) (bytes : List ℕ) (place : Option ℕ) → Stays (key_by exptime cas bytes place) (Keys exptime cas)
key_by_stays exptime cas bytes (Some n) none = elim (cases_Bool (is_feed (slice_index_or bytes n 0))) [
  | inl feed ↦
      let given : is_more (last_key exptime cas (n + 1) (without_return (take n bytes))).told ≡ true = rw feed at none in
      something (sym (last_key_gives exptime cas (n + 1) (without_return (take n bytes))) ∙ given)
  | inr space ↦
      let given : is_more (key_or exptime cas (n + 1) SkipLine (take n bytes)).told ≡ true = rw space at none in
      something (sym (key_or_gives exptime cas (n + 1) SkipLine (take n bytes)) ∙ given)
]
key_by_stays exptime cas bytes None none = elim (cases_Bool (nat_le (length bytes) 251)) [
  | inl short ↦ rw short refl
  | inr long ↦ let never : false ≡ true = rw long at none in something never
]

pub decided_stays : (most : ℕ) (state : ReaderState) (bytes : List ℕ) → Stays (decided most state bytes) state
unfolding decided key_step
decided_stays most Line bytes none = line_stays most bytes none
decided_stays most (Keys exptime cas) bytes none = key_by_stays exptime cas bytes (position is_end (take 252 bytes)) none
decided_stays most SkipLine bytes none = refl
decided_stays most (SkipData n) bytes none = refl
decided_stays most Closed bytes none = refl
