-- How many bytes are left untaken if nothing is whole.
use Rattle.std.proofs.Common.{◌≡◌, ℕ, ◌+◌, ◌-◌, ◌<◌, ◌≤◌, ◌&&◌, ◌⊎◌, eqb, nat_lt, nat_le, ◌==◌, Bool, true, false, List, [], ◌∷◌, length, take, drop, Option, Some, None, Result, Ok, Err, refl, sym, ap, ◌∙◌, arith, inl, inr, append-nil}
use Rattle.std.specs.Prelude.{position, slice_index_or}
use Rattle.std.proofs.lemmas.Bool.{cases_Bool}
use Rattle.std.proofs.lemmas.List.{length-drop}
use borrow.Author.Tests.{ltb-true, ltb-false}
use Rattle.memcached_text.specs.declared.exptime.Exptime.{Exptime}
use Rattle.memcached_text.specs.declared.reader_state.ReaderState.{ReaderState}
use Rattle.memcached_text.specs.declared.reader_state.ReaderState.TheVariants.{Line, Keys, SkipLine, SkipData, Closed}
use Rattle.memcached_text.specs.declared.line_refusal.LineRefusal.{LineRefusal}
use Rattle.memcached_text.specs.declared.verb.MetaCommand.{MetaCommand}
use Rattle.memcached_text.specs.declared.verb.MetaCommand.TheVariants as metas
use Rattle.memcached_text.specs.Asked.{Asked, AskGet, AskGetAndTouch, AskStore, AskDelete, AskDelta, AskTouch, AskFlushAll, AskStats, AskVersion, AskVerbosity, AskQuit, AskShutdown, AskMetaNoop, AskMeta}
use Rattle.memcached_text.specs.Requests.{request_of, is_http}
use Rattle.memcached_text.specs.Steps.{Outcome, TellMore, is_more, is_feed, is_end, without_return, block_step, meta_step, whole_step, refused_step, long_step, line_by, line_step, key_by, key_step, passing, pass_line, decided, step_of}
use Rattle.memcached_text.proofs.StepLaws.{le_true, not_empty, place_some, front_few, passed_at, settled}
use Rattle.memcached_text.proofs.StepProgress.{something, long_gives, key_or_gives, last_key_gives}

block_few : (most past : ℕ) (asked : Asked) (len : ℕ) (noreply : Bool) (rest : List ℕ) → is_more (block_step most past asked len noreply rest).told ≡ true → length rest ≤ most + 1
block_few most past asked len noreply rest none = elim (cases_Bool (nat_lt most len)) [
  | inl large ↦ let never : false ≡ true = rw large at none in something never
  | inr fits ↦ elim (cases_Bool (nat_lt (length rest) (len + 2))) [
    | inl short ↦
        let small = ltb-false _ _ fits in
        let less = ltb-true _ _ short in
        omega (arith, small, less)
    | inr there ↦ elim (cases_Bool ((slice_index_or rest len 0 == 13) && (slice_index_or rest (len + 1) 0 == 10))) [
      | inl ended ↦ let never : false ≡ true = rw (fits, there, ended) at none in something never
      | inr open_end ↦ let never : false ≡ true = rw (fits, there, open_end) at none in something never
    ]
  ]
]

meta_few : (most past : ℕ) (asked : Asked) (command : MetaCommand) (len : ℕ) (rest : List ℕ) → is_more (meta_step most past asked command len rest).told ≡ true → length rest ≤ most + 1
meta_few most past asked metas.Get len rest none = something none
meta_few most past asked metas.Set len rest none = block_few most past asked len false rest none
meta_few most past asked metas.Delete len rest none = something none
meta_few most past asked metas.Arithmetic len rest none = something none
meta_few most past asked metas.Debug len rest none = something none

refused_few : (most past : ℕ) (http : Bool) (refusal : LineRefusal) (rest : List ℕ) → is_more (refused_step past http refusal).told ≡ true → length rest ≤ most + 1
refused_few most past true refusal rest none = something none
refused_few most past false refusal rest none = something none

whole_few : (most past : ℕ) (line rest : List ℕ) (asked : Result Asked LineRefusal) → is_more (whole_step most past line rest asked).told ≡ true → length rest ≤ most + 1
whole_few most past line rest (Ok (AskGet cas)) none = something none
whole_few most past line rest (Ok (AskGetAndTouch exptime cas)) none = something none
whole_few most past line rest (Ok (AskStore store)) none = block_few most past (AskStore store) store.length store.noreply rest none
whole_few most past line rest (Ok (AskDelete key noreply)) none = something none
whole_few most past line rest (Ok (AskDelta delta)) none = something none
whole_few most past line rest (Ok (AskTouch key exptime noreply)) none = something none
whole_few most past line rest (Ok (AskFlushAll delay noreply)) none = something none
whole_few most past line rest (Ok (AskStats argument further)) none = something none
whole_few most past line rest (Ok AskVersion) none = something none
whole_few most past line rest (Ok (AskVerbosity level noreply)) none = something none
whole_few most past line rest (Ok AskQuit) none = something none
whole_few most past line rest (Ok (AskShutdown graceful)) none = something none
whole_few most past line rest (Ok AskMetaNoop) none = something none
whole_few most past line rest (Ok (AskMeta meta)) none = meta_few most past (AskMeta meta) meta.command meta.length rest none
whole_few most past line rest (Err refusal) none = refused_few most past (is_http line) refusal rest none

line_by_few : (most : ℕ) (bytes : List ℕ) (place : Option ℕ) → position is_feed (take 2049 bytes) ≡ place → is_more (line_by most bytes place).told ≡ true → length bytes ≤ 2050 + most
line_by_few most bytes (Some n) is none =
    let at = place_some is_feed (take 2049 bytes) n is in
    let few = front_few 2049 bytes in
    let rest = whole_few most (n + 1) (without_return (take n bytes)) (drop (n + 1) bytes) (request_of (without_return (take n bytes))) none in
    let left = length-drop (n + 1) bytes in
    omega (arith, at.1, few, rest, left)
line_by_few most bytes None is none = elim (cases_Bool (nat_le (length bytes) 2048)) [
  | inl short ↦ let few = le_true short in omega (arith, few)
  | inr long ↦
      let given : is_more (long_step (take 2048 bytes) (request_of (take 2048 bytes))).told ≡ true = rw long at none in
      something (sym (long_gives (take 2048 bytes) (request_of (take 2048 bytes))) ∙ given)
]

line_few : (most : ℕ) (bytes : List ℕ) → is_more (line_step most bytes).told ≡ true → length bytes ≤ 2050 + most
unfolding line_step
line_few most [] none = omega arith
line_few most (b ∷ bs) none = elim (cases_Bool (eqb b 128)) [
  | inl binary ↦ let never : false ≡ true = rw (not_empty (length bs), binary) at none in something never
  | inr other ↦
      let by : is_more (line_by most (b ∷ bs) (position is_feed (take 2049 (b ∷ bs)))).told ≡ true = rw (not_empty (length bs), other) at none in
      line_by_few most (b ∷ bs) (position is_feed (take 2049 (b ∷ bs))) refl by
]

key_at_gives : (exptime : Option Exptime) (cas : Bool) (bytes : List ℕ) (n : ℕ) → is_more (key_by exptime cas bytes (Some n)).told ≡ false
key_at_gives exptime cas bytes n = elim (cases_Bool (is_feed (slice_index_or bytes n 0))) [
  | inl feed ↦ rw feed (last_key_gives exptime cas (n + 1) (without_return (take n bytes)))
  | inr space ↦ rw space (key_or_gives exptime cas (n + 1) SkipLine (take n bytes))
]

key_few : (most : ℕ) (exptime : Option Exptime) (cas : Bool) (bytes : List ℕ) (place : Option ℕ) → is_more (key_by exptime cas bytes place).told ≡ true → length bytes ≤ 2050 + most
key_few most exptime cas bytes (Some n) none = something (sym (key_at_gives exptime cas bytes n) ∙ none)
key_few most exptime cas bytes None none = elim (cases_Bool (nat_le (length bytes) 251)) [
  | inl short ↦ let few = le_true short in omega (arith, few)
  | inr long ↦ let never : false ≡ true = rw long at none in something never
]

-- what is left if nothing is passed over any more
pass_few : (most : ℕ) (bytes : List ℕ) (place : Option ℕ) → pass_line bytes place ≡ passed_at 0 SkipLine → length bytes ≤ 2050 + most
pass_few most bytes (Some n) is = let never : n + 1 ≡ 0 = ap (λ k. k.count) is in absurd (omega (arith, never))
pass_few most bytes None is = let none : length bytes ≡ 0 = ap (λ k. k.count) is in omega (arith, none)

decided_few : (most : ℕ) (state : ReaderState) (bytes : List ℕ) → passing state bytes ≡ passed_at 0 state → is_more (decided most state bytes).told ≡ true → length bytes ≤ 2050 + most
unfolding decided key_step passing
decided_few most Line bytes is none = line_few most bytes none
decided_few most (Keys exptime cas) bytes is none = key_few most exptime cas bytes (position is_end (take 252 bytes)) none
decided_few most SkipLine bytes is none = pass_few most bytes (position is_feed bytes) is
decided_few most (SkipData n) bytes is none = elim (cases_Bool (nat_lt (length bytes) n)) [
  | inl fewer ↦
      let same : passed_at (length bytes) (SkipData (n - length bytes)) ≡ passed_at 0 (SkipData n) = rw fewer at is in
      let no_bytes : length bytes ≡ 0 = ap (λ k. k.count) same in
      omega (arith, no_bytes)
  | inr enough ↦
      let same : passed_at n Line ≡ passed_at 0 (SkipData n) = rw enough at is in
      let never : Line ≡ SkipData n = ap (λ k. k.state) same in
      cc
]
decided_few most Closed bytes is none = let no_bytes : length bytes ≡ 0 = ap (λ k. k.count) is in omega (arith, no_bytes)

some_or_none : (n : ℕ) → (0 < n) ⊎ (n ≡ 0)
some_or_none n = elim (cases_Bool (nat_lt 0 n)) [
  | inl some ↦ inl (ltb-true _ _ some)
  | inr none ↦ let few = ltb-false _ _ none in inr (omega (arith, few))
]

-- if nothing is whole, few bytes are left untaken
pub step_few : (most : ℕ) (state : ReaderState) (bytes : List ℕ) (o : Outcome) → o ≡ step_of most state bytes → o.told ≡ TellMore → length bytes ≤ o.taken + (2050 + most)
unfolding step_of
step_few most state bytes o is none =
    let k = passing state bytes in
    let rest = drop k.count bytes in
    let left = length-drop k.count bytes in
    let taken : o.taken ≡ k.count + (decided most k.state rest).taken = ap (λ p. p.taken) is in
    let told : is_more (decided most k.state rest).told ≡ true = ap is_more (sym (ap (λ p. p.told) is) ∙ none) in
    elim (some_or_none (length rest)) [
      | inl some ↦
          let here : passing k.state rest ≡ passed_at 0 k.state = ap (passing k.state) (sym (append-nil rest)) ∙ settled state bytes [] some in
          let few = decided_few most k.state rest here told in
          omega (arith, few, left, taken)
      | inr empty ↦ omega (arith, empty, left, taken)
    ]
