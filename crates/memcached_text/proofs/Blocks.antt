-- However a stream is cut, no byte of a data block is the first byte of a request.
use Rattle.std.proofs.Common.{◌≡◌, ℕ, ◌+◌, ◌<◌, ◌≤◌, ◌&&◌, ◌⊎◌, eqb, nat_lt, nat_le, ◌==◌, Bool, true, false, List, [], ◌∷◌, ◌++◌, length, take, drop, if◌then◌else◌, Option, Some, None, Result, Ok, Err, refl, sym, ap, ◌∙◌, subst, arith, inl, inr}
use Rattle.std.specs.Prelude.{position, slice_index_or, fold, All, AllPairs}
use Rattle.std.proofs.lemmas.Bool.{cases_Bool}
use Rattle.std.proofs.lemmas.Grind.{common_steps}
use Rattle.std.proofs.lemmas.List.{take-append-drop, take-append-le, drop-append-le, drop-drop}
use Rattle.std.proofs.lemmas.List.Elements.{All-nil, All-cons}
use Rattle.std.proofs.lemmas.List.Kept.{AllPairs-cons}
use borrow.Author.Tests.{ltb-true}
use Rattle.memcached_text.specs.declared.line_refusal.LineRefusal.{LineRefusal}
use Rattle.memcached_text.specs.declared.line_refusal.RefusedBlock.{RefusedBlock}
use Rattle.memcached_text.specs.declared.line_refusal.RefusedBlock.TheVariants.{OfLength}
use Rattle.memcached_text.specs.declared.reader_state.ReaderState.{ReaderState}
use Rattle.memcached_text.specs.declared.reader_state.ReaderState.TheVariants.{Line, Keys, SkipLine, SkipData, Closed}
use Rattle.memcached_text.specs.declared.verb.MetaCommand.{MetaCommand}
use Rattle.memcached_text.specs.declared.verb.MetaCommand.TheVariants as metas
use Rattle.memcached_text.specs.Asked.{Asked, AskGet, AskGetAndTouch, AskStore, AskDelete, AskDelta, AskTouch, AskFlushAll, AskStats, AskVersion, AskVerbosity, AskQuit, AskShutdown, AskMetaNoop, AskMeta}
use Rattle.memcached_text.specs.Blocks.{announced, Progress, is_line, fed, Announces, IsClear, NoBlockIsRead}
use Rattle.memcached_text.specs.Requests.{request_of, is_http}
use Rattle.memcached_text.specs.Steps.{Outcome, is_feed, without_return, block_step, meta_step, asked_step, after_refusal, refused_step, whole_step, line_by, line_step, passing, decided, step_of, shifted}
use Rattle.memcached_text.proofs.Announcing.{IsStoring, Stores, request_stores}
use Rattle.memcached_text.proofs.StepLaws.{le_false_lt, not_empty, place_some, place_taken, passing_within}

-- all bytes up to an end were taken, or are to be passed over
IsPast : ℕ → ℕ → ReaderState → Type 0
IsPast end at Line = end ≤ at
IsPast end at (Keys exptime cas) = end ≤ at
IsPast end at SkipLine = end ≤ at
IsPast end at (SkipData k) = end ≤ at + k
IsPast end at Closed = Unit {0}

-- nothing was taken, or all up to an end
Passes : ℕ → Outcome → Type 0
Passes end o = ((o.taken ≡ 0) × (o.state ≡ Line)) ⊎ IsPast end o.taken o.state

either_p : (end : ℕ) (b : Bool) (x y : Outcome) → Passes end x → Passes end y → Passes end (if b then x else y)
either_p end true x y one other = one
either_p end false x y one other = other

block_passes : (most past : ℕ) (asked : Asked) (len : ℕ) (noreply : Bool) (rest : List ℕ) → Passes (past + len + 2) (block_step most past asked len noreply rest)
unfolding Passes IsPast
block_passes most past asked len noreply rest =
    let to_end : past + len + 2 ≤ past + len + 2 = omega arith in
    let over : past + len + 2 ≤ past + (len + 2) = omega arith in
    either_p (past + len + 2) (nat_lt most len) _ _ (inr over)
    (either_p (past + len + 2) (nat_lt (length rest) (len + 2)) _ _ (inl (refl, refl))
    (either_p (past + len + 2) ((slice_index_or rest len 0 == 13) && (slice_index_or rest (len + 1) 0 == 10)) _ _ (inr to_end) (inr to_end)))

meta_passes : (most past : ℕ) (asked : Asked) (command : MetaCommand) (size len : ℕ) (rest : List ℕ) → command ≡ metas.Set → size ≡ len → Passes (past + len + 2) (meta_step most past asked command size rest)
meta_passes most past asked command size len rest is_set same =
    subst (λ n. Passes (past + len + 2) (meta_step most past asked command n rest)) (sym same)
    (subst (λ c. Passes (past + len + 2) (meta_step most past asked c len rest)) (sym is_set) (block_passes most past asked len false rest))

asked_passes : (most past len : ℕ) (line rest : List ℕ) (asked : Asked) → IsStoring len asked → Passes (past + len + 2) (asked_step most past line rest asked)
asked_passes most past len line rest (AskStore store) is =
    subst (λ n. Passes (past + n + 2) (block_step most past (AskStore store) store.length store.noreply rest)) is (block_passes most past (AskStore store) store.length store.noreply rest)
asked_passes most past len line rest (AskMeta meta) is = meta_passes most past (AskMeta meta) meta.command meta.length len rest is.0 is.1
asked_passes most past len line rest (AskGet cas) is = absurd is
asked_passes most past len line rest (AskGetAndTouch exptime cas) is = absurd is
asked_passes most past len line rest (AskDelete key noreply) is = absurd is
asked_passes most past len line rest (AskDelta delta) is = absurd is
asked_passes most past len line rest (AskTouch key exptime noreply) is = absurd is
asked_passes most past len line rest (AskFlushAll delay noreply) is = absurd is
asked_passes most past len line rest (AskStats argument further) is = absurd is
asked_passes most past len line rest AskVersion is = absurd is
asked_passes most past len line rest (AskVerbosity level noreply) is = absurd is
asked_passes most past len line rest AskQuit is = absurd is
asked_passes most past len line rest (AskShutdown graceful) is = absurd is
asked_passes most past len line rest AskMetaNoop is = absurd is

after_passes : (past len : ℕ) (block : RefusedBlock) → block ≡ OfLength len → IsPast (past + len + 2) past (after_refusal block)
unfolding IsPast
after_passes past len block is = let over : past + len + 2 ≤ past + (len + 2) = omega arith in rw is over

refused_passes : (past len : ℕ) (http : Bool) (refusal : LineRefusal) → refusal.block ≡ OfLength len → Passes (past + len + 2) (refused_step past http refusal)
unfolding Passes IsPast
refused_passes past len true refusal is = inr tt
refused_passes past len false refusal is = inr (after_passes past len refusal.block is)

whole_passes : (most past len : ℕ) (line rest : List ℕ) (asked : Result Asked LineRefusal) → Stores len asked → Passes (past + len + 2) (whole_step most past line rest asked)
whole_passes most past len line rest (Ok asked) stores = asked_passes most past len line rest asked stores
whole_passes most past len line rest (Err refusal) stores = refused_passes past len (is_http line) refusal stores

front_within : (n : ℕ) (xs : List ℕ) → length (take n xs) ≤ length xs
front_within n xs = grind (arith, common_steps)

same_place : (n feed : ℕ) → Some n ≡ Some feed → n ≡ feed
same_place n feed is = cc

no_place : (feed : ℕ) → None ≡ Some feed → ⊥
no_place feed is = cc

-- a line that is at hand, and announces a data block
line_by_passes : (most : ℕ) (bytes rest : List ℕ) (feed len : ℕ) (place : Option ℕ) → position is_feed (take 2049 bytes) ≡ place → position is_feed (take 2049 (bytes ++ rest)) ≡ Some feed → announced (without_return (take feed (bytes ++ rest))) ≡ Some len → Passes (feed + 1 + len + 2) (line_by most bytes place)
unfolding Passes
line_by_passes most bytes rest feed len (Some n) at is says =
    let same : n ≡ feed = same_place n feed (sym (place_taken is_feed 2049 bytes rest n at) ∙ is) in
    let found = place_some is_feed (take 2049 bytes) n at in
    let few = front_within 2049 bytes in
    let front : take n (bytes ++ rest) ≡ take n bytes = take-append-le n bytes rest (omega (arith, found.1, few)) in
    let here : announced (without_return (take n bytes)) ≡ Some len = ap (λ line. announced (without_return line)) (sym front) ∙ ap (λ k. announced (without_return (take k (bytes ++ rest)))) same ∙ says in
    subst (λ k. Passes (k + 1 + len + 2) (line_by most bytes (Some n))) same
    (whole_passes most (n + 1) len (without_return (take n bytes)) (drop (n + 1) bytes) (request_of (without_return (take n bytes))) (request_stores (without_return (take n bytes)) len here))
line_by_passes most bytes rest feed len None at is says = elim (cases_Bool (nat_le (length bytes) 2048)) [
  | inl short ↦ rw short (inl (refl, refl))
  | inr long ↦
      let many : 2048 < length bytes = le_false_lt long in
      let front : take 2049 (bytes ++ rest) ≡ take 2049 bytes = take-append-le 2049 bytes rest (omega (arith, many)) in
      absurd (no_place feed (sym at ∙ ap (position is_feed) (sym front) ∙ is))
]

line_passes : (most : ℕ) (bytes rest : List ℕ) (feed len : ℕ) → position is_feed (take 2049 (bytes ++ rest)) ≡ Some feed → announced (without_return (take feed (bytes ++ rest))) ≡ Some len → Passes (feed + 1 + len + 2) (line_step most bytes)
unfolding line_step Passes IsPast
line_passes most [] rest feed len is says = inl (refl, refl)
line_passes most (b ∷ bs) rest feed len is says = elim (cases_Bool (eqb b 128)) [
  | inl binary ↦ rw (not_empty (length bs), binary) (inr tt)
  | inr other ↦ rw (not_empty (length bs), other) (line_by_passes most (b ∷ bs) rest feed len (position is_feed (take 2049 (b ∷ bs))) refl is says)
]

-- what is past stays past
any_past : (end at : ℕ) (state : ReaderState) → end ≤ at → IsPast end at state
unfolding IsPast
any_past end at Line past = past
any_past end at (Keys exptime cas) past = past
any_past end at SkipLine past = past
any_past end at (SkipData k) past = omega (arith, past)
any_past end at Closed past = tt

later_past : (base end taken : ℕ) (state : ReaderState) → IsPast end taken state → IsPast (base + end) (base + taken) state
unfolding IsPast
later_past base end taken Line past = omega (arith, past)
later_past base end taken (Keys exptime cas) past = omega (arith, past)
later_past base end taken SkipLine past = omega (arith, past)
later_past base end taken (SkipData k) past = omega (arith, past)
later_past base end taken Closed past = tt

stays_past : (most end at : ℕ) (state : ReaderState) (bytes : List ℕ) → IsPast end at state → IsPast end (at + (step_of most state bytes).taken) (step_of most state bytes).state
unfolding step_of passing decided IsPast
stays_past most end at Line bytes past = any_past end (at + (step_of most Line bytes).taken) (step_of most Line bytes).state (omega (arith, past))
stays_past most end at (Keys exptime cas) bytes past = any_past end (at + (step_of most (Keys exptime cas) bytes).taken) (step_of most (Keys exptime cas) bytes).state (omega (arith, past))
stays_past most end at SkipLine bytes past = any_past end (at + (step_of most SkipLine bytes).taken) (step_of most SkipLine bytes).state (omega (arith, past))
stays_past most end at (SkipData k) bytes past = elim (cases_Bool (nat_lt (length bytes) k)) [
  | inl short ↦ let less = ltb-true _ _ short in rw short (omega (arith, past, less))
  | inr all ↦ rw all (any_past end (at + (k + (line_step most (drop k bytes)).taken)) (line_step most (drop k bytes)).state (omega (arith, past)))
]
stays_past most end at Closed bytes past = tt

not_so : false ≡ true → ⊥
not_so e = cc

-- so a request begins after it
begins_past : (end at : ℕ) (state : ReaderState) (bytes : List ℕ) → IsPast end at state → is_line (passing state bytes).state ≡ true → end ≤ at + (passing state bytes).count
unfolding passing IsPast
begins_past end at Line bytes past is = omega (arith, past)
begins_past end at (Keys exptime cas) bytes past is = omega (arith, past)
begins_past end at SkipLine bytes past is = omega (arith, past)
begins_past end at (SkipData k) bytes past is = elim (cases_Bool (nat_lt (length bytes) k)) [
  | inl short ↦ let never : false ≡ true = rw short at is in absurd (not_so never)
  | inr all ↦ rw all (omega (arith, past))
]
begins_past end at Closed bytes past is = absurd (not_so is)

-- what is at hand after the bytes that are passed over, and the stream after that
rest_of : (stream : List ℕ) (at n count : ℕ) → count ≤ length (take n (drop at stream)) → drop count (take n (drop at stream)) ++ drop n (drop at stream) ≡ drop (at + count) stream
rest_of stream at n count within =
    sym (drop-append-le count (take n (drop at stream)) (drop n (drop at stream)) within)
    ∙ ap (drop count) (take-append-drop n (drop at stream))
    ∙ drop-drop count at stream

-- a reader stands where a request begins, or is past an end
Leaves : ℕ → ℕ → ℕ → ReaderState → Type 0
Leaves begin end at state = ((at ≡ begin) × (state ≡ Line)) ⊎ IsPast end at state

step_at_line : (most : ℕ) (state : ReaderState) (bytes : List ℕ) → (passing state bytes).state ≡ Line → step_of most state bytes ≡ shifted (passing state bytes).count (line_step most (drop (passing state bytes).count bytes))
unfolding step_of decided
step_at_line most state bytes is = ap (λ (s : ReaderState). shifted (passing state bytes).count (decided most s (drop (passing state bytes).count bytes))) is

shift_leaves : (at count end : ℕ) (o : Outcome) → Passes end o → Leaves (at + count) (at + count + end) (at + (shifted count o).taken) (shifted count o).state
unfolding Passes Leaves
shift_leaves at count end o passes = elim passes [
  | inl here ↦ inl (omega (arith, here.0), here.1)
  | inr past ↦
      let same : at + count + o.taken ≡ at + (count + o.taken) = omega arith in
      inr (subst (λ k. IsPast (at + count + end) k o.state) same (later_past (at + count) end o.taken o.state past))
]

line_leaves : (most : ℕ) (stream : List ℕ) (at n : ℕ) (state : ReaderState) → (passing state (take n (drop at stream))).state ≡ Line → (feed len : ℕ) → Announces stream (at + (passing state (take n (drop at stream))).count) feed len → Leaves (at + (passing state (take n (drop at stream))).count) (at + (passing state (take n (drop at stream))).count + (feed + 1 + len + 2)) (at + (step_of most state (take n (drop at stream))).taken) (step_of most state (take n (drop at stream))).state
line_leaves most stream at n state is feed len announces =
    let bytes = take n (drop at stream) in
    let count = (passing state bytes).count in
    let joined = rest_of stream at n count (passing_within state bytes) in
    let passes = line_passes most (drop count bytes) (drop n (drop at stream)) feed len (ap (λ xs. position is_feed (take 2049 xs)) joined ∙ announces.feed_is) (ap (λ xs. announced (without_return (take feed xs))) joined ∙ announces.length_is) in
    subst (λ (o : Outcome). Leaves (at + count) (at + count + (feed + 1 + len + 2)) (at + o.taken) o.state) (sym (step_at_line most state bytes is)) (shift_leaves at count (feed + 1 + len + 2) (line_step most (drop count bytes)) passes)

-- the reader stands where an earlier request begins, or is past the data block that its line announces
record IsAhead (stream : List ℕ) (begin at : ℕ) (state : ReaderState) : Type 0 where
  before : begin ≤ at
  clear : (feed len : ℕ) → Announces stream begin feed len → Leaves begin (begin + (feed + 1 + len + 2)) at state

same_line : (most : ℕ) (stream : List ℕ) (begin at n : ℕ) (state : ReaderState) → at ≡ begin → state ≡ Line → (feed len : ℕ) → Announces stream begin feed len → Leaves begin (begin + (feed + 1 + len + 2)) (at + (step_of most state (take n (drop at stream))).taken) (step_of most state (take n (drop at stream))).state
unfolding passing
same_line most stream begin at n state is_at is_line feed len announces =
    let start : at + 0 ≡ begin = omega (arith, is_at) in
    let here = line_leaves most stream at n Line refl feed len (subst (λ k. Announces stream k feed len) (sym start) announces) in
    let there = subst (λ k. Leaves k (k + (feed + 1 + len + 2)) (at + (step_of most Line (take n (drop at stream))).taken) (step_of most Line (take n (drop at stream))).state) start here in
    subst (λ (s : ReaderState). Leaves begin (begin + (feed + 1 + len + 2)) (at + (step_of most s (take n (drop at stream))).taken) (step_of most s (take n (drop at stream))).state) (sym is_line) there

ahead_on : (most : ℕ) (stream : List ℕ) (begin at n : ℕ) (state : ReaderState) → IsAhead stream begin at state → IsAhead stream begin (at + (step_of most state (take n (drop at stream))).taken) (step_of most state (take n (drop at stream))).state
unfolding Leaves
ahead_on most stream begin at n state ahead = record {
  before = let before = ahead.before in omega (arith, before);
  clear = λ feed len announces. elim (ahead.clear feed len announces) [
    | inl here ↦ same_line most stream begin at n state here.0 here.1 feed len announces
    | inr past ↦ inr (stays_past most (begin + (feed + 1 + len + 2)) at state (take n (drop at stream)) past)
  ];
}

taken_after : (most : ℕ) (state : ReaderState) (bytes : List ℕ) → (passing state bytes).count ≤ (step_of most state bytes).taken
unfolding step_of
taken_after most state bytes = omega arith

ahead_new : (most : ℕ) (stream : List ℕ) (at n : ℕ) (state : ReaderState) → (passing state (take n (drop at stream))).state ≡ Line → IsAhead stream (at + (passing state (take n (drop at stream))).count) (at + (step_of most state (take n (drop at stream))).taken) (step_of most state (take n (drop at stream))).state
ahead_new most stream at n state is = record {
  before = let after = taken_after most state (take n (drop at stream)) in omega (arith, after);
  clear = line_leaves most stream at n state is;
}

none_passed : (state : ReaderState) (bytes : List ℕ) → state ≡ Line → (passing state bytes).count ≡ 0
unfolding passing
none_passed state bytes is = ap (λ (s : ReaderState). (passing s bytes).count) is

clear_of : (stream : List ℕ) (begin at n : ℕ) (state : ReaderState) → IsAhead stream begin at state → is_line (passing state (take n (drop at stream))).state ≡ true → IsClear stream begin (at + (passing state (take n (drop at stream))).count)
unfolding Leaves
clear_of stream begin at n state ahead is = record {
  order = let before = ahead.before in omega (arith, before);
  block = λ feed len announces less. elim (ahead.clear feed len announces) [
    | inl here ↦ let none = none_passed state (take n (drop at stream)) here.1 in let same = here.0 in absurd (omega (arith, none, same, less))
    | inr past ↦ begins_past (begin + (feed + 1 + len + 2)) at state (take n (drop at stream)) past is
  ];
}

line_is : (state : ReaderState) → is_line state ≡ true → state ≡ Line
line_is Line is = refl
line_is (Keys exptime cas) is = absurd (not_so is)
line_is SkipLine is = absurd (not_so is)
line_is (SkipData k) is = absurd (not_so is)
line_is Closed is = absurd (not_so is)

left_of : (a b : Bool) → (a && b) ≡ true → a ≡ true
left_of true b both = refl
left_of false b both = both

-- so it is of all requests that began
record Holds (stream : List ℕ) (p : Progress) : Type 0 where
  pairs : AllPairs (λ later earlier. IsClear stream earlier later) p.begun
  ahead : All (λ begin. IsAhead stream begin p.at p.state) p.begun

holds_step : (most : ℕ) (stream : List ℕ) (p : Progress) (n : ℕ) → Holds stream p → Holds stream (fed most stream p n)
holds_step most stream p n holds =
    let bytes = take n (drop p.at stream) in
    let k = passing p.state bytes in
    let on : All (λ begin. IsAhead stream begin (p.at + (step_of most p.state bytes).taken) (step_of most p.state bytes).state) p.begun = λ i d less. ahead_on most stream _ p.at n p.state (holds.ahead i d less) in
    elim (cases_Bool (is_line k.state && nat_lt k.count (length bytes))) [
      | inl new ↦
          let is = left_of (is_line k.state) (nat_lt k.count (length bytes)) new in
          let begun : (fed most stream p n).begun ≡ (p.at + k.count) ∷ p.begun = rw new refl in
          let clear : All (λ begin. IsClear stream begin (p.at + k.count)) p.begun = λ i d less. clear_of stream _ p.at n p.state (holds.ahead i d less) is in
          record {
            pairs = subst (AllPairs (λ later earlier. IsClear stream earlier later)) (sym begun) (AllPairs-cons (λ later earlier. IsClear stream earlier later) (p.at + k.count) p.begun clear holds.pairs);
            ahead = subst (All (λ begin. IsAhead stream begin (fed most stream p n).at (fed most stream p n).state)) (sym begun) (All-cons (λ begin. IsAhead stream begin (fed most stream p n).at (fed most stream p n).state) (p.at + k.count) p.begun (ahead_new most stream p.at n p.state (line_is k.state is)) on);
          }
      | inr old ↦
          let begun : (fed most stream p n).begun ≡ p.begun = rw old refl in
          record {
            pairs = subst (AllPairs (λ later earlier. IsClear stream earlier later)) (sym begun) holds.pairs;
            ahead = subst (All (λ begin. IsAhead stream begin (fed most stream p n).at (fed most stream p n).state)) (sym begun) on;
          }
    ]

holds_on : (most : ℕ) (stream : List ℕ) (p : Progress) (cuts : List ℕ) → Holds stream p → Holds stream (fold (fed most stream) p cuts)
holds_on most stream p [] holds = holds
holds_on most stream p (n ∷ cuts) holds = holds_on most stream (fed most stream p n) cuts (holds_step most stream p n holds)

no_pairs : {A : Type 0} (R : A → A → Type 0) → AllPairs R []
no_pairs R = λ i j d less within. absurd (omega (arith, within))

pub no_block_is_read : NoBlockIsRead
no_block_is_read = λ most stream cuts.
    (holds_on most stream (record { at = 0; state = Line; begun = [] }) cuts (record {
      pairs = no_pairs (λ later earlier. IsClear stream earlier later);
      ahead = All-nil (λ begin. IsAhead stream begin 0 Line);
    })).pairs
