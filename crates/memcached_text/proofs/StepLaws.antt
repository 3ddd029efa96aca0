-- A step that was whole stays the same, whatever follows it, and the events of a stream are the same however it is cut.
use Rattle.std.proofs.Common.{◌≡◌, ℕ, zero, suc, ◌+◌, ◌-◌, ◌<◌, ◌≤◌, not, eqb, nat_lt, nat_le, ◌==◌, Bool, true, false, List, [], ◌∷◌, ◌++◌, length, take, drop, Option, Some, None, Result, Ok, Err, refl, sym, ap, ◌∙◌, arith, inl, inr, zero-add, add-zero, add_assoc}
use Rattle.std.specs.Prelude.{position}
use Rattle.std.specs.List.{position_or_len, prefix_len}
use Rattle.std.proofs.lemmas.Bool.{cases_Bool}
use Rattle.std.proofs.lemmas.Bool.Decides.{nat_tests}
use Rattle.std.proofs.lemmas.Grind.{common_steps}
use Rattle.std.proofs.lemmas.List.{take-append-le, drop-append-le, get_or_append_left, length-append, drop-drop}
use Rattle.std.proofs.lemmas.List.Folds.{prefix_len-append}
use Rattle.std.proofs.lemmas.List.Sums.{prefix_len-le-length}
use borrow.Author.Tests.{lt-ltb, ltb-true, ltb-false}
use Rattle.memcached_text.specs.declared.exptime.Exptime.{Exptime}
use Rattle.memcached_text.specs.declared.reader_state.ReaderState.{ReaderState}
use Rattle.memcached_text.specs.declared.reader_state.ReaderState.TheVariants.{Line, Keys, SkipLine, SkipData, Closed}
use Rattle.memcached_text.specs.declared.line_refusal.LineRefusal.{LineRefusal}
use Rattle.memcached_text.specs.declared.verb.MetaCommand.{MetaCommand}
use Rattle.memcached_text.specs.declared.verb.MetaCommand.TheVariants as metas
use Rattle.memcached_text.specs.Asked.{Asked, AskGet, AskGetAndTouch, AskStore, AskDelete, AskDelta, AskTouch, AskFlushAll, AskStats, AskVersion, AskVerbosity, AskQuit, AskShutdown, AskMetaNoop, AskMeta}
use Rattle.memcached_text.specs.Requests.{request_of}
use Rattle.memcached_text.specs.Steps.{outcome, Passing, TellMore, is_more, is_feed, is_end, without_return, block_step, meta_step, asked_step, whole_step, line_by, line_step, key_by, key_step, passing, pass_line, decided, step_of, shifted, after_passing}

-- tests of numbers
pub le_true : {a b : ℕ} → nat_le a b ≡ true → a ≤ b
le_true h = grind (arith, nat_tests)

pub le_false_lt : {a b : ℕ} → nat_le a b ≡ false → b < a
le_false_lt h = grind (arith, nat_tests)

le_false : {a b : ℕ} → nat_le a b ≡ false → b ≤ a
le_false h = let more = le_false_lt h in omega (arith, more)

not_le : (a b : ℕ) → b < a → nat_le a b ≡ false
not_le a b less = grind (arith, nat_tests)

not_less : (a b : ℕ) → b ≤ a → nat_lt a b ≡ false
not_less a b less = grind (arith, nat_tests)

-- searches in longer lists
pub place_some : (p : ℕ → Bool) (xs : List ℕ) (i : ℕ) → position p xs ≡ Some i → (position_or_len p xs ≡ i) × (i < length xs)
place_some p xs i is = elim (cases_Bool (nat_lt (position_or_len p xs) (length xs))) [
  | inl holds ↦
      let e : Some (position_or_len p xs) ≡ Some i = rw holds at is in
      let same : position_or_len p xs ≡ i = cc in
      let less = ltb-true _ _ holds in
      (same, omega (arith, same, less))
  | inr fails ↦ let e : None ≡ Some i = rw fails at is in cc
]

place_none : (p : ℕ → Bool) (xs : List ℕ) → position p xs ≡ None → position_or_len p xs ≡ length xs
place_none p xs is = elim (cases_Bool (nat_lt (position_or_len p xs) (length xs))) [
  | inl holds ↦ let e : Some (position_or_len p xs) ≡ None = rw holds at is in cc
  | inr fails ↦
      let most = prefix_len-le-length (λ x. not (p x)) xs in
      let end = ltb-false _ _ fails in
      omega (arith, most, end)
]

pub place_at : (p : ℕ → Bool) (xs : List ℕ) (i : ℕ) → position_or_len p xs ≡ i → i < length xs → position p xs ≡ Some i
place_at p xs i same less =
    let holds : nat_lt (position_or_len p xs) (length xs) ≡ true = lt-ltb _ _ (omega (arith, same, less)) in
    rw holds (ap Some same)

pub place_kept : (p : ℕ → Bool) (xs ys : List ℕ) (i : ℕ) → position p xs ≡ Some i → position p (xs ++ ys) ≡ Some i
place_kept p xs ys i is =
    let at = place_some p xs i is in
    let longer = length-append xs ys in
    let apart : eqb (position_or_len p xs) (length xs) ≡ false = grind (arith, common_steps, at.0, at.1) in
    let grown = prefix_len-append (λ x. not (p x)) xs ys in
    let same : position_or_len p (xs ++ ys) ≡ position_or_len p xs = rw apart at grown in
    place_at p (xs ++ ys) i (same ∙ at.0) (omega (arith, longer, at.1))

pub front_few : (n : ℕ) (xs : List ℕ) → length (take n xs) ≤ n
front_few n xs = grind (arith, common_steps)

front_within : (n : ℕ) (xs : List ℕ) → length (take n xs) ≤ length xs
front_within n xs = grind (arith, common_steps)

pub not_empty : (n : ℕ) → (suc n == 0) ≡ false
not_empty n = grind (arith, nat_tests)

longer_front : (n : ℕ) (xs ys : List ℕ) → length xs ≤ n → take n (xs ++ ys) ≡ xs ++ take (n - length xs) ys
longer_front n [] ys fits = grind (arith, common_steps)
longer_front zero (x ∷ xs) ys fits = absurd (omega (arith, fits))
longer_front (suc n) (x ∷ xs) ys fits = let less : suc n - suc (length xs) ≡ n - length xs = omega arith in rw less (ap (λ zs. x ∷ zs) (longer_front n xs ys (omega (arith, fits))))

pub place_taken : (p : ℕ → Bool) (n : ℕ) (xs ys : List ℕ) (i : ℕ) → position p (take n xs) ≡ Some i → position p (take n (xs ++ ys)) ≡ Some i
place_taken p n xs ys i is = elim (cases_Bool (nat_le n (length xs))) [
  | inl fits ↦
      let few : n ≤ length xs = le_true fits in
      rw (take-append-le n xs ys few) is
  | inr longer ↦
      let all : length xs ≤ n = le_false longer in
      let front : take n xs ≡ xs = grind (arith, common_steps) in
      let whole : take n (xs ++ ys) ≡ xs ++ take (n - length xs) ys = longer_front n xs ys all in
      let here : position p xs ≡ Some i = rw front at is in
      rw whole (place_kept p xs (take (n - length xs) ys) i here)
]

-- a data block that was there stays the same
pub block_more : (most past : ℕ) (asked : Asked) (len : ℕ) (noreply : Bool) (rest more : List ℕ) → is_more (block_step most past asked len noreply rest).told ≡ false → block_step most past asked len noreply (rest ++ more) ≡ block_step most past asked len noreply rest
block_more most past asked len noreply rest more given = elim (cases_Bool (nat_lt most len)) [
  | inl large ↦ rw large refl
  | inr fits ↦ elim (cases_Bool (nat_lt (length rest) (len + 2))) [
    | inl short ↦ let never : true ≡ false = rw (fits, short) at given in cc
    | inr there ↦
        let enough : len + 2 ≤ length rest = ltb-false _ _ there in
        let longer = length-append rest more in
        let there_too : nat_lt (length (rest ++ more)) (len + 2) ≡ false = not_less _ _ (omega (arith, enough, longer)) in
        let first = get_or_append_left rest more 0 len (omega (arith, enough)) in
        let second = get_or_append_left rest more 0 (len + 1) (omega (arith, enough)) in
        let block = take-append-le len rest more (omega (arith, enough)) in
        rw (fits, there, there_too, first, second, block) refl
  ]
]

meta_more : (most past : ℕ) (asked : Asked) (command : MetaCommand) (len : ℕ) (rest more : List ℕ) → is_more (meta_step most past asked command len rest).told ≡ false → meta_step most past asked command len (rest ++ more) ≡ meta_step most past asked command len rest
meta_more most past asked metas.Get len rest more given = refl
meta_more most past asked metas.Set len rest more given = block_more most past asked len false rest more given
meta_more most past asked metas.Delete len rest more given = refl
meta_more most past asked metas.Arithmetic len rest more given = refl
meta_more most past asked metas.Debug len rest more given = refl

asked_more : (most past : ℕ) (line rest more : List ℕ) (asked : Asked) → is_more (asked_step most past line rest asked).told ≡ false → asked_step most past line (rest ++ more) asked ≡ asked_step most past line rest asked
asked_more most past line rest more (AskGet cas) given = refl
asked_more most past line rest more (AskGetAndTouch exptime cas) given = refl
asked_more most past line rest more (AskStore store) given = block_more most past (AskStore store) store.length store.noreply rest more given
asked_more most past line rest more (AskDelete key noreply) given = refl
asked_more most past line rest more (AskDelta delta) given = refl
asked_more most past line rest more (AskTouch key exptime noreply) given = refl
asked_more most past line rest more (AskFlushAll delay noreply) given = refl
asked_more most past line rest more (AskStats argument further) given = refl
asked_more most past line rest more AskVersion given = refl
asked_more most past line rest more (AskVerbosity level noreply) given = refl
asked_more most past line rest more AskQuit given = refl
asked_more most past line rest more (AskShutdown graceful) given = refl
asked_more most past line rest more AskMetaNoop given = refl
asked_more most past line rest more (AskMeta meta) given = meta_more most past (AskMeta meta) meta.command meta.length rest more given

whole_more : (most past : ℕ) (line rest more : List ℕ) (asked : Result Asked LineRefusal) → is_more (whole_step most past line rest asked).told ≡ false → whole_step most past line (rest ++ more) asked ≡ whole_step most past line rest asked
whole_more most past line rest more (Ok asked) given = asked_more most past line rest more asked given
whole_more most past line rest more (Err refusal) given = refl

-- a line that was whole, or too long, stays the same
line_at_more : (most : ℕ) (bytes more : List ℕ) (n : ℕ) → n < length bytes → is_more (line_by most bytes (Some n)).told ≡ false → line_by most (bytes ++ more) (Some n) ≡ line_by most bytes (Some n)
line_at_more most bytes more n less given =
    let front = take-append-le n bytes more (omega (arith, less)) in
    let rest = drop-append-le (n + 1) bytes more (omega (arith, less)) in
    rw (front, rest) (whole_more most (n + 1) (without_return (take n bytes)) (drop (n + 1) bytes) more (request_of (without_return (take n bytes))) given)

line_long_more : (most : ℕ) (bytes more : List ℕ) → nat_le (length bytes) 2048 ≡ false → line_by most (bytes ++ more) None ≡ line_by most bytes None
line_long_more most bytes more long =
    let many : 2048 < length bytes = le_false_lt long in
    let longer = length-append bytes more in
    let long_too : nat_le (length (bytes ++ more)) 2048 ≡ false = not_le _ _ (omega (arith, many, longer)) in
    let front = take-append-le 2048 bytes more (omega (arith, many)) in
    rw (long, long_too, front) refl

line_found : (most : ℕ) (bytes more : List ℕ) (place : Option ℕ) → position is_feed (take 2049 bytes) ≡ place → is_more (line_by most bytes place).told ≡ false → line_by most (bytes ++ more) (position is_feed (take 2049 (bytes ++ more))) ≡ line_by most bytes place
line_found most bytes more (Some n) is given =
    let kept = place_taken is_feed 2049 bytes more n is in
    let at = place_some is_feed (take 2049 bytes) n is in
    let few = front_within 2049 bytes in
    rw kept (line_at_more most bytes more n (omega (arith, at.1, few)) given)
line_found most bytes more None is given = elim (cases_Bool (nat_le (length bytes) 2048)) [
  | inl short ↦ let never : true ≡ false = rw short at given in cc
  | inr long ↦
      let many : 2048 < length bytes = le_false_lt long in
      let front = take-append-le 2049 bytes more (omega (arith, many)) in
      rw (front, is) (line_long_more most bytes more long)
]

-- what the start of a line gave stays the same
pub nothing_given : {A : Type 0} → true ≡ false → A
nothing_given e = cc

pub line_more : (most : ℕ) (bytes more : List ℕ) → is_more (line_step most bytes).told ≡ false → line_step most (bytes ++ more) ≡ line_step most bytes
unfolding line_step
line_more most [] more given = nothing_given given
line_more most (b ∷ bs) more given = elim (cases_Bool (eqb b 128)) [
  | inl binary ↦ rw (not_empty (length (bs ++ more)), not_empty (length bs), binary) refl
  | inr other ↦
      let by : is_more (line_by most (b ∷ bs) (position is_feed (take 2049 (b ∷ bs)))).told ≡ false = rw (not_empty (length bs), other) at given in
      rw (not_empty (length (bs ++ more)), not_empty (length bs), other) (line_found most (b ∷ bs) more (position is_feed (take 2049 (b ∷ bs))) refl by)
]

-- a key that was whole, or too long, stays the same
key_at_more : (exptime : Option Exptime) (cas : Bool) (bytes more : List ℕ) (n : ℕ) → n < length bytes → key_by exptime cas (bytes ++ more) (Some n) ≡ key_by exptime cas bytes (Some n)
key_at_more exptime cas bytes more n less =
    let at = get_or_append_left bytes more 0 n less in
    let front = take-append-le n bytes more (omega (arith, less)) in
    rw (at, front) refl

key_long_more : (exptime : Option Exptime) (cas : Bool) (bytes more : List ℕ) → nat_le (length bytes) 251 ≡ false → key_by exptime cas (bytes ++ more) None ≡ key_by exptime cas bytes None
key_long_more exptime cas bytes more long =
    let many : 251 < length bytes = le_false_lt long in
    let longer = length-append bytes more in
    let long_too : nat_le (length (bytes ++ more)) 251 ≡ false = not_le _ _ (omega (arith, many, longer)) in
    rw (long, long_too) refl

key_found : (exptime : Option Exptime) (cas : Bool) (bytes more : List ℕ) (place : Option ℕ) → position is_end (take 252 bytes) ≡ place → is_more (key_by exptime cas bytes place).told ≡ false → key_by exptime cas (bytes ++ more) (position is_end (take 252 (bytes ++ more))) ≡ key_by exptime cas bytes place
key_found exptime cas bytes more (Some n) is given =
    let kept = place_taken is_end 252 bytes more n is in
    let at = place_some is_end (take 252 bytes) n is in
    let few = front_within 252 bytes in
    rw kept (key_at_more exptime cas bytes more n (omega (arith, at.1, few)))
key_found exptime cas bytes more None is given = elim (cases_Bool (nat_le (length bytes) 251)) [
  | inl short ↦ let never : true ≡ false = rw short at given in cc
  | inr long ↦
      let many : 251 < length bytes = le_false_lt long in
      let front = take-append-le 252 bytes more (omega (arith, many)) in
      rw (front, is) (key_long_more exptime cas bytes more long)
]

pub key_more : (exptime : Option Exptime) (cas : Bool) (bytes more : List ℕ) → is_more (key_step exptime cas bytes).told ≡ false → key_step exptime cas (bytes ++ more) ≡ key_step exptime cas bytes
unfolding key_step
key_more exptime cas bytes more given = key_found exptime cas bytes more (position is_end (take 252 bytes)) refl given

pub decided_more : (most : ℕ) (state : ReaderState) (bytes more : List ℕ) → is_more (decided most state bytes).told ≡ false → decided most state (bytes ++ more) ≡ decided most state bytes
unfolding decided
decided_more most Line bytes more given = line_more most bytes more given
decided_more most (Keys exptime cas) bytes more given = key_more exptime cas bytes more given
decided_more most SkipLine bytes more given = nothing_given given
decided_more most (SkipData n) bytes more given = nothing_given given
decided_more most Closed bytes more given = nothing_given given

-- no bytes give nothing
pub decided_none : (most : ℕ) (state : ReaderState) → (decided most state []).told ≡ TellMore
unfolding decided line_step key_step
decided_none most Line = refl
decided_none most (Keys exptime cas) = refl
decided_none most SkipLine = refl
decided_none most (SkipData n) = refl
decided_none most Closed = refl

eqb-same : (n : ℕ) → eqb n n ≡ true
eqb-same n = grind (arith, nat_tests)

-- a search that went to the end of one list goes on in what follows
place_on : (p : ℕ → Bool) (xs ys : List ℕ) → position_or_len p xs ≡ length xs → position_or_len p (xs ++ ys) ≡ length xs + position_or_len p ys
place_on p xs ys end =
    let grown = prefix_len-append (λ x. not (p x)) xs ys in
    let same : eqb (position_or_len p xs) (length xs) ≡ true = rw end (eqb-same (length xs)) in
    rw same at grown

none_more : (p : ℕ → Bool) (xs ys : List ℕ) → position p xs ≡ None → position p ys ≡ None → position p (xs ++ ys) ≡ None
none_more p xs ys none other =
    let here = place_none p xs none in
    let there = place_none p ys other in
    let longer = length-append xs ys in
    let on = place_on p xs ys here in
    let end : nat_lt (position_or_len p (xs ++ ys)) (length (xs ++ ys)) ≡ false = not_less _ _ (omega (arith, there, longer, on)) in
    rw end refl

some_more : (p : ℕ → Bool) (xs ys : List ℕ) (i : ℕ) → position p xs ≡ None → position p ys ≡ Some i → position p (xs ++ ys) ≡ Some (length xs + i)
some_more p xs ys i none is =
    let here = place_none p xs none in
    let there = place_some p ys i is in
    let longer = length-append xs ys in
    let on = place_on p xs ys here in
    place_at p (xs ++ ys) (length xs + i) (omega (arith, on, there.0)) (omega (arith, longer, there.1))

drop_one : (n x : ℕ) (xs : List ℕ) → drop (1 + n) (x ∷ xs) ≡ drop n xs
drop_one n x xs = grind (arith, common_steps)

zero_of : (p : ℕ → Bool) (x : ℕ) (xs : List ℕ) → p x ≡ false → 0 ≡ 0 + prefix_len p (x ∷ xs)
zero_of p x xs fails = rw fails refl

-- what is passed over is passed over in parts too
spaces_more : (p : ℕ → Bool) (xs ys : List ℕ) → prefix_len p (xs ++ ys) ≡ prefix_len p xs + prefix_len p (drop (prefix_len p xs) xs ++ ys)
spaces_more p [] ys = sym (zero-add (prefix_len p ys))
spaces_more p (x ∷ xs) ys = elim (cases_Bool (p x)) [
  | inl holds ↦
      let rest = spaces_more p xs ys in
      rw (holds, drop_one (prefix_len p xs) x xs) (ap (λ n. 1 + n) rest ∙ sym (add_assoc 1 (prefix_len p xs) _))
  | inr fails ↦ rw fails (zero_of p x (xs ++ ys) fails)
]

abbrev then : Passing → Passing → Passing
then first second = record { count = first.count + second.count; state = second.state }

all_dropped : (xs : List ℕ) → drop (length xs) xs ≡ []
all_dropped xs = grind (arith, common_steps)

abbrev pub passed_at : ℕ → ReaderState → Passing
passed_at count state = record { count = count; state = state }

line_passed : (bytes more : List ℕ) (place other : Option ℕ) → position is_feed bytes ≡ place → position is_feed more ≡ other → pass_line (bytes ++ more) (position is_feed (bytes ++ more)) ≡ then (pass_line bytes place) (passing (pass_line bytes place).state (drop (pass_line bytes place).count bytes ++ more))
unfolding passing
line_passed bytes more (Some n) other is that = rw (place_kept is_feed bytes more n is, add-zero) refl
line_passed bytes more None (Some m) is that =
    rw (all_dropped bytes, that, some_more is_feed bytes more m is that) (ap (λ k. passed_at k Line) (add_assoc (length bytes) m 1))
line_passed bytes more None None is that =
    rw (all_dropped bytes, that, none_more is_feed bytes more is that) (ap (λ k. passed_at k SkipLine) (length-append bytes more))

data_passed : (n : ℕ) (bytes more : List ℕ) → passing (SkipData n) (bytes ++ more) ≡ then (passing (SkipData n) bytes) (passing (passing (SkipData n) bytes).state (drop (passing (SkipData n) bytes).count bytes ++ more))
unfolding passing
data_passed n bytes more =
    let longer = length-append bytes more in
    elim (cases_Bool (nat_lt (length bytes) n)) [
      | inl fewer ↦
          let less : length bytes < n = ltb-true _ _ fewer in
          elim (cases_Bool (nat_lt (length more) (n - length bytes))) [
            | inl fewer_still ↦
                let still = ltb-true _ _ fewer_still in
                let all : nat_lt (length (bytes ++ more)) n ≡ true = lt-ltb _ _ (omega (arith, longer, less, still)) in
                let left : n - length (bytes ++ more) ≡ n - length bytes - length more = omega (arith, longer) in
                rw (fewer, all_dropped bytes, fewer_still, all, left) (ap (λ k. passed_at k (SkipData (n - length bytes - length more))) longer)
            | inr enough ↦
                let most = ltb-false _ _ enough in
                let all : nat_lt (length (bytes ++ more)) n ≡ false = not_less _ _ (omega (arith, longer, less, most)) in
                let sum : n ≡ length bytes + (n - length bytes) = omega (arith, less) in
                rw (fewer, all_dropped bytes, enough, all) (ap (λ k. passed_at k Line) sum)
          ]
      | inr enough ↦
          let most = ltb-false _ _ enough in
          let all : nat_lt (length (bytes ++ more)) n ≡ false = not_less _ _ (omega (arith, longer, most)) in
          rw (enough, all, add-zero) refl
    ]

pub passing_more : (state : ReaderState) (bytes more : List ℕ) → passing state (bytes ++ more) ≡ then (passing state bytes) (passing (passing state bytes).state (drop (passing state bytes).count bytes ++ more))
unfolding passing
passing_more Line bytes more = refl
passing_more (Keys exptime cas) bytes more = ap (λ k. passed_at k (Keys exptime cas)) (spaces_more (λ b. not (not (b == 32))) bytes more)
passing_more SkipLine bytes more = line_passed bytes more (position is_feed bytes) (position is_feed more) refl refl
passing_more (SkipData n) bytes more = data_passed n bytes more
passing_more Closed bytes more = rw (all_dropped bytes) (ap (λ k. passed_at k Closed) (length-append bytes more))

line_within : (bytes : List ℕ) (place : Option ℕ) → position is_feed bytes ≡ place → (pass_line bytes place).count ≤ length bytes
line_within bytes (Some n) is = let at = place_some is_feed bytes n is in omega (arith, at.1)
line_within bytes None is = omega arith

pub passing_within : (state : ReaderState) (bytes : List ℕ) → (passing state bytes).count ≤ length bytes
unfolding passing
passing_within Line bytes = omega arith
passing_within (Keys exptime cas) bytes = prefix_len-le-length (λ b. not (not (b == 32))) bytes
passing_within SkipLine bytes = line_within bytes (position is_feed bytes) refl
passing_within (SkipData n) bytes = elim (cases_Bool (nat_lt (length bytes) n)) [
  | inl fewer ↦ rw fewer (omega arith)
  | inr enough ↦ let most = ltb-false _ _ enough in rw enough most
]
passing_within Closed bytes = omega arith

-- what is after the bytes that are passed over is not passed over
stops : (p : ℕ → Bool) (xs ys : List ℕ) → 0 < length (drop (prefix_len p xs) xs) → prefix_len p (drop (prefix_len p xs) xs ++ ys) ≡ 0
stops p [] ys some = absurd (omega (arith, some))
stops p (x ∷ xs) ys some = elim (cases_Bool (p x)) [
  | inl holds ↦
      let later : 0 < length (drop (prefix_len p xs) xs) = rw (holds, drop_one (prefix_len p xs) x xs) at some in
      rw (holds, drop_one (prefix_len p xs) x xs) (stops p xs ys later)
  | inr fails ↦ rw (fails, fails) refl
]

none_left : {A : Type 0} (bytes : List ℕ) → 0 < length (drop (length bytes) bytes) → A
none_left bytes some = let none : 0 < 0 = rw (all_dropped bytes) at some in absurd (omega (arith, none))

line_settled : (bytes more : List ℕ) (place : Option ℕ) → 0 < length (drop (pass_line bytes place).count bytes) → passing (pass_line bytes place).state (drop (pass_line bytes place).count bytes ++ more) ≡ passed_at 0 (pass_line bytes place).state
unfolding passing
line_settled bytes more (Some n) some = refl
line_settled bytes more None some = none_left bytes some

pub settled : (state : ReaderState) (bytes more : List ℕ) → 0 < length (drop (passing state bytes).count bytes) → passing (passing state bytes).state (drop (passing state bytes).count bytes ++ more) ≡ passed_at 0 (passing state bytes).state
unfolding passing
settled Line bytes more some = refl
settled (Keys exptime cas) bytes more some = ap (λ k. passed_at k (Keys exptime cas)) (stops (λ b. not (not (b == 32))) bytes more some)
settled SkipLine bytes more some = line_settled bytes more (position is_feed bytes) some
settled (SkipData n) bytes more some = elim (cases_Bool (nat_lt (length bytes) n)) [
  | inl fewer ↦ let left : 0 < length (drop (length bytes) bytes) = rw fewer at some in none_left bytes left
  | inr enough ↦ rw enough refl
]
settled Closed bytes more some = none_left bytes some

-- a step of more bytes is one after those that are passed over
pub step_shift : (most : ℕ) (state : ReaderState) (bytes more : List ℕ) → step_of most state (bytes ++ more) ≡ shifted (passing state bytes).count (step_of most (passing state bytes).state (drop (passing state bytes).count bytes ++ more))
unfolding step_of
step_shift most state bytes more =
    let k = passing state bytes in
    let next = passing k.state (drop k.count bytes ++ more) in
    let within = passing_within state bytes in
    let left : drop (k.count + next.count) (bytes ++ more) ≡ drop next.count (drop k.count bytes ++ more) = sym (drop-drop next.count k.count (bytes ++ more)) ∙ ap (drop next.count) (drop-append-le k.count bytes more within) in
    ap (λ p. after_passing most p (bytes ++ more)) (passing_more state bytes more)
    ∙ ap (λ rest. shifted (k.count + next.count) (decided most next.state rest)) left
    ∙ ap (λ n. outcome n (decided most next.state (drop next.count (drop k.count bytes ++ more))).told (decided most next.state (drop next.count (drop k.count bytes ++ more))).state) (add_assoc k.count next.count (decided most next.state (drop next.count (drop k.count bytes ++ more))).taken)

pub some_given : (most : ℕ) (state : ReaderState) (bytes : List ℕ) → is_more (decided most state bytes).told ≡ false → 0 < length bytes
some_given most state [] given = let never : true ≡ false = rw (decided_none most state) at given in nothing_given never
some_given most state (b ∷ bs) given = omega arith

-- a step that was whole stays the same, whatever follows
pub step_kept : (most : ℕ) (state : ReaderState) (bytes more : List ℕ) → is_more (step_of most state bytes).told ≡ false → step_of most state (bytes ++ more) ≡ step_of most state bytes
unfolding step_of
step_kept most state bytes more given =
    let k = passing state bytes in
    let rest = drop k.count bytes in
    let some = some_given most k.state rest given in
    step_shift most state bytes more
    ∙ ap (shifted k.count) (
    ap (λ p. after_passing most p (rest ++ more)) (settled state bytes more some)
    ∙ ap (λ n. outcome n (decided most k.state (rest ++ more)).told (decided most k.state (rest ++ more)).state) (zero-add (decided most k.state (rest ++ more)).taken)
    ∙ decided_more most k.state rest more given)
