-- The first line of bytes, by its length.
use Rattle.std.proofs.Common.{◌≡◌, ℕ, zero, suc, ◌+◌, ◌<◌, ◌≤◌, eqb, nat_lt, Bool, false, List, [], ◌∷◌, length, take, drop, min, drop-drop, sym, ap, ap₂, ◌∙◌, refl, arith, inl, inr}
use Rattle.std.proofs.lemmas.Bool.{cases_Bool}
use Rattle.std.proofs.lemmas.List.{drop_min}
use borrow.Author.Tests.{lt-ltb, ltb-true, ltb-false}
use Rattle.memchr.specs.Find.{Nowhere, NoneBefore, Passes, is_byte}
use Rattle.script_words.specs.Lines.{Ahead, TakesWithin, first_line, after_line, feeds, is_ready_within}
use Rattle.script_words.specs.declared.line_read.LineRead.TheVariants.{Line}

pub first_taken : (bytes : List ℕ) → take (length (first_line bytes)) bytes ≡ first_line bytes
first_taken [] = refl
first_taken (b ∷ bs) = elim (cases_Bool (eqb b 10)) [
  | inl feed ↦ rw feed refl
  | inr other ↦ rw other (ap (λ line. b ∷ line) (first_taken bs))
]

pub after_dropped : (bytes : List ℕ) → drop (length (first_line bytes) + 1) bytes ≡ after_line bytes
after_dropped [] = refl
after_dropped (b ∷ bs) = elim (cases_Bool (eqb b 10)) [
  | inl feed ↦ rw feed refl
  | inr other ↦
      let next : suc (length (first_line bs)) + 1 ≡ suc (length (first_line bs) + 1) = omega arith in
      rw other (ap (λ k. drop k (b ∷ bs)) next ∙ after_dropped bs)
]

pub first_within : (bytes : List ℕ) → length (first_line bytes) ≤ length bytes
first_within [] = omega arith
first_within (b ∷ bs) = elim (cases_Bool (eqb b 10)) [
  | inl feed ↦ rw feed (omega arith)
  | inr other ↦ let rest = first_within bs in rw other (omega (arith, rest))
]

-- a line feed stands after the first line if that is not all
pub fed : (bytes : List ℕ) → length (first_line bytes) < length bytes → 0 < feeds bytes
fed [] less = absurd (omega (arith, less))
fed (b ∷ bs) less = elim (cases_Bool (eqb b 10)) [
  | inl feed ↦ rw feed (omega arith)
  | inr other ↦
      let rest : suc (length (first_line bs)) < suc (length bs) = rw other at less in
      rw other (fed bs (omega (arith, rest)))
]

pub unfed : (bytes : List ℕ) → length bytes ≤ length (first_line bytes) → feeds bytes ≡ 0
unfed [] all = refl
unfed (b ∷ bs) all = elim (cases_Bool (eqb b 10)) [
  | inl feed ↦ let none : suc (length bs) ≤ 0 = rw feed at all in absurd (omega (arith, none))
  | inr other ↦
      let rest : suc (length bs) ≤ suc (length (first_line bs)) = rw other at all in
      rw other (unfed bs (omega (arith, rest)))
]

pub few_enough : (most n : ℕ) → n ≤ most → nat_lt most n ≡ false
few_enough most n less = elim (cases_Bool (nat_lt most n)) [
  | inl holds ↦ let more = ltb-true most n holds in absurd (omega (arith, less, more))
  | inr fails ↦ fails
]

-- a line that is neither too long nor the last is whole by its line feed
pub ready_by_feed : (most : ℕ) (bytes : List ℕ) (over : Bool) (line : ℕ) → line ≡ length (first_line bytes) → over ≡ false → length bytes ≤ most → nat_lt line (length bytes) ≡ is_ready_within most (record { bytes = bytes; over = over })
ready_by_feed most bytes over line is going few = elim (cases_Bool (nat_lt 0 (feeds bytes))) [
  | inl some ↦
      let more : 0 < feeds bytes = ltb-true 0 (feeds bytes) some in
      let less : line < length bytes = elim (cases_Bool (nat_lt line (length bytes))) [
        | inl holds ↦ ltb-true line (length bytes) holds
        | inr fails ↦
            let none = unfed bytes (omega (arith, is, ltb-false line (length bytes) fails)) in
            absurd (omega (arith, more, none))
      ] in
      rw (lt-ltb line (length bytes) less, going, few_enough most (length bytes) few, some) refl
  | inr none ↦
      let same : nat_lt line (length bytes) ≡ false = elim (cases_Bool (nat_lt line (length bytes))) [
        | inl holds ↦
            let more = fed bytes (omega (arith, is, ltb-true line (length bytes) holds)) in
            absurd (omega (arith, more, ltb-false 0 (feeds bytes) none))
        | inr fails ↦ fails
      ] in
      rw (same, going, few_enough most (length bytes) few, none) refl
]

pub all_other : (bytes : List ℕ) → Nowhere (Passes (is_byte 10) bytes) 0 (length bytes) → length bytes ≡ length (first_line bytes)
all_other [] h = refl
all_other (b ∷ bs) h = elim (cases_Bool (eqb b 10)) [
  | inl feed ↦ absurd (h 0 (omega arith) (omega arith) feed)
  | inr other ↦
      rw other (ap suc (all_other bs (λ k low less is. h (suc k) (omega arith) (omega (arith, less)) is)))
]

pub first_at : (bytes : List ℕ) (k : ℕ) → NoneBefore (Passes (is_byte 10) bytes) 0 (length bytes) k → Passes (is_byte 10) bytes k → k ≡ length (first_line bytes)
first_at [] k h is = let bad = h.high in absurd (omega (arith, bad))
first_at (b ∷ bs) zero h is = rw is refl
first_at (b ∷ bs) (suc k) h is = elim (cases_Bool (eqb b 10)) [
  | inl feed ↦ absurd (h.before 0 (omega arith) (omega arith) feed)
  | inr other ↦
      let high = h.high in
      let rest : NoneBefore (Passes (is_byte 10) bs) 0 (length bs) k = record {
        low = omega arith;
        high = omega (arith, high);
        before = λ j low less at. h.before (suc j) (omega arith) (omega (arith, less)) at;
      } in
      rw other (ap suc (first_at bs k rest is))
]

-- what is left after the first line of the bytes from a place on
pub dropped_through : (items : List ℕ) (at len : ℕ) → len ≡ length (first_line (drop at items)) → drop (min (at + len + 1) (length items)) items ≡ after_line (drop at items)
dropped_through items at len is =
    let far : at + len + 1 ≡ at + (len + 1) = omega arith in
    drop_min (at + len + 1) items ∙ ap (λ k. drop k items) far ∙ sym (drop-drop (len + 1) at items) ∙ ap (λ n. drop (n + 1) (drop at items)) is ∙ after_dropped (drop at items)

abbrev pub ahead_of : List ℕ → Bool → Ahead
ahead_of bytes over = record { bytes = bytes; over = over }

-- what was taken is the first line, and what is left stands after it
pub takes : (most : ℕ) (old : Ahead) (items ahead line : List ℕ) (at len to : ℕ) (over : Bool) → to ≡ min (at + len + 1) (length items) → ahead_of (drop at items) over ≡ old → ahead ≡ old.bytes → (ahead ≡ [] → ⊥) → len ≡ length (first_line ahead) → len ≤ most → line ≡ take len ahead → TakesWithin most old Line line (ahead_of (drop to items) over)
takes most old items ahead line at len to over through is same some long few taken =
    let here : drop at items ≡ old.bytes = ap (λ (a : Ahead). a.bytes) is in
    let goes : over ≡ old.over = ap (λ (a : Ahead). a.over) is in
    let whole : line ≡ first_line old.bytes = taken ∙ ap (λ n. take n ahead) long ∙ first_taken ahead ∙ ap first_line same in
    let behind = ap (λ n. drop n items) through ∙ dropped_through items at len (long ∙ ap (λ b. length (first_line b)) (same ∙ sym here)) ∙ ap after_line here in (
      λ none. some (same ∙ none),
      whole,
      omega (arith, ap length whole, ap (λ b. length (first_line b)) same, long),
      ap₂ ahead_of behind goes,
    )
