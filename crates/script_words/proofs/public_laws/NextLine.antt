-- The next line of bytes that were read ahead, in all that is left.
use Rattle.std.proofs.Common.{◌≡◌, ◌≢◌, ℕ, suc, ◌⊎◌, if◌then◌else◌, Bool, true, false, eqb, ltb, inl, inr, ◌+◌, ◌<◌, ◌≤◌, List, [], ◌∷◌, ◌++◌, length, Some, sym, ap, ◌∙◌, refl, arith}
use Rattle.std.specs.List.{onto_first}
use Rattle.std.proofs.lemmas.Bool.{cases_Bool}
use Rattle.std.proofs.lemmas.List.{append-nil}
use borrow.Author.Tests.{ltb-true, ltb-false}
use Rattle.script_words.specs.declared.line_read.LineRead.{LineRead}
use Rattle.script_words.specs.declared.line_read.LineRead.TheVariants.{Line, TooLong, End}
use Rattle.script_words.proofs.FirstLine.{few_enough}
use Rattle.script_words.specs.Lines.{Ahead, GivesNext, TakesWithin, lines_of, first_line, after_line, feeds, is_ready_within}

one_line : (b : ℕ) (bs : List ℕ) → onto_first b (lines_of bs) ≡ (b ∷ first_line bs) ∷ lines_of (after_line bs) → lines_of (b ∷ bs) ≡ first_line (b ∷ bs) ∷ lines_of (after_line (b ∷ bs))
one_line b bs h = elim (cases_Bool (eqb b 10)) [ inl feed ↦ rw feed refl | inr other ↦ rw other h ]

onto_next : (b : ℕ) (bs : List ℕ) → onto_first b (lines_of bs) ≡ (b ∷ first_line bs) ∷ lines_of (after_line bs)
onto_next b [] = refl
onto_next b (c ∷ cs) = ap (onto_first b) (one_line c cs (onto_next c cs))

pub next_lines : (bytes : List ℕ) → bytes ≢ [] → lines_of bytes ≡ first_line bytes ∷ lines_of (after_line bytes)
next_lines [] some = absurd (some refl)
next_lines (b ∷ bs) some = one_line b bs (onto_next b bs)

-- ---- line feeds

pub feeds-append : (xs ys : List ℕ) → feeds (xs ++ ys) ≡ feeds xs + feeds ys
feeds-append [] ys = omega arith
feeds-append (x ∷ xs) ys = elim (cases_Bool (eqb x 10)) [
  | inl feed ↦ let rest = feeds-append xs ys in rw feed (omega (arith, rest))
  | inr other ↦ rw other (feeds-append xs ys)
]

-- the first line with its line feed
abbrev pub through : List ℕ → List ℕ
through [] = []
through (b ∷ bs) = if eqb b 10 then b ∷ [] else b ∷ through bs

pub through_after : (bytes : List ℕ) → bytes ≡ through bytes ++ after_line bytes
through_after [] = refl
through_after (b ∷ bs) = elim (cases_Bool (eqb b 10)) [
  | inl feed ↦ rw feed refl
  | inr other ↦ rw other (ap (λ zs. b ∷ zs) (through_after bs))
]

pub one_feed : (bytes : List ℕ) → 0 < feeds bytes → feeds (through bytes) ≡ 1
one_feed [] some = absurd (omega (arith, some))
one_feed (b ∷ bs) some = elim (cases_Bool (eqb b 10)) [
  | inl feed ↦ rw (feed, feed) refl
  | inr other ↦ let rest : 0 < feeds bs = rw other at some in rw (other, other) (one_feed bs rest)
]

-- a line that ends at a line feed is the same, whatever comes after
pub fed_line : (xs ys : List ℕ) → 0 < feeds xs → (first_line (xs ++ ys) ≡ first_line xs) × (after_line (xs ++ ys) ≡ after_line xs ++ ys)
fed_line [] ys some = absurd (omega (arith, some))
fed_line (b ∷ bs) ys some = elim (cases_Bool (eqb b 10)) [
  | inl feed ↦ rw feed (refl, refl)
  | inr other ↦
      let rest : 0 < feeds bs = rw other at some in
      let more = fed_line bs ys rest in
      rw other (ap (λ zs. b ∷ zs) more.0, more.1)
]

pub unfed_line : (xs : List ℕ) → feeds xs ≡ 0 → first_line xs ≡ xs
unfed_line [] none = refl
unfed_line (b ∷ bs) none = elim (cases_Bool (eqb b 10)) [
  | inl feed ↦ let bad : suc (feeds bs) ≡ 0 = rw feed at none in absurd (omega (arith, bad))
  | inr other ↦
      let rest : feeds bs ≡ 0 = rw other at none in rw other (ap (λ zs. b ∷ zs) (unfed_line bs rest))
]

longer_line : (xs ys : List ℕ) → length (first_line xs) ≤ length (first_line (xs ++ ys))
longer_line [] ys = omega arith
longer_line (b ∷ bs) ys = elim (cases_Bool (eqb b 10)) [
  | inl feed ↦ rw feed (omega arith)
  | inr other ↦ let rest = longer_line bs ys in rw other (omega (arith, rest))
]

-- a line that was taken ends at a line feed, or it is the last
pub ready_line : (most : ℕ) (ahead : Ahead) → is_ready_within most ahead ≡ true → length (first_line ahead.bytes) ≤ most → (0 < feeds ahead.bytes) ⊎ (ahead.over ≡ true)
ready_line most ahead ready short = elim (cases_Bool ahead.over) [
  | inl over ↦ inr over
  | inr going ↦ elim (cases_Bool (ltb 0 (feeds ahead.bytes))) [
    | inl some ↦ inl (ltb-true 0 (feeds ahead.bytes) some)
    | inr none ↦
        let unfed : feeds ahead.bytes ≡ 0 = omega (arith, ltb-false 0 (feeds ahead.bytes) none) in
        let all = ap length (unfed_line ahead.bytes unfed) in
        elim (cases_Bool (ltb most (length ahead.bytes))) [
          | inl long ↦
              let more = ltb-true most (length ahead.bytes) long in absurd (omega (arith, all, more, short))
          | inr fits ↦ let bad : false ≡ true = rw (going, fits, none) at ready in cc
        ]
  ]
]

empty_front : (xs ys : List ℕ) → xs ++ ys ≡ [] → xs ≡ []
empty_front [] ys none = refl
empty_front (x ∷ xs) ys none = cc

over_at_end : (most : ℕ) (bytes : List ℕ) (over : Bool) → bytes ≡ [] → is_ready_within most (record { bytes = bytes; over = over }) ≡ true → over ≡ true
over_at_end most [] true none ready = refl
over_at_end most [] false none ready =
    let fits = few_enough most 0 (omega arith) in let bad : false ≡ true = rw fits at ready in cc
over_at_end most (b ∷ bs) over none ready = cc

-- what was taken of the bytes read ahead is what all that is left begins with
pub reads : (most : ℕ) (ahead new : Ahead) (rest line : List ℕ) (read : LineRead) → is_ready_within most ahead ≡ true → (ahead.over ≡ true → rest ≡ []) → TakesWithin most ahead read line new → GivesNext most (ahead.bytes ++ rest) read line (Some (new.bytes ++ rest))
reads most ahead new rest line Line ready last takes =
    let some : ahead.bytes ++ rest ≢ [] = λ none. takes.0 (empty_front ahead.bytes rest none) in
    let left : new.bytes ++ rest ≡ after_line ahead.bytes ++ rest = ap (λ (a : Ahead). a.bytes ++ rest) takes.3 in
    elim (ready_line most ahead ready (omega (arith, ap length takes.1, takes.2))) [
      | inl fed ↦
          let both = fed_line ahead.bytes rest fed in
          (some, takes.1 ∙ sym both.0, ap Some (left ∙ sym both.1), takes.2)
      | inr over ↦
          let none = last over in
          let all : ahead.bytes ++ rest ≡ ahead.bytes = ap (λ zs. ahead.bytes ++ zs) none ∙ append-nil ahead.bytes in
          let behind : after_line ahead.bytes ++ rest ≡ after_line ahead.bytes = ap (λ zs. after_line ahead.bytes ++ zs) none ∙ append-nil (after_line ahead.bytes) in
          (some, takes.1 ∙ sym (ap first_line all), ap Some (left ∙ behind ∙ sym (ap after_line all)), takes.2)
    ]
reads most ahead new rest line TooLong ready last takes =
    let longer = longer_line ahead.bytes rest in
    let long : most < length (first_line (ahead.bytes ++ rest)) = omega (arith, takes.0, longer) in
    (λ none. let bad = ap (λ zs. length (first_line zs)) none in absurd (omega (arith, bad, long)), long)
reads most ahead new rest line End ready last takes =
    let over : ahead.over ≡ true = over_at_end most ahead.bytes ahead.over takes.0 ready in
    ap (λ zs. zs ++ rest) takes.0 ∙ last over
