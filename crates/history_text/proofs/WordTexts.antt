-- What is written as a word of a line is a word, and reads back.
use Rattle.std.proofs.Common.{◌≡◌, ℕ, zero, suc, ◌+◌, ◌-◌, ◌*◌, ◌^◌, ◌<◌, ◌≤◌, Bool, true, false, not, ◌&&◌, ◌||◌, ◌==◌, nat_le, ltb, eqb, List, [], ◌∷◌, length, All, Some, Ok, refl, sym, ap, ◌∙◌, arith, inl, inr, rules, fold, ◌≢◌, get_or}
use Rattle.std.specs.Prelude.{codes}
use Rattle.std.specs.Fmt.{decimal}
use Rattle.std.specs.List.{list_all, range_with_len}
use Rattle.std.specs.Str.{bytes_eq}
use Rattle.std.specs.Cmp.{first_so, second_so}
use Rattle.std.specs.Cmp.Lexicographic.{bytes_decides}
use Rattle.std.proofs.lemmas.Bool.{cases_Bool}
use Rattle.std.proofs.lemmas.Bool.Decides.{nat_tests}
use Rattle.std.proofs.lemmas.Fmt.{decimal_nonempty, decimal_digit, first_decimal, digits_decimal, digits_value-decimal, length-decimal-le}
use Rattle.std.proofs.lemmas.List.Sums.{AllPass-from_list_all, list_all-from_AllPass}
use Rattle.std.proofs.lemmas.List.Elements.{All-weaker}
use Rattle.std.proofs.lemmas.Str.Parse.{IsNumeralModel, numerals_by_fold}
use borrow.Author.Tests.{lt-ltb, ltb-true, ltb-false}
use Rattle.percent_encoding.specs.AsciiSet.{contains, should_percent_encode}
use Rattle.percent_encoding.specs.Percent.{percent_encode}
use Rattle.percent_encoding.proofs.AsciiSetLemmas.{ascii_from_kept, outside_from_kept}
use Rattle.percent_encoding.proofs.PercentLemmas.{IsEscapeByte, All-percent_encode, percent_encode_nonempty, length-percent_decode, round_trip}
use Rattle.record_pages.specs.Expiry.{never}
use Rattle.record_pages.specs.Digits.{are_digits, digits_value}
use Rattle.script_words.specs.Words.{is_word, is_numeral, number_below}
use Rattle.history_text.specs.declared.coding.TheConstants.{CODED}
use Rattle.history_text.specs.Coding.{word_of}
use Rattle.history_text.specs.ReadingBack.{name_of}
use Rattle.history_text.specs.Spelling.{stamp_of, end_of}
use Rattle.history_text.specs.Writing.{has_number, end_text}

-- a byte that a word may have
abbrev pub plain : ℕ → Bool
plain b = nat_le 33 b && nat_le b 126

-- ---- numbers

own : IsNumeralModel (λ ds. are_digits ds ≡ true) digits_value
own = numerals_by_fold _ (search rules) (λ n ds. fold (λ m digit. 10 * m + (digit - 48)) n ds) (search rules)

digits : (n : ℕ) → n < 2 ^ 64 → are_digits (decimal n) ≡ true
digits n small = digits_decimal own n small

single : (n : ℕ) → n < 2 ^ 64 → (not (get_or (decimal n) 0 0 == 48) || (length (decimal n) == 1)) ≡ true
single n small = elim (cases_Bool (eqb n 0)) [
  | inl first_one ↦
      let none : n ≡ 0 = grind (arith, nat_tests) in
      let digit : decimal n ≡ 48 ∷ [] = ap decimal none ∙ decimal_digit 0 (omega arith) in
      rw digit refl
  | inr some ↦
      let more : 0 < n = grind (arith, nat_tests) in
      let first = first_decimal n more small in
      let other : eqb (get_or (decimal n) 0 0) 48 ≡ false = grind (arith, nat_tests) in
      rw other refl
]

numeral : (n : ℕ) → n < 2 ^ 64 → is_numeral (decimal n) ≡ true
numeral n small =
    let some = decimal_nonempty n small in
    let full : eqb (length (decimal n)) 0 ≡ false = grind (arith, nat_tests) in
    rw (digits n small, full) (single n small)

pub number_reads : (bound n : ℕ) → n < bound → n < 2 ^ 64 → number_below bound (decimal n) ≡ Some n
number_reads bound n less small =
    rw (numeral n small, digits_value-decimal own n small, lt-ltb n bound less) refl

-- ---- tests of each byte

-- a test that a range passes
each_below : (p : ℕ → Bool) (n a : ℕ) → list_all p (range_with_len a n) ≡ true → (b : ℕ) → a ≤ b → b < a + n → p b ≡ true
each_below p zero a all b low high = absurd (omega (arith, low, high))
each_below p (suc n) a all b low high =
    let head : p a ≡ true = first_so (p a) (list_all p (range_with_len (a + 1) n)) all in
    let tail : list_all p (range_with_len (a + 1) n) ≡ true = second_so (p a) (list_all p (range_with_len (a + 1) n)) all in
    elim (cases_Bool (eqb a b)) [
      | inl same ↦ let is : a ≡ b = grind (arith, nat_tests) in ap p (sym is) ∙ head
      | inr other ↦
          let apart : a ≢ b = grind (arith, nat_tests) in
          each_below p n (a + 1) tail b (omega (arith, low, apart)) (omega (arith, high))
    ]

coded_low : list_all (contains CODED) (range_with_len 0 33) ≡ true
coded_low = refl

coded_last : contains CODED 127 ≡ true
coded_last = refl

-- a byte that is kept is one of a word
kept_plain : (b : ℕ) → should_percent_encode CODED b ≡ false → plain b ≡ true
kept_plain b kept =
    let ascii = ascii_from_kept CODED b kept in
    let outside = outside_from_kept CODED b kept in
    elim (cases_Bool (ltb b 33)) [
      | inl low ↦
          let bad : false ≡ true = sym outside ∙ each_below (contains CODED) 33 0 coded_low b (omega arith) (ltb-true b 33 low) in cc
      | inr high ↦ elim (cases_Bool (eqb b 127)) [
        | inl last ↦
            let is : b ≡ 127 = grind (arith, nat_tests) in
            let bad : false ≡ true = sym outside ∙ ap (contains CODED) is ∙ coded_last in cc
        | inr other ↦
            let least : 33 ≤ b = ltb-false b 33 high in
            let apart : b ≢ 127 = grind (arith, nat_tests) in grind (arith, nat_tests)
      ]
    ]

escape_plain : (b : ℕ) → IsEscapeByte b → plain b ≡ true
escape_plain b is = grind (arith, nat_tests)

encoded_plain : (bytes : List ℕ) → list_all plain (percent_encode CODED bytes) ≡ true
encoded_plain bytes =
    list_all-from_AllPass plain (percent_encode CODED bytes) (All-percent_encode (λ b. plain b ≡ true) CODED bytes kept_plain escape_plain)

word_by : (word : List ℕ) → 0 < length word → list_all plain word ≡ true → is_word word ≡ true
word_by word some all = let full : eqb (length word) 0 ≡ false = grind (arith, nat_tests) in rw (full, all) refl

-- ---- bytes as words

coded_is : (b : ℕ) (rest : List ℕ) → bytes_eq (b ∷ rest) (codes "-") ≡ false → word_of (b ∷ rest) ≡ percent_encode CODED (b ∷ rest)
unfolding word_of
coded_is b rest other =
    let some : eqb (length (b ∷ rest)) 0 ≡ false = grind (arith, nat_tests) in rw (some, other) refl

hyphen_is : (b : ℕ) (rest : List ℕ) → bytes_eq (b ∷ rest) (codes "-") ≡ true → word_of (b ∷ rest) ≡ codes "%2D"
unfolding word_of
hyphen_is b rest hyphen =
    let some : eqb (length (b ∷ rest)) 0 ≡ false = grind (arith, nat_tests) in rw (some, hyphen) refl

empty_is : word_of [] ≡ codes "-"
unfolding word_of
empty_is = refl

pub word_word : (bytes : List ℕ) → is_word (word_of bytes) ≡ true
word_word [] = ap is_word empty_is
word_word (b ∷ rest) = elim (cases_Bool (bytes_eq (b ∷ rest) (codes "-"))) [
  | inl hyphen ↦ ap is_word (hyphen_is b rest hyphen)
  | inr other ↦
      ap is_word (coded_is b rest other)
      ∙ word_by (percent_encode CODED (b ∷ rest)) (percent_encode_nonempty CODED (b ∷ rest) (omega arith)) (encoded_plain (b ∷ rest))
]

pub length_word : (bytes : List ℕ) → All (λ b. b < 256) bytes → length (word_of bytes) ≤ 3 * length bytes + 1
length_word [] small = rw empty_is (omega arith)
length_word (b ∷ rest) small = elim (cases_Bool (bytes_eq (b ∷ rest) (codes "-"))) [
  | inl hyphen ↦ rw (hyphen_is b rest hyphen) (omega arith)
  | inr other ↦
      let whole = (length-percent_decode (percent_encode CODED (b ∷ rest))).1 in
      let back = ap length (round_trip CODED (b ∷ rest) refl small) in
      rw (coded_is b rest other) (omega (arith, whole, back))
]

-- ---- numbers as words

digits_plain : (ds : List ℕ) → are_digits ds ≡ true → list_all plain ds ≡ true
digits_plain ds is =
    list_all-from_AllPass plain ds (All-weaker (λ b. (nat_le 48 b && nat_le b 57) ≡ true) (λ b. plain b ≡ true) (λ b h. grind (arith, nat_tests)) ds (AllPass-from_list_all (λ b. nat_le 48 b && nat_le b 57) ds is))

decimal_plain : (n : ℕ) → n < 2 ^ 64 → list_all plain (decimal n) ≡ true
decimal_plain n small = digits_plain (decimal n) (digits n small)

pub number_word : (n : ℕ) → n < 2 ^ 64 → is_word (decimal n) ≡ true
number_word n small = word_by (decimal n) (decimal_nonempty n small) (decimal_plain n small)

pub length_number : (n : ℕ) → n < 2 ^ 64 → length (decimal n) ≤ 20
length_number n small = length-decimal-le 20 n (omega arith) (omega (arith, small)) small

pub name_word : (n : ℕ) → n < 2 ^ 64 → is_word (name_of n) ≡ true
name_word n small = word_by (name_of n) (omega arith) (decimal_plain n small)

pub length_name : (n : ℕ) → n < 2 ^ 64 → length (name_of n) ≤ 21
length_name n small = let fits = length_number n small in omega (arith, fits)

-- ---- stamps

pub first_holds : (a b : Bool) → (a || b) ≡ true → b ≡ false → a ≡ true
first_holds true b either fails = refl
first_holds false b either fails = cc

pub stamp_reads : (n : ℕ) → has_number n ≡ true → stamp_of (decimal n) ≡ Some n
stamp_reads n has =
    let less : n < 2 ^ 63 = ltb-true n (2 ^ 63) has in number_reads (2 ^ 63) n less (omega (arith, less))

-- a number is no hyphen
no_hyphen : (n : ℕ) → n < 2 ^ 64 → bytes_eq (decimal n) (codes "-") ≡ false
no_hyphen n small = elim (cases_Bool (bytes_eq (decimal n) (codes "-"))) [
  | inl same ↦
      let is : decimal n ≡ codes "-" = (bytes_decides (decimal n) (codes "-")).0 same in
      let bad : false ≡ true = ap are_digits (sym is) ∙ digits n small in cc
  | inr other ↦ other
]

pub end_reads : (n : ℕ) → (has_number n || (n == never)) ≡ true → end_of (end_text n) ≡ Ok n
unfolding end_of
end_reads n has = elim (cases_Bool (eqb n never)) [
  | inl last ↦ let is : n ≡ never = grind (arith, nat_tests) in rw last (ap Ok (sym is))
  | inr other ↦
      let number : has_number n ≡ true = first_holds (has_number n) (n == never) has other in
      let less : n < 2 ^ 63 = ltb-true n (2 ^ 63) number in
      rw (other, no_hyphen n (omega (arith, less)), stamp_reads n number) refl
]

pub end_word : (n : ℕ) → n < 2 ^ 64 → is_word (end_text n) ≡ true
end_word n small = elim (cases_Bool (eqb n never)) [
  | inl last ↦ rw last refl
  | inr other ↦ rw other (number_word n small)
]

pub length_end : (n : ℕ) → n < 2 ^ 64 → length (end_text n) ≤ 20
length_end n small = elim (cases_Bool (eqb n never)) [
  | inl last ↦ rw last (omega arith)
  | inr other ↦ rw other (length_number n small)
]
