-- A word reads back as the bytes that it writes.
use Rattle.std.proofs.Common.{◌≡◌, ℕ, ◌/◌, ◌%◌, ◌<◌, true, false, eqb, if◌then◌else◌, List, [], ◌∷◌, ◌++◌, length, All, Some, refl, sym, ap, ◌∙◌, arith, inl, inr}
use Rattle.std.specs.Prelude.{codes}
use Rattle.std.specs.Char.{is_ascii_hexdigit}
use Rattle.std.specs.Fmt.{digit_glyph}
use Rattle.std.specs.Str.{bytes_eq}
use Rattle.std.specs.Cmp.Lexicographic.{bytes_decides}
use Rattle.std.proofs.lemmas.Bool.{cases_Bool}
use Rattle.std.proofs.lemmas.Bool.Decides.{nat_tests}
use Rattle.percent_encoding.specs.declared.ascii_set.AsciiSet.{AsciiSet}
use Rattle.percent_encoding.specs.AsciiSet.{contains, should_percent_encode}
use Rattle.percent_encoding.specs.Percent.{percent_encode, percent_encode_byte, percent_decode}
use Rattle.percent_encoding.proofs.AsciiSetLemmas.{escaped_from_inside}
use Rattle.percent_encoding.proofs.PercentLemmas.{IsByte, percent_encode-nil, percent_encode_escaped, percent_encode_kept, percent_decode_not_percent, percent_decode-nil, round_trip}
use Rattle.history_text.specs.declared.coding.TheConstants.{CODED}
use Rattle.history_text.specs.Coding.{is_coded, bytes_of, word_of}

glyph_digit : (d : ℕ) → d < 16 → is_ascii_hexdigit (digit_glyph true d) ≡ true
glyph_digit d small = grind (arith, nat_tests)

glyph_other : (d : ℕ) → d < 16 → eqb (digit_glyph true d) 37 ≡ false
glyph_other d small = grind (arith, nat_tests)

pair : (high low : ℕ) (rest : List ℕ) → is_ascii_hexdigit high ≡ true → is_ascii_hexdigit low ≡ true → eqb high 37 ≡ false → eqb low 37 ≡ false → is_coded rest ≡ true → is_coded (37 ∷ high ∷ low ∷ rest) ≡ true
pair high low rest a b c d e = rw (a, b, c, d, e) refl

coded_byte : (b : ℕ) (rest : List ℕ) → is_coded rest ≡ true → is_coded (percent_encode_byte b ++ rest) ≡ true
unfolding percent_encode_byte
coded_byte b rest h =
    pair (digit_glyph true (b / 16 % 16)) (digit_glyph true (b % 16)) rest (glyph_digit (b / 16 % 16) (omega arith)) (glyph_digit (b % 16) (omega arith)) (glyph_other (b / 16 % 16) (omega arith)) (glyph_other (b % 16) (omega arith)) h

kept_byte : (b : ℕ) (rest : List ℕ) → eqb b 37 ≡ false → is_coded rest ≡ true → is_coded (b ∷ rest) ≡ true
kept_byte b rest other h = rw (other, h) refl

-- a byte that is kept is no %
other_kept : (set : AsciiSet) (b : ℕ) → contains set 37 ≡ true → should_percent_encode set b ≡ false → eqb b 37 ≡ false
other_kept set b has kept = elim (cases_Bool (eqb b 37)) [
  | inl same ↦
      let is : b ≡ 37 = grind (arith, nat_tests) in
      let coded : should_percent_encode set b ≡ true = ap (should_percent_encode set) is ∙ escaped_from_inside set 37 has in
      let bad : true ≡ false = sym coded ∙ kept in cc
  | inr other ↦ other
]

-- what is written is coded
encoded : (set : AsciiSet) (bs : List ℕ) → contains set 37 ≡ true → is_coded (percent_encode set bs) ≡ true
encoded set [] has = ap is_coded (percent_encode-nil set)
encoded set (b ∷ bs) has = elim (cases_Bool (should_percent_encode set b)) [
  | inl escaped ↦
      ap is_coded (percent_encode_escaped set b bs escaped) ∙ coded_byte b (percent_encode set bs) (encoded set bs has)
  | inr kept ↦
      ap is_coded (percent_encode_kept set b bs kept) ∙ kept_byte b (percent_encode set bs) (other_kept set b has kept) (encoded set bs has)
]

has_percent : contains CODED 37 ≡ true
has_percent = refl

hyphen_decoded : percent_decode (45 ∷ []) ≡ 45 ∷ []
hyphen_decoded = percent_decode_not_percent 45 [] (omega arith) ∙ ap (λ xs. 45 ∷ xs) percent_decode-nil

coded_hyphen : bytes_of (codes "%2D") ≡ Some (codes "-")
unfolding bytes_of percent_decode
coded_hyphen = refl

-- what is coded reads back, unless it is the hyphen of no bytes
by_coded : (word bytes : List ℕ) → bytes_eq word (codes "-") ≡ false → is_coded word ≡ true → percent_decode word ≡ bytes → bytes_of word ≡ Some bytes
unfolding bytes_of
by_coded word bytes other coded is = rw (other, coded) (ap Some is)

no_hyphen : (bytes : List ℕ) → All IsByte bytes → bytes_eq bytes (codes "-") ≡ false → bytes_eq (percent_encode CODED bytes) (codes "-") ≡ false
no_hyphen bytes small other = elim (cases_Bool (bytes_eq (percent_encode CODED bytes) (codes "-"))) [
  | inl same ↦
      let is : percent_encode CODED bytes ≡ codes "-" = (bytes_decides (percent_encode CODED bytes) (codes "-")).0 same in
      let back : bytes ≡ codes "-" = sym (round_trip CODED bytes has_percent small) ∙ ap percent_decode is ∙ hyphen_decoded in
      let bad : false ≡ true = sym other ∙ (bytes_decides bytes (codes "-")).1 back in cc
  | inr fails ↦ fails
]

empty_reads : bytes_of (word_of []) ≡ Some []
unfolding bytes_of word_of
empty_reads = refl

word_is : (b : ℕ) (rest : List ℕ) → word_of (b ∷ rest) ≡ (if bytes_eq (b ∷ rest) (codes "-") then codes "%2D" else percent_encode CODED (b ∷ rest))
unfolding word_of
word_is b rest = let some : eqb (length (b ∷ rest)) 0 ≡ false = grind (arith, nat_tests) in rw some refl

by_test : (b : ℕ) (rest : List ℕ) → All (λ x. x < 256) (b ∷ rest) → bytes_of (if bytes_eq (b ∷ rest) (codes "-") then codes "%2D" else percent_encode CODED (b ∷ rest)) ≡ Some (b ∷ rest)
by_test b rest small = elim (cases_Bool (bytes_eq (b ∷ rest) (codes "-"))) [
  | inl hyphen ↦
      let is = (bytes_decides (b ∷ rest) (codes "-")).0 hyphen in rw hyphen (coded_hyphen ∙ ap Some (sym is))
  | inr other ↦
      rw other (by_coded (percent_encode CODED (b ∷ rest)) (b ∷ rest) (no_hyphen (b ∷ rest) small other) (encoded CODED (b ∷ rest) has_percent) (round_trip CODED (b ∷ rest) has_percent small))
]

pub word_reads : (bytes : List ℕ) → All (λ b. b < 256) bytes → bytes_of (word_of bytes) ≡ Some bytes
word_reads [] small = empty_reads
word_reads (b ∷ rest) small = ap bytes_of (word_is b rest) ∙ by_test b rest small

pub words_apart : (one other : List ℕ) → All (λ b. b < 256) one → All (λ b. b < 256) other → word_of one ≡ word_of other → one ≡ other
words_apart one other first second same =
    let e : Some one ≡ Some other = sym (word_reads one first) ∙ ap bytes_of same ∙ word_reads other second in cc
