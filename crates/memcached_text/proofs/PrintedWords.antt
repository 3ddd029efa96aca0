-- The words of a line that a client writes.
use Rattle.std.proofs.Common.{◌≡◌, ◌≢◌, ℕ, zero, suc, ◌+◌, ◌-◌, ◌*◌, ◌<◌, ◌≤◌, ◌^◌, ◌%◌, not, eqb, nat_lt, nat_le, ◌==◌, ◌&&◌, Bool, true, false, List, [], ◌∷◌, ◌++◌, length, take, drop, filter, All, Option, Some, None, refl, sym, ap, ◌∙◌, arith, rules, inl, inr, fold, get_or, append_assoc}
use Rattle.std.specs.Prelude.{codes}
use Rattle.std.specs.Fmt.{decimal}
use Rattle.std.specs.List.{list_all, slice_split, position_or_len}
use Rattle.std.specs.Str.{bytes_eq}
use Rattle.std.specs.Cmp.{first_so, second_so}
use Rattle.std.proofs.lemmas.Bool.{cases_Bool}
use Rattle.std.proofs.lemmas.Bool.Decides.{nat_tests}
use Rattle.std.proofs.lemmas.Fmt.{decimal_nonempty, digits_decimal, digits_value-decimal, length-decimal-le}
use Rattle.std.proofs.lemmas.List.Splits.{slice_split_at, slice_split_none}
use Rattle.std.proofs.lemmas.List.Elements.{All-weaker, All-nil, All-cons, All-head, All-tail}
use Rattle.std.proofs.lemmas.Str.Parse.{IsNumeralModel, numerals_by_fold}
use borrow.Author.Tests.{lt-ltb}
use Rattle.memcached_text.specs.declared.exptime.Exptime.{Exptime}
use Rattle.memcached_text.specs.declared.exptime.Exptime.TheVariants.{Never, At, Past}
use Rattle.memcached_text.specs.Numbers.{are_digits, value_of, number_below, digits_below, after_plus, low_number, length_of, exptime_of, coming_of, past_of, moment_of}
use Rattle.memcached_text.specs.Printing.{spaced, flagged, IsWord, IsName, IsExptime, StartsWithNone, exptime_word}
use Rattle.memcached_text.specs.Words.{parts_of, words_of, after_spaces, from_space, after_word, is_key}

-- ---- words that are parted by spaces

abbrev is_space : ℕ → Bool
is_space b = b == 32

no_space : (word : List ℕ) → IsWord word → All (λ b. is_space b ≡ false) word
no_space word is = All-weaker (λ b. (b ≢ 32) × (b ≢ 10)) (λ b. is_space b ≡ false) (λ b h. let apart = h.0 in grind (arith, nat_tests, apart)) word is.bytes

split : (word : List ℕ) (words : List (List ℕ)) → All IsWord (word ∷ words) → slice_split is_space (spaced word words) ≡ word ∷ words
split word [] all = slice_split_none is_space word (no_space word (All-head IsWord word [] all))
split word (next ∷ words) all =
    let is = All-head IsWord word (next ∷ words) all in
    let rest = All-tail IsWord word (next ∷ words) all in
    slice_split_at is_space word 32 (spaced next words) (no_space word is) refl ∙ ap (λ ws. word ∷ ws) (split next words rest)

split_more : (word : List ℕ) (words : List (List ℕ)) (rest : List ℕ) → All IsWord (word ∷ words) → slice_split is_space (spaced word words ++ 32 ∷ rest) ≡ (word ∷ words) ++ slice_split is_space rest
split_more word [] rest all = slice_split_at is_space word 32 rest (no_space word (All-head IsWord word [] all)) refl
split_more word (next ∷ words) rest all =
    let is = All-head IsWord word (next ∷ words) all in
    let others = All-tail IsWord word (next ∷ words) all in
    ap (slice_split is_space) (append_assoc word (32 ∷ spaced next words) (32 ∷ rest))
    ∙ slice_split_at is_space word 32 (spaced next words ++ 32 ∷ rest) (no_space word is) refl
    ∙ ap (λ ws. word ∷ ws) (split_more next words rest others)

abbrev is_some : List ℕ → Bool
is_some part = not (length part == 0)

full : (word : List ℕ) → IsWord word → is_some word ≡ true
full word is = let some = is.some in grind (arith, nat_tests, some)

all_kept : (words : List (List ℕ)) → All IsWord words → filter is_some words ≡ words
all_kept [] all = refl
all_kept (word ∷ words) all = rw (full word (All-head IsWord word words all)) (ap (λ ws. word ∷ ws) (all_kept words (All-tail IsWord word words all)))

all_kept_more : (words others : List (List ℕ)) → All IsWord words → filter is_some (words ++ others) ≡ words ++ filter is_some others
all_kept_more [] others all = refl
all_kept_more (word ∷ words) others all = rw (full word (All-head IsWord word words all)) (ap (λ ws. word ∷ ws) (all_kept_more words others (All-tail IsWord word words all)))

-- the parts of words with spaces between them
pub parts_spaced : (word : List ℕ) (words : List (List ℕ)) → All IsWord (word ∷ words) → parts_of (spaced word words) ≡ word ∷ words
parts_spaced word words all = ap (filter is_some) (split word words all) ∙ all_kept (word ∷ words) all

-- the same with flags after them
pub parts_flagged : (word : List ℕ) (words : List (List ℕ)) (flags : List ℕ) → All IsWord (word ∷ words) → parts_of (flagged (spaced word words) flags) ≡ (word ∷ words) ++ parts_of flags
parts_flagged word words [] all = parts_spaced word words all ∙ sym (append_none (word ∷ words))
  where
    append_none : (ws : List (List ℕ)) → ws ++ parts_of [] ≡ ws
    append_none [] = refl
    append_none (w ∷ ws) = ap (λ vs. w ∷ vs) (append_none ws)
parts_flagged word words (b ∷ bs) all = ap (filter is_some) (split_more word words (b ∷ bs) all) ∙ all_kept_more (word ∷ words) (slice_split is_space (b ∷ bs)) all

-- ---- what is after a word

pub drop_word : (word rest : List ℕ) → drop (length word) (word ++ rest) ≡ rest
drop_word [] rest = refl
drop_word (b ∷ bs) rest = drop_word bs rest

head_other : (b : ℕ) (bs : List ℕ) → All (λ b. is_space b ≡ false) (b ∷ bs) → is_space b ≡ false
head_other b bs none = All-head (λ b. is_space b ≡ false) b bs none

tail_other : (b : ℕ) (bs : List ℕ) → All (λ b. is_space b ≡ false) (b ∷ bs) → All (λ b. is_space b ≡ false) bs
tail_other b bs none = All-tail (λ b. is_space b ≡ false) b bs none

space_at : (word rest : List ℕ) → All (λ b. is_space b ≡ false) word → position_or_len is_space (word ++ 32 ∷ rest) ≡ length word
space_at [] rest none = refl
space_at (b ∷ bs) rest none = let others = space_at bs rest (tail_other b bs none) in rw (head_other b bs none) (omega (arith, others))

no_space_at : (word : List ℕ) → All (λ b. is_space b ≡ false) word → position_or_len is_space word ≡ length word
no_space_at [] none = refl
no_space_at (b ∷ bs) none = let others = no_space_at bs (tail_other b bs none) in rw (head_other b bs none) (omega (arith, others))

pub drop_all : (word : List ℕ) → drop (length word) word ≡ []
drop_all [] = refl
drop_all (b ∷ bs) = drop_all bs

none_skipped : (b : ℕ) (bs : List ℕ) → is_space b ≡ false → after_spaces (b ∷ bs) ≡ b ∷ bs
none_skipped b bs other = rw other refl

one_skipped : (rest : List ℕ) → StartsWithNone rest → after_spaces (32 ∷ rest) ≡ rest
one_skipped [] starts = refl
one_skipped (b ∷ bs) starts = let other : is_space b ≡ false = grind (arith, nat_tests, starts) in rw other refl

-- what is after a word and a space
pub after_first : (word rest : List ℕ) → IsWord word → StartsWithNone rest → after_word (word ++ 32 ∷ rest) ≡ rest
after_first [] rest is starts = let some = is.some in absurd (omega (arith, some))
after_first (b ∷ bs) rest is starts =
    let none = no_space (b ∷ bs) is in
    ap (λ text. after_spaces (from_space text)) (none_skipped b (bs ++ 32 ∷ rest) (head_other b bs none))
    ∙ ap (λ n. after_spaces (drop n ((b ∷ bs) ++ 32 ∷ rest))) (space_at (b ∷ bs) rest none)
    ∙ ap after_spaces (drop_word (b ∷ bs) (32 ∷ rest))
    ∙ one_skipped rest starts

-- nothing is after a word that ends a line
pub after_last : (word : List ℕ) → IsWord word → after_word word ≡ []
after_last [] is = refl
after_last (b ∷ bs) is =
    let none = no_space (b ∷ bs) is in
    ap (λ text. after_spaces (from_space text)) (none_skipped b bs (head_other b bs none))
    ∙ ap (λ n. after_spaces (drop n (b ∷ bs))) (no_space_at (b ∷ bs) none)
    ∙ ap after_spaces (drop_all (b ∷ bs))

-- ---- numbers as words

own : IsNumeralModel (λ ds. are_digits ds ≡ true) value_of
own = numerals_by_fold _ (search rules) (λ n ds. fold (λ m digit. 10 * m + (digit - 48)) n ds) (search rules)

digits : (n : ℕ) → n < 2 ^ 64 → are_digits (decimal n) ≡ true
digits n small = digits_decimal own n small

-- digits have a first one
first_digit : (ds : List ℕ) → are_digits ds ≡ true → 0 < length ds → (48 ≤ get_or ds 0 0) × (get_or ds 0 0 ≤ 57)
first_digit [] all some = absurd (omega (arith, some))
first_digit (d ∷ ds) all some =
    let here = first_so (nat_le 48 d && nat_le d 57) (are_digits ds) all in
    (grind (arith, nat_tests), grind (arith, nat_tests))

no_plus : (n : ℕ) → n < 2 ^ 64 → after_plus (decimal n) ≡ decimal n
no_plus n small =
    let first = first_digit (decimal n) (digits n small) (decimal_nonempty n small) in
    let other : eqb (get_or (decimal n) 0 0) 43 ≡ false = grind (arith, nat_tests, first.0) in
    rw other refl

pub number_reads : (bound n : ℕ) → n < bound → n < 2 ^ 64 → number_below bound (decimal n) ≡ Some n
number_reads bound n less small =
    let some = decimal_nonempty n small in
    let full : eqb (length (decimal n)) 0 ≡ false = grind (arith, nat_tests, some) in
    ap (digits_below bound) (no_plus n small)
    ∙ rw (full, digits n small, digits_value-decimal own n small, lt-ltb n bound less) refl

pub low_reads : (n : ℕ) → n < 2 ^ 32 → low_number (decimal n) ≡ Some n
unfolding low_number
low_reads n small =
    let low : n % 2 ^ 32 ≡ n = omega (arith, small) in
    rw (number_reads (2 ^ 64) n (omega (arith, small)) (omega (arith, small))) (ap Some low)

pub exptime_reads : (exptime : Exptime) → IsExptime exptime → exptime_of (exptime_word exptime) ≡ Some exptime
unfolding coming_of past_of
exptime_reads Never is = refl
exptime_reads Past is = refl
exptime_reads (At seconds) is =
    let small : seconds < 2 ^ 64 = omega (arith, is.1) in
    let first = first_digit (decimal seconds) (digits seconds small) (decimal_nonempty seconds small) in
    let other : eqb (get_or (decimal seconds) 0 0) 45 ≡ false = grind (arith, nat_tests, first.0) in
    let low : seconds % 2 ^ 32 ≡ seconds = omega (arith, is.1) in
    let some : eqb seconds 0 ≡ false = grind (arith, nat_tests, is.0) in
    rw (other, number_reads (2 ^ 64) seconds small small, lt-ltb seconds (2 ^ 63) (omega (arith, is.1)), low, some, lt-ltb seconds (2 ^ 31) is.1) refl

digit_plain : (ds : List ℕ) → are_digits ds ≡ true → All (λ b. (b ≢ 32) × (b ≢ 10)) ds
digit_plain [] all = All-nil _
digit_plain (d ∷ ds) all =
    let here = first_so (nat_le 48 d && nat_le d 57) (are_digits ds) all in
    let rest = second_so (nat_le 48 d && nat_le d 57) (are_digits ds) all in
    let no_blank : d ≢ 32 = grind (arith, nat_tests) in
    let no_feed : d ≢ 10 = grind (arith, nat_tests) in
    All-cons (λ b. (b ≢ 32) × (b ≢ 10)) d ds (no_blank, no_feed) (digit_plain ds rest)

pub decimal_word : (n : ℕ) → n < 2 ^ 64 → IsWord (decimal n)
decimal_word n small = record { some = decimal_nonempty n small; bytes = digit_plain (decimal n) (digits n small) }

pub exptime_is_word : (exptime : Exptime) → IsExptime exptime → IsWord (exptime_word exptime)
exptime_is_word Never is = record { some = omega arith; bytes = grind (arith) }
exptime_is_word Past is = record { some = omega arith; bytes = grind (arith) }
exptime_is_word (At seconds) is = decimal_word seconds (omega (arith, is.1))

pub no_noreply : (n : ℕ) → n < 2 ^ 64 → bytes_eq (decimal n) (codes "noreply") ≡ false
no_noreply n small =
    let first = first_digit (decimal n) (digits n small) (decimal_nonempty n small) in
    other (decimal n) first.1
  where
    other : (ds : List ℕ) → get_or ds 0 0 ≤ 57 → bytes_eq ds (codes "noreply") ≡ false
    other [] low = refl
    other (d ∷ ds) low = let apart : eqb d 110 ≡ false = grind (arith, nat_tests, low) in rw apart refl

-- ---- keys

pub is_name : (key : List ℕ) → IsName key → is_key key ≡ true
is_name key is = let some = is.word.some in let few = is.few in grind (arith, nat_tests, some, few)
