-- Words as a row of bits.
use Rattle.std.proofs.Common.{◌≡◌, ℕ, ◌*◌, ◌/◌, ◌%◌, ◌^◌, ◌<◌, ◌≤◌, false, ◌&&◌, ◌||◌, List, [], ◌∷◌, ◌++◌, length, replicate, get_or, eqb, ltb, bit_and, bit_or, refl, sym, ap, subst, ◌∙◌, ⊎_elim, w64, arith, inl, inr}
use Rattle.std.proofs.Math.ListN.{set}
use Rattle.std.proofs.Math.Nat.{mod-lt}
use Rattle.std.proofs.lemmas.Bool.{cases_eq, cases_lt, eq-eqb, eqb-true, ne_eqb, lt-ltb, and_right}
use Rattle.std.proofs.lemmas.List.{get_or-set_other, get_or-replicate, get_or_past, length-replicate, length-set, map-append}
use Rattle.std.proofs.lemmas.List.Folds.{list_all-map}
use Rattle.std.proofs.lemmas.Nat.Bits.{bit_at-zero, bit_at_set_same, bit_at_set_other, shr_and_one}
use Rattle.std.proofs.lemmas.Grind.{get_or-set_at}
use Rattle.std.specs.Int.{bit_at}
use Rattle.std.specs.FinSet.{FinSet, empty, contains, insert, contains-empty}
use Rattle.std.specs.Ordering.{nat_cmp}
use Rattle.record_pages.proofs.public_laws.PassingLaws.{contains-passing_below, same_numbers, contains-insert_nat, joins}
use Rattle.record_pages.specs.Passing.{passing_below}
use Rattle.bloom.specs.Filter.{has_bit, with_bits, admits}
use Rattle.bloom.proofs.public_laws.FilterLaws.{with_bits-none, with_bits-push}
use Rattle.sight_sketch.specs.Sketch.{Row, row_of, places_of, has_places, with_place, with_places}

-- a bit of another word
other_word : (words : List ℕ) (bit q w : ℕ) → (q / 64 ≡ bit / 64 → ⊥) → has_bit (set words (bit / 64) w) q ≡ (eqb q bit || has_bit words q)
other_word words bit q w apart =
    let unchanged = get_or-set_other words (bit / 64) (q / 64) w 0 apart in
    let differs : eqb q bit ≡ false = ne_eqb q bit (λ e. apart (ap (λ n. n / 64) e)) in
    rw (unchanged, differs) refl

-- a bit of the word that was written
same_word : (words : List ℕ) (bit q w : ℕ) → q / 64 ≡ bit / 64 → bit / 64 < length words →
    (q % 64 ≡ bit % 64 → bit_at w (q % 64) ≡ 1) → ((q % 64 ≡ bit % 64 → ⊥) → bit_at w (q % 64) ≡ bit_at (get_or words (bit / 64) 0) (q % 64)) →
    has_bit (set words (bit / 64) w) q ≡ (eqb q bit || has_bit words q)
same_word words bit q w home within at_it beside =
    let written : get_or (set words (bit / 64) w) (q / 64) 0 ≡ w = get_or-set_at words (bit / 64) (q / 64) w 0 home within in
    let one : q % 64 ≡ bit % 64 → eqb (bit_at w (q % 64)) 1 ≡ (eqb q bit || has_bit words q) =
    λ e. rw (eq-eqb (bit_at w (q % 64)) 1 (at_it e), eq-eqb q bit (omega arith)) refl in
    let other : (q % 64 ≡ bit % 64 → ⊥) → eqb (bit_at w (q % 64)) 1 ≡ (eqb q bit || has_bit words q) =
    λ ne. rw (beside ne, ne_eqb q bit (λ e. ne (ap (λ n. n % 64) e)), home) refl in
    rw written (⊎_elim one other (cases_eq (q % 64) (bit % 64)))

-- a bit of the words after one was set
has_bit-set : (words : List ℕ) (bit q : ℕ) → bit / 64 < length words →
    has_bit (set words (bit / 64) (bit_or (get_or words (bit / 64) 0) (1 * 2 ^ (bit % 64) % 2 ^ 64))) q ≡ (eqb q bit || has_bit words q)
has_bit-set words bit q within =
    let word = get_or words (bit / 64) 0 in
    let w = bit_or word (1 * 2 ^ (bit % 64) % 2 ^ 64) in
    let low : bit % 64 < 64 = omega arith in
    ⊎_elim
    (λ home. same_word words bit q w home within
    (λ e. rw e (bit_at_set_same w64 word (bit % 64) low))
    (λ ne. bit_at_set_other w64 word (bit % 64) low (q % 64) ne))
    (λ apart. other_word words bit q w apart)
    (cases_eq (q / 64) (bit / 64))

-- a bit joins the set if it is set in its word
bits-set : (words : List ℕ) (bit size : ℕ) → size ≡ 64 * length words → bit < size →
    passing_below (has_bit (set words (bit / 64) (bit_or (get_or words (bit / 64) 0) (1 * 2 ^ (bit % 64) % 2 ^ 64)))) size ≡ insert (passing_below (has_bit words) size) bit
bits-set words bit size is within =
    let place : bit / 64 < length words = omega (arith, is, within) in
    same_numbers _ _ (λ q.
    contains-passing_below _ size q
    ∙ joins (ltb q size) (eqb q bit) (has_bit words q) _ (λ e. lt-ltb q size (subst (λ n. n < size) (sym (eqb-true q bit e)) within)) (has_bit-set words bit q place)
    ∙ sym (contains-insert_nat _ bit q ∙ ap (λ b. eqb q bit || b) (contains-passing_below (has_bit words) size q)))

-- the test of a bit in its word tells whether it is in the set
contains-at : (words : List ℕ) (bit size : ℕ) → bit < size → eqb (bit_and (get_or words (bit / 64) 0 / 2 ^ (bit % 64)) 1) 1 ≡ contains (passing_below (has_bit words) size) bit
contains-at words bit size within =
    rw (shr_and_one (get_or words (bit / 64) 0) (bit % 64)) (sym (contains-passing_below (has_bit words) size bit ∙ ap (λ b. b && has_bit words bit) (lt-ltb bit size within)))

-- words of which each is zero have no bit
no-bits : (words : List ℕ) (size : ℕ) → ((k : ℕ) → get_or words k 0 ≡ 0) → passing_below (has_bit words) size ≡ empty
no-bits words size zero =
    same_numbers _ _ (λ q. contains-passing_below (has_bit words) size q ∙ and_right (ltb q size) _ (none q) ∙ sym (contains-empty nat_cmp q))
  where
    none : (q : ℕ) → has_bit words q ≡ false
    none q = rw (zero (q / 64), bit_at-zero (q % 64)) refl

-- a bit of a row
abbrev pub put : List ℕ → ℕ → List ℕ
put words bit = set words (bit / 64) (bit_or (get_or words (bit / 64) 0) (1 * 2 ^ (bit % 64) % 2 ^ 64))

-- the bit of a number lies in the row, and in one of its words
pub bit_low : (n size words : ℕ) → 64 ≤ size → size ≡ 64 * words → n % size < 64 * words
bit_low n size words some is = let below : n % size < size = mod-lt n {m = size} (omega (arith, some)) in omega (arith, below, is)

pub word_low : (n size words : ℕ) → 64 ≤ size → size ≡ 64 * words → n % size / 64 < words
word_low n size words some is = let low = bit_low n size words some is in omega (arith, low)

-- a row with a bit more
abbrev pub with_bit : Row → ℕ → Row
with_bit r bit = record { size = r.size; bits = insert r.bits bit }

-- rows are equal if their sizes and bits are
row_is : (m n : ℕ) (a b : FinSet nat_cmp) → m ≡ n → a ≡ b → ◌≡◌ {A = Row} (record { size = m; bits = a }) (record { size = n; bits = b })
row_is m n a b same_size same_bits = λ i. record { size = same_size i; bits = same_bits i }

zero_at : (n k : ℕ) → ◌≡◌ {A = ℕ} (get_or (replicate n 0) k 0) 0
zero_at n k = elim (cases_lt k n) [
  | inl within ↦ get_or-replicate n k 0 0 within
  | inr past ↦ let long = length-replicate {A = ℕ} n 0 in get_or_past (replicate n 0) k 0 (omega (arith, long, past))
]

-- words that are zero have no bit
pub row-zeros : (n : ℕ) → row_of (replicate n 0) ≡ record { size = 64 * n; bits = empty }
unfolding row_of
row-zeros n =
    let long : 64 * length (replicate n 0) ≡ 64 * n = ap (λ m. 64 * m) (length-replicate n 0) in
    row_is _ _ _ _ long (no-bits (replicate n 0) (64 * length (replicate n 0)) (zero_at n))

-- a bit that is set in its word joins the row
pub row-set : (words : List ℕ) (bit : ℕ) → bit < 64 * length words → row_of (put words bit) ≡ with_bit (row_of words) bit
unfolding row_of
row-set words bit within =
    let long : 64 * length (put words bit) ≡ 64 * length words = ap (λ n. 64 * n) (length-set words (bit / 64) _) in
    row_is _ _ _ _ long (ap (passing_below (has_bit (put words bit))) long ∙ bits-set words bit (64 * length words) refl within)

-- the test of a bit in its word tells whether the row has it
pub row-contains : (words : List ℕ) (bit : ℕ) → bit < 64 * length words → eqb (bit_and (get_or words (bit / 64) 0 / 2 ^ (bit % 64)) 1) 1 ≡ contains (row_of words).bits bit
unfolding row_of
row-contains words bit within = contains-at words bit (64 * length words) within

pub row-size : (words : List ℕ) → (row_of words).size ≡ 64 * length words
unfolding row_of
row-size words = refl

-- ---- bits of numbers

-- all bits of some numbers are set if they are among those of the row
pub has_places-admits : (r : Row) (numbers : List ℕ) → has_places r numbers ≡ admits r.bits (places_of r.size numbers)
has_places-admits r numbers = sym (list_all-map (contains r.bits) (λ n. n % r.size) numbers)

pub with_places-none : (r : Row) → r ≡ with_places r []
with_places-none r = λ i. record { size = r.size; bits = with_bits-none r.bits i }

-- one number more
pub with_places-push : (r : Row) (numbers : List ℕ) (number : ℕ) → with_place (with_places r numbers) number ≡ with_places r (numbers ++ number ∷ [])
with_places-push r numbers number =
    row_is _ _ _ _ refl (with_bits-push r.bits (places_of r.size numbers) (number % r.size) ∙ ap (with_bits r.bits) (sym (map-append (λ n. n % r.size) numbers (number ∷ []))))
