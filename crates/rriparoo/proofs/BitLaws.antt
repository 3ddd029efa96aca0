-- A word as the set of the numbers of its bits.
use Rattle.std.proofs.Common.{◌≡◌, ℕ, ◌*◌, ◌/◌, ◌%◌, ◌^◌, ◌<◌, false, ◌&&◌, ◌||◌, eqb, ltb, bit_and, bit_or, refl, sym, ap, subst, ◌∙◌, ⊎_elim}
use Rattle.std.proofs.lemmas.Bool.{cases_eq, eq-eqb, eqb-true, ne_eqb, lt-ltb, and_right}
use Rattle.std.proofs.lemmas.Nat.Bits.{bit_at_set_same, bit_at_set_other, bit_at-zero, shr_and_one}
use Rattle.std.specs.Int.{bit_at, w128}
use Rattle.std.specs.Ordering.{nat_cmp}
use Rattle.std.specs.FinSet.{empty, contains, insert, contains-empty}
use Rattle.record_pages.proofs.public_laws.PassingLaws.{same_numbers, contains-insert_nat, contains-passing_below, joins}
use Rattle.record_pages.specs.Sizes.{max_set_records}
use Rattle.rriparoo.specs.HitBits.{bits_of}

-- what is among the bits of a word
contains-bits_of : (word : ℕ) (q : ℕ) → contains (bits_of word) q ≡ (ltb q max_set_records && eqb (bit_at word q) 1)
unfolding bits_of
contains-bits_of word q = contains-passing_below (λ place. eqb (bit_at word place) 1) max_set_records q

-- zero has no bit
pub bits_of-zero : bits_of 0 ≡ empty
bits_of-zero = same_numbers _ _ (λ q. contains-bits_of 0 q ∙ and_right (ltb q max_set_records) _ (none q) ∙ sym (contains-empty nat_cmp q))
  where
    none : (q : ℕ) → eqb (bit_at 0 q) 1 ≡ false
    none q = rw (bit_at-zero q) refl

-- a bit of a word after one was set
bit-set : (word place q : ℕ) → place < max_set_records → eqb (bit_at (bit_or word (1 * 2 ^ place % 2 ^ 128)) q) 1 ≡ (eqb q place || eqb (bit_at word q) 1)
bit-set word place q within =
    ⊎_elim
    (λ e. rw (eq-eqb (bit_at (bit_or word (1 * 2 ^ place % 2 ^ 128)) q) 1 (one e), eq-eqb q place e) refl)
    (λ ne. rw (other ne, ne_eqb q place ne) refl)
    (cases_eq q place)
  where
    one : q ≡ place → bit_at (bit_or word (1 * 2 ^ place % 2 ^ 128)) q ≡ 1
    one e = rw e (bit_at_set_same w128 word place within)

    other : (q ≡ place → ⊥) → bit_at (bit_or word (1 * 2 ^ place % 2 ^ 128)) q ≡ bit_at word q
    other ne = bit_at_set_other w128 word place within q ne

-- a place joins the set if its bit is set
pub bits_of-set : (word place : ℕ) → place < max_set_records → bits_of (bit_or word (1 * 2 ^ place % 2 ^ 128)) ≡ insert (bits_of word) place
bits_of-set word place within =
    same_numbers _ _ (λ q.
    contains-bits_of _ q
    ∙ joins (ltb q max_set_records) (eqb q place) (eqb (bit_at word q) 1) _ (λ e. lt-ltb q max_set_records (subst (λ n. n < max_set_records) (sym (eqb-true q place e)) within)) (bit-set word place q within)
    ∙ sym (contains-insert_nat _ place q ∙ ap (λ b. eqb q place || b) (contains-bits_of word q)))

-- the test of a bit tells whether its place is in the set
pub contains-at : (word place : ℕ) → place < max_set_records → eqb (bit_and (word / 2 ^ place) 1) 1 ≡ contains (bits_of word) place
contains-at word place within = rw (shr_and_one word place) (sym (contains-bits_of word place ∙ ap (λ b. b && eqb (bit_at word place) 1) (lt-ltb place max_set_records within)))
