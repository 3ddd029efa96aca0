-- Four words as the set of the numbers of their bits.
use Rattle.std.proofs.Common.{◌≡◌, ℕ, ◌*◌, ◌/◌, ◌%◌, ◌^◌, ◌<◌, false, ◌&&◌, ◌||◌, List, length, get_or, eqb, ltb, bit_or, refl, ap, ⊎_elim, w64, arith}
use Rattle.std.proofs.Math.ListN.{set}
use Rattle.std.proofs.lemmas.Bool.{cases_eq, eq-eqb, ne_eqb}
use Rattle.std.proofs.lemmas.List.{get_or-set_other}
use Rattle.std.proofs.lemmas.Nat.Bits.{bit_at_set_same, bit_at_set_other}
use Rattle.std.proofs.lemmas.Grind.{get_or-set_at}
use Rattle.std.specs.Int.{bit_at}
use Rattle.std.specs.FinSet.{contains}
use Rattle.record_pages.proofs.public_laws.PassingLaws.{contains-passing_below}
use Rattle.bloom.specs.Filter.{has_bit, set_bits}

-- a bit of another word
other_word : (words : List ℕ) (bit q w : ℕ) → (q / 64 ≡ bit / 64 → ⊥) → has_bit (set words (bit / 64) w) q ≡ (eqb q bit || has_bit words q)
other_word words bit q w apart =
    let unchanged = get_or-set_other words (bit / 64) (q / 64) w 0 apart in
    let differs : eqb q bit ≡ false = ne_eqb q bit (λ e. apart (ap (λ n. n / 64) e)) in
    rw (unchanged, differs) refl

-- a bit of the word that was written
same_word : (words : List ℕ) (bit q w : ℕ) → q / 64 ≡ bit / 64 → bit / 64 < length words →
    (q % 64 ≡ bit % 64 → bit_at w (q % 64) ≡ 1) → ((q % 64 ≡ bit % 64 → ⊥) → bit_at w (q % 64) ≡ bit_at (get_or words (bit / 64) 0) (q % 64)) →
    has_bit (set words (bit / 64) w) q ≡ (eqb q bit || has_bit words q)
same_word words bit q w home within at_it beside =
    let written : get_or (set words (bit / 64) w) (q / 64) 0 ≡ w = get_or-set_at words (bit / 64) (q / 64) w 0 home within in
    let one : q % 64 ≡ bit % 64 → eqb (bit_at w (q % 64)) 1 ≡ (eqb q bit || has_bit words q) =
    λ e. rw (eq-eqb (bit_at w (q % 64)) 1 (at_it e), eq-eqb q bit (omega arith)) refl in
    let other : (q % 64 ≡ bit % 64 → ⊥) → eqb (bit_at w (q % 64)) 1 ≡ (eqb q bit || has_bit words q) =
    λ ne. rw (beside ne, ne_eqb q bit (λ e. ne (ap (λ n. n % 64) e)), home) refl in
    rw written (⊎_elim one other (cases_eq (q % 64) (bit % 64)))

-- a bit of the words after one was set
pub has_bit-set : (words : List ℕ) (bit q : ℕ) → length words ≡ 4 → bit < 256 →
    has_bit (set words (bit / 64) (bit_or (get_or words (bit / 64) 0) (1 * 2 ^ (bit % 64) % 2 ^ 64))) q ≡ (eqb q bit || has_bit words q)
has_bit-set words bit q len in_range =
    let word = get_or words (bit / 64) 0 in
    let w = bit_or word (1 * 2 ^ (bit % 64) % 2 ^ 64) in
    let low : bit % 64 < 64 = omega arith in
    ⊎_elim
    (λ home. same_word words bit q w home (omega arith)
    (λ e. rw e (bit_at_set_same w64 word (bit % 64) low))
    (λ ne. bit_at_set_other w64 word (bit % 64) low (q % 64) ne))
    (λ apart. other_word words bit q w apart)
    (cases_eq (q / 64) (bit / 64))

-- what is among the bits of words
pub contains-set_bits : (words : List ℕ) (q : ℕ) → contains (set_bits words) q ≡ (ltb q 256 && has_bit words q)
unfolding set_bits
contains-set_bits words q = contains-passing_below (has_bit words) 256 q
