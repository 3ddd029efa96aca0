-- Filters as sets of bits.
use Rattle.std.proofs.Common.{◌≡◌, ℕ, zero, suc, ◌+◌, ◌*◌, ◌/◌, ◌%◌, ◌^◌, ◌<◌, Bool, true, false, ◌&&◌, ◌||◌, List, [], ◌∷◌, ◌++◌, length, get_or, eqb, ltb, bit_and, bit_or, append_assoc, append-nil, refl, sym, ap, subst, ◌∙◌, ◌↔◌, max, arith, lit<}
use Rattle.std.proofs.Math.ListN.{set}
use Rattle.std.proofs.lemmas.Bool.{lt-ltb, eq-eqb, eqb-true, false≢true, and_right, and_from, and_parts, or_left, or_right}
use Rattle.std.proofs.lemmas.List.Folds.{list_any-append}
use Rattle.std.proofs.lemmas.Bool.Decides.{nat_tests}
use Rattle.std.proofs.lemmas.Nat.Bits.{bit_at-zero, bit_at-lt, bit_at_or, same_from_bits, same_from_bits_below, shr_and_one}
use Rattle.std.specs.Int.{bit_at}
use Rattle.std.specs.List.{list_any, concat}
use Rattle.std.specs.Ordering.{nat_cmp}
use Rattle.std.specs.Cmp.{nat_cmp_total}
use Rattle.std.specs.FinSet.{FinSet, empty, contains, insert, from_list, contains-empty, contains-union}
use Rattle.bloom.specs.Filter.{has_bit, set_bits, with_bits, admits, filter_of}
use Rattle.record_pages.proofs.public_laws.PassingLaws.{same_numbers, contains-insert_nat, joins}
use Rattle.bloom.proofs.BitLaws.{contains-set_bits, has_bit-set}

-- each of four words of zeros is zero
get_or-zeros : (k : ℕ) → ◌≡◌ {A = ℕ} (get_or (0 ∷ 0 ∷ 0 ∷ 0 ∷ []) k 0) 0
get_or-zeros zero = refl
get_or-zeros (suc zero) = refl
get_or-zeros (suc (suc zero)) = refl
get_or-zeros (suc (suc (suc zero))) = refl
get_or-zeros (suc (suc (suc (suc k)))) = refl

-- words of zeros have no bit
has_bit-zeros : (q : ℕ) → has_bit (0 ∷ 0 ∷ 0 ∷ 0 ∷ []) q ≡ false
has_bit-zeros q = rw (get_or-zeros (q / 64), bit_at-zero (q % 64)) refl

-- the set of the bits of words of zeros is empty
pub set_bits-zeros : set_bits (0 ∷ 0 ∷ 0 ∷ 0 ∷ []) ≡ empty
set_bits-zeros = same_numbers _ _ (λ q. contains-set_bits _ q ∙ and_right (ltb q 256) _ (has_bit-zeros q) ∙ sym (contains-empty nat_cmp q))

-- a word of a filter with no bit has none
word-none : (words : List ℕ) (k : ℕ) → k < 4 → get_or words k 0 < 2 ^ 64 → set_bits words ≡ empty → get_or words k 0 ≡ 0
word-none words k within range none = same_from_bits_below 64 (get_or words k 0) 0 range (lit< tt) (λ i below. zero_at i below ∙ sym (bit_at-zero i))
  where
    at : (i : ℕ) → i < 64 → (ltb (k * 64 + i) 256 && eqb (bit_at (get_or words ((k * 64 + i) / 64) 0) ((k * 64 + i) % 64)) 1) ≡ false
    at i below = sym (contains-set_bits words (k * 64 + i)) ∙ ap (λ s. contains s (k * 64 + i)) none ∙ contains-empty nat_cmp (k * 64 + i)

    zero_at : (i : ℕ) → i < 64 → bit_at (get_or words k 0) i ≡ 0
    zero_at i below =
        let word : (k * 64 + i) / 64 ≡ k = omega arith in
        let bit : (k * 64 + i) % 64 ≡ i = omega arith in
        let here : (true && eqb (bit_at (get_or words k 0) i) 1) ≡ false =
        sym (rw (word, bit, lt-ltb (k * 64 + i) 256 (omega arith)) refl) ∙ at i below in
        let small = bit_at-lt (get_or words k 0) i in
        grind (arith, nat_tests)

-- numbers of which no bit is one
or-zero : (a b : ℕ) → bit_or a b ≡ 0 → (a ≡ 0) × (b ≡ 0)
or-zero a b none = (same_from_bits a 0 (λ i. here i ∙ sym (bit_at-zero i)), same_from_bits b 0 (λ i. there i ∙ sym (bit_at-zero i)))
  where
    both : (i : ℕ) → max (bit_at a i) (bit_at b i) ≡ 0
    both i = sym (bit_at_or a b i) ∙ ap (λ n. bit_at n i) none ∙ bit_at-zero i

    here : (i : ℕ) → bit_at a i ≡ 0
    here i = let h = both i in omega arith

    there : (i : ℕ) → bit_at b i ≡ 0
    there i = let h = both i in omega arith

-- words of which each is zero
zeros-from : (words : List ℕ) → length words ≡ 4 → get_or words 0 0 ≡ 0 → get_or words 1 0 ≡ 0 → get_or words 2 0 ≡ 0 → get_or words 3 0 ≡ 0 → words ≡ 0 ∷ 0 ∷ 0 ∷ 0 ∷ []
zeros-from [] len first second third fourth = absurd (omega arith)
zeros-from (a ∷ []) len first second third fourth = absurd (omega arith)
zeros-from (a ∷ b ∷ []) len first second third fourth = absurd (omega arith)
zeros-from (a ∷ b ∷ c ∷ []) len first second third fourth = absurd (omega arith)
zeros-from (a ∷ b ∷ c ∷ d ∷ []) len first second third fourth = cc
zeros-from (a ∷ b ∷ c ∷ d ∷ e ∷ more) len first second third fourth = absurd (omega arith)

-- the test of four words tells whether the set of their bits is empty
pub tells-empty : (words : List ℕ) → length words ≡ 4 → get_or words 0 0 < 2 ^ 64 → get_or words 1 0 < 2 ^ 64 → get_or words 2 0 < 2 ^ 64 → get_or words 3 0 < 2 ^ 64 →
    eqb (bit_or (bit_or (bit_or (get_or words 0 0) (get_or words 1 0)) (get_or words 2 0)) (get_or words 3 0)) 0 ≡ true ↔ set_bits words ≡ empty
tells-empty words len first second third fourth =
    let zeros : (bit_or (bit_or (bit_or (get_or words 0 0) (get_or words 1 0)) (get_or words 2 0)) (get_or words 3 0) ≡ 0) → set_bits words ≡ empty =
    λ none.
    let last = or-zero _ _ none in
    let before = or-zero _ _ last.0 in
    let front = or-zero _ _ before.0 in
    ap set_bits (zeros-from words len front.0 front.1 before.1 last.1) ∙ set_bits-zeros in
    let back : set_bits words ≡ empty → eqb (bit_or (bit_or (bit_or (get_or words 0 0) (get_or words 1 0)) (get_or words 2 0)) (get_or words 3 0)) 0 ≡ true =
    λ none. rw (word-none words 0 (lit< tt) first none, word-none words 1 (lit< tt) second none, word-none words 2 (lit< tt) third none, word-none words 3 (lit< tt) fourth none) refl in
    ((λ t. zeros (eqb-true _ 0 t)), back)

-- a bit joins the set if it is set in its word
pub set_bits-set : (words : List ℕ) (bit : ℕ) → length words ≡ 4 → bit < 256 →
    set_bits (set words (bit / 64) (bit_or (get_or words (bit / 64) 0) (1 * 2 ^ (bit % 64) % 2 ^ 64))) ≡ insert (set_bits words) bit
set_bits-set words bit len in_range =
    same_numbers _ _ (λ q.
    contains-set_bits _ q
    ∙ joins (ltb q 256) (eqb q bit) (has_bit words q) _ (λ e. lt-ltb q 256 (subst (λ n. n < 256) (sym (eqb-true q bit e)) in_range)) (has_bit-set words bit q len in_range)
    ∙ sym (contains-insert_nat _ bit q ∙ ap (λ b. eqb q bit || b) (contains-set_bits words q)))

-- the test of a bit in its word tells whether it is in the set
pub contains-at : (words : List ℕ) (bit : ℕ) → bit < 256 → eqb (bit_and (get_or words (bit / 64) 0 / 2 ^ (bit % 64)) 1) 1 ≡ contains (set_bits words) bit
contains-at words bit in_range = rw (shr_and_one (get_or words (bit / 64) 0) (bit % 64)) (sym (contains-set_bits words bit ∙ ap (λ b. b && has_bit words bit) (lt-ltb bit 256 in_range)))

-- what is among the numbers of a list
contains-numbers : (ks : List ℕ) (q : ℕ) → contains (from_list {R = nat_cmp} ks) q ≡ list_any (eqb q) ks
contains-numbers [] q = contains-empty nat_cmp q
contains-numbers (k ∷ ks) q = contains-insert_nat _ k q ∙ ap (λ b. eqb q k || b) (contains-numbers ks q)

-- what is among a filter's bits and these
contains-with_bits : (filter : FinSet nat_cmp) (probes : List ℕ) (q : ℕ) → contains (with_bits filter probes) q ≡ (contains filter q || list_any (eqb q) probes)
contains-with_bits filter probes q = contains-union nat_cmp_total filter (from_list probes) q ∙ ap (λ b. contains filter q || b) (contains-numbers probes q)

or-none : (b : Bool) → (b || false) ≡ b
or-none true = refl
or-none false = refl

or-push : (filter before here : Bool) → (here || (filter || before)) ≡ (filter || (before || (here || false)))
or-push true before true = refl
or-push true before false = refl
or-push false true true = refl
or-push false true false = refl
or-push false false true = refl
or-push false false false = refl

-- no bit added leaves a filter
pub with_bits-none : (filter : FinSet nat_cmp) → filter ≡ with_bits filter []
with_bits-none filter = same_numbers _ _ (λ q. sym (contains-with_bits filter [] q ∙ or-none (contains filter q)))

-- one bit more
pub with_bits-push : (filter : FinSet nat_cmp) (probes : List ℕ) (probe : ℕ) → insert (with_bits filter probes) probe ≡ with_bits filter (probes ++ probe ∷ [])
with_bits-push filter probes probe =
    same_numbers _ _ (λ q.
    contains-insert_nat _ probe q
    ∙ ap (λ b. eqb q probe || b) (contains-with_bits filter probes q)
    ∙ or-push (contains filter q) (list_any (eqb q) probes) (eqb q probe)
    ∙ sym (contains-with_bits filter (probes ++ probe ∷ []) q ∙ ap (λ b. contains filter q || b) (list_any-append (eqb q) probes (probe ∷ []))))

-- a filter has each bit that was added
added_among : (filter : FinSet nat_cmp) (probes some : List ℕ) → ((q : ℕ) → list_any (eqb q) some ≡ true → list_any (eqb q) probes ≡ true) → admits (with_bits filter probes) some ≡ true
added_among filter probes [] within = refl
added_among filter probes (p ∷ ps) within =
    let here : contains (with_bits filter probes) p ≡ true = contains-with_bits filter probes p ∙ or_right (contains filter p) _ (within p (or_left_true (eqb p p) _ (eq-eqb p p refl))) in
    and_from _ _ here (added_among filter probes ps (λ q h. within q (or_right (eqb q p) _ h)))
  where
    or_left_true : (a b : Bool) → a ≡ true → (a || b) ≡ true
    or_left_true true b is = refl
    or_left_true false b is = absurd (false≢true is)

-- what was added is admitted
pub admits-added : (filter : FinSet nat_cmp) (probes : List ℕ) → admits (with_bits filter probes) probes ≡ true
admits-added filter probes = added_among filter probes probes (λ q h. h)

-- what was admitted stays admitted
pub admits-kept : (filter : FinSet nat_cmp) (probes others : List ℕ) → admits filter others ≡ true → admits (with_bits filter probes) others ≡ true
admits-kept filter probes [] was = refl
admits-kept filter probes (p ∷ ps) was =
    let parts = and_parts (contains filter p) (admits filter ps) was in
    let here : contains (with_bits filter probes) p ≡ true = contains-with_bits filter probes p ∙ or_left (contains filter p) _ parts.0 in
    and_from _ _ here (admits-kept filter probes ps parts.1)

concat-push : (asked : List (List ℕ)) (probes : List ℕ) → concat (asked ++ probes ∷ []) ≡ concat asked ++ probes
concat-push [] probes = append-nil probes
concat-push (x ∷ xs) probes = ap (λ ys. x ++ ys) (concat-push xs probes) ∙ sym (append_assoc x (concat xs) probes)

-- the filter that has just the bits that some ask for, and then these bits, has just the bits that all of these ask for
pub filter_of-push : (asked : List (List ℕ)) (probes : List ℕ) → with_bits (filter_of asked) probes ≡ filter_of (asked ++ probes ∷ [])
filter_of-push asked probes =
    same_numbers _ _ (λ q.
    contains-with_bits (filter_of asked) probes q
    ∙ ap (λ b. b || list_any (eqb q) probes) (contains-numbers (concat asked) q)
    ∙ sym (contains-numbers (concat (asked ++ probes ∷ [])) q ∙ ap (list_any (eqb q)) (concat-push asked probes) ∙ list_any-append (eqb q) (concat asked) probes))
