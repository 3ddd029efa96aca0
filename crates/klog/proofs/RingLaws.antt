-- The numbers of segments and their names, and the pages of the ring.
use Rattle.std.proofs.Common.{◌≡◌, ◌≢◌, ℕ, suc, ◌+◌, ◌-◌, ◌*◌, ◌/◌, ◌%◌, ◌<◌, ◌≤◌, inl, inr, sym, ap, ◌∙◌, arith}
use Rattle.std.proofs.Math.Nat.{mul-le-mul_left, mul-add-mod_self_left, mod-eq_of_lt}
use Rattle.std.proofs.lemmas.Bool.{cases_lt}
use Rattle.klog.specs.Log.{LogState}
use Rattle.klog.specs.Names.{names, name_of, number_of, ring_page}
use Rattle.klog.specs.Laws.{NamesTellNumbers}

-- numbers less than n apart leave different remainders
pub mod_distinct : (n s t : ℕ) → 0 < n → t < s → s < t + n → s % n ≡ t % n → ⊥
mod_distinct n s t pos lt near e =
    elim (cases_lt (t / n) (s / n)) [
      | inl l ↦ let le : suc (t / n) ≤ s / n = omega (arith, l) in omega (arith, mul-le-mul_left n le)
      | inr g ↦ omega (arith, mul-le-mul_left n g)
    ]

-- a place in a grid has one row
pub row_is : (w a b p q : ℕ) → p < w → q < w → a * w + p ≡ b * w + q → a ≡ b
row_is w a b p q lp lq e =
    elim (cases_lt a b) [
      | inl l ↦ let le : suc a ≤ b = omega (arith, l) in absurd (omega (arith, mul-le-mul_left w le))
      | inr g ↦ elim (cases_lt b a) [
        | inl l ↦ let le : suc b ≤ a = omega (arith, l) in absurd (omega (arith, mul-le-mul_left w le))
        | inr h ↦ omega arith
      ]
    ]

-- the remainder of a multiple and less
rest_of : (n q d x : ℕ) → d < n → x ≡ n * q + d → x % n ≡ d
rest_of n q d x lt e = ap (λ (m : ℕ). m % n) e ∙ mul-add-mod_self_left n q d ∙ mod-eq_of_lt lt

-- how far a number is after the first one, by their remainders
behind_by : (n first d : ℕ) → d < n → ((first + d) % n + (n - first % n)) % n ≡ d
behind_by n first d lt =
    elim (cases_lt (first % n + d) n) [
      | inl below ↦
          let a : (first + d) % n ≡ first % n + d = rest_of n (first / n) (first % n + d) (first + d) below (omega arith) in
          rest_of n 1 d ((first + d) % n + (n - first % n)) lt (omega (arith, a))
      | inr past ↦
          let a : (first + d) % n ≡ first % n + d - n = rest_of n (first / n + 1) (first % n + d - n) (first + d) (omega arith) (omega arith) in
          rest_of n 0 d ((first + d) % n + (n - first % n)) lt (omega (arith, a))
    ]

-- the name of the number that has a name, of those from the first one on
back_to : (n first name : ℕ) → name < n → (first + (name + (n - first % n)) % n) % n ≡ name
back_to n first name lt =
    elim (cases_lt name (first % n)) [
      | inl below ↦
          let a : (name + (n - first % n)) % n ≡ name + (n - first % n) = mod-eq_of_lt (omega arith) in
          rest_of n (first / n + 1) name (first + (name + (n - first % n)) % n) lt (omega (arith, a))
      | inr from ↦
          let a : (name + (n - first % n)) % n ≡ name - first % n = rest_of n 1 (name - first % n) (name + (n - first % n)) (omega arith) (omega arith) in
          rest_of n (first / n) name (first + (name + (n - first % n)) % n) lt (omega (arith, a))
    ]

-- a segment that is held is found by its name
pub number_again : (k : LogState) (n : ℕ) → k.first ≤ n → n < k.first + names k → number_of k (name_of k n) ≡ n
number_again k n from to =
    let same : k.first + (n - k.first) ≡ n = omega arith in
    ap (λ (m : ℕ). k.first + (m % names k + (names k - k.first % names k)) % names k) (sym same)
    ∙ ap (λ (m : ℕ). k.first + m) (behind_by (names k) k.first (n - k.first) (omega arith)) ∙ same

-- a name is the name of its number
pub name_again : (k : LogState) (name : ℕ) → name < names k → name_of k (number_of k name) ≡ name
name_again k name lt = back_to (names k) k.first name lt

-- the numbers of segments are those from the first one on
pub number_from : (k : LogState) (name : ℕ) → k.first ≤ number_of k name
number_from k name = omega arith

-- so a name tells the number of the one segment that has it
pub names_tell : NamesTellNumbers
names_tell k name lt = (number_from k name, below, name_again k name lt, λ n from to named. sym (number_again k n from to) ∙ ap (number_of k) named)
  where
    below : number_of k name < k.first + names k
    below = omega arith

-- another segment that is held lies elsewhere in the ring
pub other_segment : (k : LogState) (n m p q : ℕ) → 0 < k.shape.segments → p < k.shape.segment_pages → q < k.shape.segment_pages → m < n → n < m + k.shape.segments → ring_page k m p ≢ ring_page k n q
other_segment k n m p q some lp lq below near = λ same.
    mod_distinct k.shape.segments n m some below near (sym (row_is k.shape.segment_pages (m % k.shape.segments) (n % k.shape.segments) p q lp lq same))

-- another page of the same segment lies elsewhere
pub other_page : (k : LogState) (n p q : ℕ) → p ≢ q → ring_page k n p ≢ ring_page k n q
other_page k n p q differ = λ same. differ (omega (arith, same))
