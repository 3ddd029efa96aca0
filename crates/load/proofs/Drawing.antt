-- The operation and the generator after the words that were drawn, by the word of the kind.
use Rattle.std.proofs.Common.{◌≡◌, ◌<◌, ◌≤◌, ◌+◌, ◌%◌, ℕ, true, false, nat_lt, refl, sym, ap, ap₂, ◌∙◌, arith, inl, inr}
use Rattle.std.proofs.lemmas.Bool.{cases_Bool}
use borrow.Author.Tests.{lt-ltb, ltb-true}
use Rattle.rand_pcg.specs.Lcg.{Lcg}
use Rattle.rand_pcg.specs.Pcg.{pcg32}
use Rattle.history_recorder.specs.declared.operation.Operation.TheVariants.{Get, Put, Remove}
use Rattle.load.specs.declared.load.Load.{Load}
use Rattle.load.specs.Operations.{drawn, drawn_by, expires_of, key_of, moment_of, next_of, past, value_of, word_of}

below : (m n : ℕ) → m < n → nat_lt m n ≡ true
below m n less = lt-ltb m n less

above : (m n : ℕ) → n ≤ m → nat_lt m n ≡ false
above m n more = elim (cases_Bool (nat_lt m n)) [
  | inl less ↦ let is = ltb-true m n less in absurd (omega (arith, more, is))
  | inr other ↦ other
]

module _ (load : Load) (caller number : ℕ) (g first second : Lcg) (kind key : ℕ) (of_kind : (kind, first) ≡ pcg32 g) (of_key : (key, second) ≡ pcg32 first) where
  -- the words were the generator's next two
  by_words : next_of load caller number g ≡ drawn_by load caller number kind key second
  by_words =
      let one = ap (λ (p : ℕ × Lcg). p.0) of_kind in
      let one_on : first ≡ past g = ap (λ (p : ℕ × Lcg). p.1) of_kind in
      let two : key ≡ word_of (past g) = ap (λ (p : ℕ × Lcg). p.0) of_key ∙ ap word_of one_on in
      let two_on : second ≡ past (past g) = ap (λ (p : ℕ × Lcg). p.1) of_key ∙ ap past one_on in
      sym (ap (λ k. drawn_by load caller number k key second) one ∙ ap₂ (drawn_by load caller number (word_of g)) two two_on)

  pub gets : kind % 100 < load.gets → next_of load caller number g ≡ drawn (Get (key_of load key) (moment_of load number)) second
  gets less = by_words ∙ rw (below (kind % 100) load.gets less) refl

  pub removes : load.gets ≤ kind % 100 → kind % 100 < load.gets + load.removes → next_of load caller number g ≡ drawn (Remove (key_of load key)) second
  removes more less = by_words ∙ rw (above (kind % 100) load.gets more, below (kind % 100) (load.gets + load.removes) less) refl

  -- a put drew a third
  pub puts : (word : ℕ) (third : Lcg) → (word, third) ≡ pcg32 second → load.gets ≤ kind % 100 → load.gets + load.removes ≤ kind % 100 → next_of load caller number g ≡ drawn (Put (key_of load key) (value_of load caller number) word (expires_of load number)) third
  puts word third of_word more most =
      let three = ap₂ (λ n past_it. drawn (Put (key_of load key) (value_of load caller number) n (expires_of load number)) past_it) (ap (λ (p : ℕ × Lcg). p.0) of_word) (ap (λ (p : ℕ × Lcg). p.1) of_word) in
      by_words ∙ rw (above (kind % 100) load.gets more, above (kind % 100) (load.gets + load.removes) most) (sym three)
