-- One word more has a number.
use Rattle.std.proofs.Common.{◌≡◌, ◌≢◌, ℕ, ◌+◌, Bool, true, false, cond, ◌⊎◌, Option, Some, None, List, refl, sym, ap, ◌∙◌, arith, inl, inr}
use Rattle.std.specs.Str.{bytes_eq}
use Rattle.std.specs.Cmp.Lexicographic.{bytes_decides}
use Rattle.std.proofs.lemmas.Option.{none-some}
use Rattle.trace_file.specs.Numbers.{AreNumbers, KeepsNumbers}

-- the number that a word has after the change: the new one, if it is the new word
is_new : (b : Bool) (n number : ℕ) (old : Option ℕ) → cond b (Some n) old ≡ Some number → ((b ≡ true) × (n ≡ number)) ⊎ (old ≡ Some number)
is_new true n number old e = let same : n ≡ number = cc in inl (refl, same)
is_new false n number old e = inr e

keeps : (b : Bool) (n number : ℕ) (old : Option ℕ) → old ≡ Some number → (b ≡ true → old ≡ None) → cond b (Some n) old ≡ Some number
keeps true n number old e none = absurd (none-some number (sym (none refl) ∙ e))
keeps false n number old e none = e

apart : (b : Bool) (n : ℕ) (old : Option ℕ) → (b ≡ true → ⊥) → cond b (Some n) old ≡ old
apart true n old other = absurd (other refl)
apart false n old other = refl

module _ (old new : List ℕ → Option ℕ) (word : List ℕ) (n : ℕ) (change : (q : List ℕ) → new q ≡ cond (bytes_eq word q) (Some n) (old q)) where
  is_word : (q : List ℕ) → bytes_eq word q ≡ true → word ≡ q
  is_word q h = (bytes_decides word q).0 h

  pub keeps_numbers : old word ≡ None → KeepsNumbers old new
  keeps_numbers fresh q number has =
      change q ∙ keeps (bytes_eq word q) n number (old q) has (λ same. ap old (sym (is_word q same)) ∙ fresh)

  pub keeps_other : (q : List ℕ) → q ≢ word → new q ≡ old q
  keeps_other q other =
      change q ∙ apart (bytes_eq word q) n (old q) (λ same. other (sym (is_word q same)))

  pub are_numbers : AreNumbers old n → AreNumbers new (n + 1)
  are_numbers known = record {
    below = λ q number has. elim (is_new _ n number (old q) (sym (change q) ∙ has)) [
      | inl now ↦ let same : n ≡ number = now.1 in omega arith
      | inr before ↦ let less = known.below q number before in omega arith
    ];
    apart = λ q r number one other.
        elim (is_new _ n number (old q) (sym (change q) ∙ one)) [
          | inl now ↦ elim (is_new _ n number (old r) (sym (change r) ∙ other)) [
            | inl late ↦ sym (is_word q now.0) ∙ is_word r late.0
            | inr before ↦ let less = known.below r number before in let same : n ≡ number = now.1 in absurd (omega arith)
          ]
          | inr past ↦ elim (is_new _ n number (old r) (sym (change r) ∙ other)) [
            | inl late ↦ let less = known.below q number past in let same : n ≡ number = late.1 in absurd (omega arith)
            | inr before ↦ known.apart q r number past before
          ]
        ];
  }
