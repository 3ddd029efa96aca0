-- What the parse of a text says of the number of calls that it writes.
use Rattle.std.proofs.Common.{◌≡◌, ◌<◌, ◌≤◌, ◌^◌, ℕ, Bool, true, false, ◌&&◌, List, [], ◌∷◌, length, Some, None, nat_le, nat_lt, refl, sym, ap, ◌∙◌, arith, if◌then◌else◌}
use Rattle.std.proofs.lemmas.Grind.{common_steps}
use borrow.Author.Tests.{lt-ltb, ltb-true}
use Rattle.std.specs.Char.{digit_value}
use Rattle.std.specs.List.{list_all}
use Rattle.std.specs.Str.Parse.{AllDigits, IsNumeral, digits_value, without_leading_plus}
use Rattle.load.specs.Settings.{is_decimal, value_of_text}

both : (a b : Bool) → (a && b) ≡ true → (a ≡ true) × (b ≡ true)
both true b h = (refl, h)
both false b h = absurd cc

digits : (ds : List ℕ) → AllDigits 10 ds → list_all (λ c. nat_lt (digit_value c) 10) ds ≡ true
digits [] h = refl
digits (c ∷ cs) h = rw (lt-ltb (digit_value c) 10 h.0) (digits cs h.1)

undigits : (ds : List ℕ) → list_all (λ c. nat_lt (digit_value c) 10) ds ≡ true → AllDigits 10 ds
undigits [] h = tt
undigits (c ∷ cs) h =
    let parts = both (nat_lt (digit_value c) 10) _ h in
    (ltb-true _ _ parts.0, undigits cs parts.1)

numeral : (text : List ℕ) → IsNumeral 10 (without_leading_plus text) → is_decimal text ≡ true
numeral text h = rw (lt-ltb 0 (length (without_leading_plus text)) h.0) (digits (without_leading_plus text) h.1)

unnumeral : (text : List ℕ) → is_decimal text ≡ true → IsNumeral 10 (without_leading_plus text)
unnumeral text h = let parts = both (nat_lt 0 (length (without_leading_plus text))) _ h in (ltb-true _ _ parts.0, undigits _ parts.1)

module _ (test : ℕ → Bool) (most : ℕ) (text : List ℕ) where
  -- a number that was read is given if it passes
  pub read : (n : ℕ) → (IsNumeral 10 (without_leading_plus text) × (digits_value 10 (without_leading_plus text) < most)) × (n ≡ value_of_text text) → test n ≡ true → Some n ≡ (if is_decimal text && test (value_of_text text) then Some (value_of_text text) else None)
  read n h passes =
      let decimal = numeral text h.0.0 in
      let is : n ≡ value_of_text text = h.1 in
      let passes' : test (value_of_text text) ≡ true = ap test (sym is) ∙ passes in
      rw (decimal, passes') (ap Some is)

  refused_by : (d a : Bool) → is_decimal text ≡ d → test (value_of_text text) ≡ a → (d ≡ true → a ≡ true → ⊥) → None ≡ (if is_decimal text && test (value_of_text text) then Some (value_of_text text) else None)
  refused_by true true is_d is_a never = absurd (never refl refl)
  refused_by true false is_d is_a never = rw (is_d, is_a) refl
  refused_by false true is_d is_a never = rw is_d refl
  refused_by false false is_d is_a never = rw is_d refl

  -- a text that is not read gives none, if what passes could be read
  pub unread : ((n : ℕ) → test n ≡ true → n < most) → ¬ (IsNumeral 10 (without_leading_plus text) × (digits_value 10 (without_leading_plus text) < most)) → None ≡ (if is_decimal text && test (value_of_text text) then Some (value_of_text text) else None)
  unread small h = refused_by _ _ refl refl (λ d a. h (unnumeral text d, small (value_of_text text) a))

-- what is at most a number of 64 bits is one
pub small_most : (most : ℕ) → most < 2 ^ 64 → (n : ℕ) → nat_le n most ≡ true → n < 2 ^ 64
small_most most few n a = let less : n ≤ most = grind (arith, common_steps) in omega (arith, less, few)
