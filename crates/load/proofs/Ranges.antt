-- What the test of a setting's range says, and what the parse of a text says of the number that it writes.
use Rattle.std.proofs.Common.{◌≡◌, ◌<◌, ◌≤◌, ◌+◌, ◌++◌, ◌^◌, ℕ, zero, suc, Bool, true, false, ◌&&◌, List, [], ◌∷◌, length, Some, None, nat_le, nat_lt, refl, sym, ap, ◌∙◌, arith, drop, drop-cons, get_or, length-append, subst, if◌then◌else◌}
use Rattle.std.proofs.Math.ListN.{get_or-append}
use Rattle.std.proofs.lemmas.Grind.{common_steps}
use Rattle.std.proofs.lemmas.List.{drop_all}
use borrow.Author.Tests.{lt-ltb, ltb-true}
use Rattle.std.specs.Char.{digit_value}
use Rattle.std.specs.List.{list_all}
use Rattle.std.specs.Str.Parse.{AllDigits, IsNumeral, digits_value, without_leading_plus}
use Rattle.load.specs.declared.setting.Setting.{Setting}
use Rattle.load.specs.declared.setting.Setting.TheVariants.{Lanes, Sets, Memory, Segments, SegmentPages, Entries, Threshold, Admit, Callers, Operations, Keys, ValueBytes, Gets, Removes, Workers, Seed, Ttl, Shards, Leases, BringBack, ServedOperations, ServedKeys, ServedValueBytes, ServedTtl, Seconds}
use Rattle.load.specs.Settings.{AreAdmitted, is_admitted, is_decimal, most_bytes, row_of, value_of_text}

both : (a b : Bool) → (a && b) ≡ true → (a ≡ true) × (b ≡ true)
both true b h = (refl, h)
both false b h = absurd cc

pub least : (l g n : ℕ) → (nat_le l n && nat_le n g) ≡ true → l ≤ n
least l g n h = let k = (both (nat_le l n) (nat_le n g) h).0 in grind (arith, common_steps)

pub greatest : (l g n : ℕ) → (nat_le l n && nat_le n g) ≡ true → n ≤ g
greatest l g n h = let k = (both (nat_le l n) (nat_le n g) h).1 in grind (arith, common_steps)

-- no setting may be more than a number of 32 bits
pub small : (setting : Setting) → (row_of setting).range.greatest < 2 ^ 32
small Lanes = omega arith
small Sets = omega arith
small Memory = omega arith
small Segments = omega arith
small SegmentPages = omega arith
small Entries = omega arith
small Threshold = omega arith
small Admit = omega arith
small Callers = omega arith
small Operations = omega arith
small Keys = omega arith
small ValueBytes = omega arith
small Gets = omega arith
small Removes = omega arith
small Workers = omega arith
small Seed = omega arith
small Ttl = omega arith
small Shards = omega arith
small Leases = omega arith
small BringBack = omega arith
small ServedOperations = omega arith
small ServedKeys = omega arith
small ServedValueBytes = omega arith
small ServedTtl = omega arith
small Seconds = omega arith

digits : (ds : List ℕ) → AllDigits 10 ds → list_all (λ c. nat_lt (digit_value c) 10) ds ≡ true
digits [] h = refl
digits (c ∷ cs) h = rw (lt-ltb (digit_value c) 10 h.0) (digits cs h.1)

undigits : (ds : List ℕ) → list_all (λ c. nat_lt (digit_value c) 10) ds ≡ true → AllDigits 10 ds
undigits [] h = tt
undigits (c ∷ cs) h =
    let parts = both (nat_lt (digit_value c) 10) _ h in
    (ltb-true _ _ parts.0, undigits cs parts.1)

numeral : (text : List ℕ) → IsNumeral 10 (without_leading_plus text) → is_decimal text ≡ true
numeral text h = rw (lt-ltb 0 (length (without_leading_plus text)) h.0) (digits (without_leading_plus text) h.1)

unnumeral : (text : List ℕ) → is_decimal text ≡ true → IsNumeral 10 (without_leading_plus text)
unnumeral text h = let parts = both (nat_lt 0 (length (without_leading_plus text))) _ h in (ltb-true _ _ parts.0, undigits _ parts.1)

module _ (test : ℕ → Bool) (most : ℕ) (text : List ℕ) where
  -- a number that was read is given if it passes
  pub read : (n : ℕ) → (IsNumeral 10 (without_leading_plus text) × (digits_value 10 (without_leading_plus text) < most)) × (n ≡ value_of_text text) → test n ≡ true → Some n ≡ (if is_decimal text && test (value_of_text text) then Some (value_of_text text) else None)
  read n h passes =
      let decimal = numeral text h.0.0 in
      let is : n ≡ value_of_text text = h.1 in
      let passes' : test (value_of_text text) ≡ true = ap test (sym is) ∙ passes in
      rw (decimal, passes') (ap Some is)

  -- and none if it does not
  pub out : (n : ℕ) → (IsNumeral 10 (without_leading_plus text) × (digits_value 10 (without_leading_plus text) < most)) × (n ≡ value_of_text text) → test n ≡ false → None ≡ (if is_decimal text && test (value_of_text text) then Some (value_of_text text) else None)
  out n h fails =
      let decimal = numeral text h.0.0 in
      let is : n ≡ value_of_text text = h.1 in
      let fails' : test (value_of_text text) ≡ false = ap test (sym is) ∙ fails in
      rw (decimal, fails') refl

  refused_by : (d a : Bool) → is_decimal text ≡ d → test (value_of_text text) ≡ a → (d ≡ true → a ≡ true → ⊥) → None ≡ (if is_decimal text && test (value_of_text text) then Some (value_of_text text) else None)
  refused_by true true is_d is_a never = absurd (never refl refl)
  refused_by true false is_d is_a never = rw (is_d, is_a) refl
  refused_by false true is_d is_a never = rw is_d refl
  refused_by false false is_d is_a never = rw is_d refl

  -- a text that is not read gives none, if what passes could be read
  pub unread : ((n : ℕ) → test n ≡ true → n < most) → ¬ (IsNumeral 10 (without_leading_plus text) × (digits_value 10 (without_leading_plus text) < most)) → None ≡ (if is_decimal text && test (value_of_text text) then Some (value_of_text text) else None)
  unread small h = refused_by _ _ refl refl (λ d a. h (unnumeral text d, small (value_of_text text) a))

-- what a setting may be is a number of 32 bits
pub small_number : (setting : Setting) (n : ℕ) → is_admitted setting n ≡ true → n < 2 ^ 32
small_number setting n a =
    let most = greatest (row_of setting).range.least (row_of setting).range.greatest n a in
    let few = small setting in
    omega (arith, most, few)

-- and what a size may be is one of 64
pub small_bytes : (n : ℕ) → nat_le n most_bytes ≡ true → n < 2 ^ 64
small_bytes n a = let most : n ≤ most_bytes = grind (arith, common_steps) in omega (arith, most)

-- the number at each place is in the range of the setting there
pub within : (settings : List Setting) (numbers : List ℕ) → AreAdmitted settings numbers → (place : ℕ) → place < length settings → ((row_of (get_or settings place Lanes)).range.least ≤ get_or numbers place 0) × (get_or numbers place 0 ≤ (row_of (get_or settings place Lanes)).range.greatest)
within settings numbers h place less = (least _ _ _ (h place less), greatest _ _ _ (h place less))

-- numbers that are admitted for settings are admitted for those that come first
pub in_front : (front rest : List Setting) (numbers : List ℕ) → AreAdmitted (front ++ rest) numbers → AreAdmitted front numbers
in_front front rest numbers h = λ place less.
    let all : place < length (front ++ rest) = omega (arith, length-append front rest, less) in
    subst (λ (s : Setting). is_admitted s (get_or numbers place 0) ≡ true) (get_or-append front rest Lanes place less) (h place all)

-- the numbers at this many places from one on
abbrev pub places : List ℕ → ℕ → ℕ → List ℕ
places xs start zero = []
places xs start (suc count) = get_or xs start 0 ∷ places xs (suc start) count

-- a list is what lies at its places
pub placed : (xs : List ℕ) (start count : ℕ) → start + count ≡ length xs → drop start xs ≡ places xs start count
placed xs start zero e = drop_all start xs (omega arith)
placed xs start (suc count) e = drop-cons xs start 0 (omega arith) ∙ ap (λ rest. get_or xs start 0 ∷ rest) (placed xs (suc start) count (omega arith))
