-- The writes and the calls before a place.
use Rattle.std.proofs.Common.{◌≡◌, ℕ, zero, suc, ◌+◌, ◌<◌, ◌≤◌, List, ◌⊎◌, inl, inr, refl, sym, ap, subst, ◌∙◌, arith, length, Some}
use Rattle.std.specs.Prelude.{slice_get}
use Rattle.std.proofs.lemmas.Option.{slice_get_within}
use Rattle.trace_file.specs.declared.call.Call.{Call}
use Rattle.history_picture.specs.Places.{NoneWrites, WritesKeyOf, NonePreceded, PrecedesAt}

same_some : (a b : ℕ) → Some a ≡ Some b → a ≡ b
same_some a b e = cc

-- a number is another, or below it
at_or_below : (a b : ℕ) → a ≤ b → (a ≡ b) ⊎ (a + 1 ≤ b)
at_or_below zero zero le = inl refl
at_or_below zero (suc b) le = inr (omega arith)
at_or_below (suc a) zero le = absurd (omega arith)
at_or_below (suc a) (suc b) le = elim (at_or_below a b (omega arith)) [ inl e ↦ inl (ap suc e) | inr h ↦ inr (omega (arith, h)) ]

-- no place stands after the last one
pub none_behind : (history : List Call) (certificate : List ℕ) (from below hit : ℕ) → (below ≤ from) ⊎ (length certificate ≤ from) → NoneWrites history certificate from below hit
none_behind history certificate from below hit (inl over) = λ place position low high at writes. absurd (omega arith)
none_behind history certificate from below hit (inr over) = λ place position low high at writes. let within = slice_get_within certificate place position at in absurd (omega (arith, within))

-- one place more, before the others, has no write of the key
pub none_writes_more : (history : List Call) (certificate : List ℕ) (from below hit position : ℕ) → slice_get certificate from ≡ Some position → ¬ WritesKeyOf history hit position → NoneWrites history certificate (from + 1) below hit → NoneWrites history certificate from below hit
none_writes_more history certificate from below hit position at none rest = λ place other low high found writes. elim (at_or_below from place low) [
  | inl same ↦ none (subst (WritesKeyOf history hit) (same_some other position (sym found ∙ ap (slice_get certificate) (sym same) ∙ at)) writes)
  | inr more ↦ rest place other more high found writes
]

-- no place stands before the first one
pub none_before : (history : List Call) (certificate : List ℕ) (call : ℕ) → NonePreceded history certificate 0 call
none_before history certificate call = λ place position less at precedes. absurd (omega arith)

-- one place more is not preceded
pub none_preceded_more : (history : List Call) (certificate : List ℕ) (below call position : ℕ) → slice_get certificate below ≡ Some position → ¬ PrecedesAt history call position → NonePreceded history certificate below call → NonePreceded history certificate (below + 1) call
none_preceded_more history certificate below call position at none rest = λ place other less found precedes. elim (at_or_below place below (omega arith)) [
  | inl same ↦ none (subst (PrecedesAt history call) (same_some other position (sym found ∙ ap (slice_get certificate) same ∙ at)) precedes)
  | inr more ↦ rest place other (omega (arith, more)) found precedes
]

-- none up to the last place, and none stands after it
pub none_preceded : (history : List Call) (certificate : List ℕ) (upto below call : ℕ) → (below ≤ upto) ⊎ (length certificate ≤ upto) → NonePreceded history certificate upto call → NonePreceded history certificate below call
none_preceded history certificate upto below call (inl over) none = λ place position less at precedes. none place position (omega arith) at precedes
none_preceded history certificate upto below call (inr over) none = λ place position less at precedes. let within : place < length certificate = slice_get_within certificate place position at in none place position (omega (arith, within)) at precedes
