-- A caller's number, by the names as they are kept.
use Rattle.std.proofs.Common.{◌≡◌, ℕ, ◌+◌, ◌<◌, ◌≤◌, Bool, true, false, cond, not, ltb, ◌||◌, List, [], ◌∷◌, ◌++◌, length, Option, Some, None, refl, sym, ap, ◌∙◌, arith, inl, inr}
use Rattle.std.specs.List.{list_any, position_or_len}
use Rattle.std.specs.Str.{bytes_eq}
use Rattle.std.specs.declared.vec.Vec.{Vec}
use Rattle.std.proofs.lemmas.Bool.{cases_Bool}
use Rattle.std.proofs.lemmas.List.{map-append}
use borrow.Author.Tests.{ltb-true, ltb-false}
use Rattle.history_text.specs.Text.{number_of, noted}
use Rattle.history_text.specs.Names.{names_of}

-- a kept name is this one
abbrev pub is : {A : Type 0} → List ℕ → Vec ℕ A → Bool
is name kept = bytes_eq name kept.items

pub number_by : {A : Type 0} (name : List ℕ) (keys : List (Vec ℕ A)) → number_of (names_of keys) name ≡ position_or_len (is name) keys
unfolding number_of
number_by name [] = refl
number_by name (k ∷ ks) = ap (λ n. cond (not (bytes_eq name k.items)) (1 + n) 0) (number_by name ks)

pub any_by : {A : Type 0} (name : List ℕ) (keys : List (Vec ℕ A)) → list_any (bytes_eq name) (names_of keys) ≡ list_any (is name) keys
any_by name [] = refl
any_by name (k ∷ ks) = ap (λ b. bytes_eq name k.items || b) (any_by name ks)

-- the first place that passes, as an option says it
pub some_at : (p n i : ℕ) → Some i ≡ cond (ltb p n) (Some p) None → (i ≡ p) × (p < n)
some_at p n i h = elim (cases_Bool (ltb p n)) [
  | inl within ↦ let e : Some i ≡ Some p = rw within at h in (cc, ltb-true p n within)
  | inr past ↦ let e : Some i ≡ None = rw past at h in cc
]

pub none_at : (p n : ℕ) (o : Option ℕ) → o ≡ None → o ≡ cond (ltb p n) (Some p) None → n ≤ p
none_at p n o none h = elim (cases_Bool (ltb p n)) [
  | inl within ↦ let e : o ≡ Some p = rw within at h in cc
  | inr past ↦ ltb-false p n past
]

pub noted_known : (callers : List (List ℕ)) (name : List ℕ) → list_any (bytes_eq name) callers ≡ true → noted callers name ≡ callers
unfolding noted
noted_known callers name known = rw known refl

pub noted_new : (callers : List (List ℕ)) (name : List ℕ) → list_any (bytes_eq name) callers ≡ false → noted callers name ≡ callers ++ name ∷ []
unfolding noted
noted_new callers name new = rw new refl

pub within : {A : Type 0} (p : A → Bool) (xs : List A) → position_or_len p xs ≤ length xs
within p [] = omega arith
within p (x ∷ xs) = elim (cases_Bool (p x)) [
  | inl found ↦ rw found (omega arith)
  | inr other ↦ let rest = within p xs in rw other (omega (arith, rest))
]

-- a name that is new goes after the others
pub grown : {A : Type 0} (name : List ℕ) (keys new : List (Vec ℕ A)) (value : Vec ℕ A) → value.items ≡ name → list_any (is name) keys ≡ false → new ≡ cond (list_any (is value.items) keys) keys (keys ++ value ∷ []) → names_of new ≡ noted (names_of keys) name
grown name keys new value same absent made =
    let no : list_any (is value.items) keys ≡ false = ap (λ n. list_any (is n) keys) same ∙ absent in
    let all : new ≡ keys ++ value ∷ [] = rw no at made in
    ap names_of all
    ∙ map-append (λ kept. kept.items) keys (value ∷ [])
    ∙ ap (λ n. names_of keys ++ n ∷ []) same
    ∙ sym (noted_new (names_of keys) name (any_by name keys ∙ absent))
