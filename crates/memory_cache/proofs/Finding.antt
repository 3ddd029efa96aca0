-- What the map finds and takes out is what the list of pairs says.
use Rattle.std.proofs.Common.{◌≡◌, ◌≢◌, ◌<◌, ◌+◌, ℕ, false, List, [], ◌∷◌, length, map, Some, None, sym, ap, ◌∙◌, refl, subst, inl, inr, arith, zero, suc}
use Rattle.std.specs.Prelude.{AllPairs, slice_get, option_map}
use Rattle.std.specs.List.{AllByRecursion, IsDistinct}
use Rattle.std.specs.Map.{keys_of, lookup, lookup_entry, remove_entry}
use Rattle.std.specs.Str.{bytes_eq}
use Rattle.std.specs.Cmp.Lexicographic.{bytes_decides}
use Rattle.std.proofs.Math.ListN.{get_or-map}
use Rattle.std.proofs.lemmas.Bool.{cases_Bool}
use Rattle.std.proofs.lemmas.List.{length-map}
use Rattle.std.proofs.lemmas.Map.Keys.{IsDistinct-head, IsDistinct-tail}
use Rattle.std.proofs.lemmas.Map.Made.{AllPairs-from_IsDistinct}
use Rattle.memory_cache.specs.declared.pair.Pair.{Pair}
use Rattle.memory_cache.specs.MemoryList.{without, pair_in, value_in}
use Rattle.memory_cache.specs.Entries.{pair_of}
use Rattle.record_pages.specs.declared.timed_value.TimedValue.{TimedValue}

-- an entry of the map
abbrev pub Entry : Type 0
Entry = List ℕ × TimedValue

-- no key is this one
abbrev pub IsAbsent : List ℕ → List Entry → Type 0
IsAbsent key es = AllByRecursion (λ k. bytes_eq key k ≡ false) (keys_of es)

module _ (key : List ℕ) where
  pub value_found : (es : List Entry) → lookup (bytes_eq key) es ≡ value_in key (map pair_of es)
  value_found [] = refl
  value_found (e ∷ es) = elim (cases_Bool (bytes_eq key e.0)) [
    | inl same ↦ rw same refl
    | inr other ↦ rw other (value_found es)
  ]

  pub pair_found : (es : List Entry) → option_map pair_of (lookup_entry (bytes_eq key) es) ≡ pair_in key (map pair_of es)
  pair_found [] = refl
  pair_found (e ∷ es) = elim (cases_Bool (bytes_eq key e.0)) [
    | inl same ↦ rw same refl
    | inr other ↦ rw other (pair_found es)
  ]

  pub value_of_entry : (es : List Entry) → lookup (bytes_eq key) es ≡ option_map (λ (e : Entry). e.1) (lookup_entry (bytes_eq key) es)
  value_of_entry [] = refl
  value_of_entry (e ∷ es) = elim (cases_Bool (bytes_eq key e.0)) [
    | inl same ↦ rw same refl
    | inr other ↦ rw other (value_of_entry es)
  ]

  pub absent : (es : List Entry) → lookup_entry (bytes_eq key) es ≡ None → IsAbsent key es
  absent [] none = tt
  absent (e ∷ es) none = elim (cases_Bool (bytes_eq key e.0)) [
    | inl same ↦ let is : Some e ≡ None = sym (rw same refl) ∙ none in cc
    | inr other ↦ (other, absent es (sym (rw other refl) ∙ none))
  ]

  -- nothing goes if the key is absent
  pub without_absent : (es : List Entry) → IsAbsent key es → without key (map pair_of es) ≡ map pair_of es
  without_absent [] none = refl
  without_absent (e ∷ es) none = rw none.0 (ap (λ ps. pair_of e ∷ ps) (without_absent es none.1))

  -- the one pair of the key goes
  pub removed : (es : List Entry) → IsDistinct bytes_eq (keys_of es) → map pair_of (remove_entry (bytes_eq key) es) ≡ without key (map pair_of es)
  removed [] apart = refl
  removed (e ∷ es) apart = elim (cases_Bool (bytes_eq key e.0)) [
    | inl same ↦
        let at : e.0 ≡ key = sym ((bytes_decides key e.0).0 same) in
        let others : IsAbsent key es = subst (λ k. IsAbsent k es) at (IsDistinct-head bytes_eq e.0 (keys_of es) apart) in
        rw same (sym (without_absent es others))
    | inr other ↦ rw other (ap (λ ps. pair_of e ∷ ps) (removed es (IsDistinct-tail bytes_eq e.0 (keys_of es) apart)))
  ]

  -- what is found has the key, and leaves one fewer
  pub found_key : (es : List Entry) (e : Entry) → lookup_entry (bytes_eq key) es ≡ Some e → e.0 ≡ key
  found_key [] e found = cc
  found_key (f ∷ es) e found = elim (cases_Bool (bytes_eq key f.0)) [
    | inl same ↦
        let is : Some f ≡ Some e = sym (rw same refl) ∙ found in
        let one : f ≡ e = cc in
        ap (λ (x : Entry). x.0) (sym one) ∙ sym ((bytes_decides key f.0).0 same)
    | inr other ↦ found_key es e (sym (rw other refl) ∙ found)
  ]

  pub one_fewer : (es : List Entry) (e : Entry) → lookup_entry (bytes_eq key) es ≡ Some e → length (remove_entry (bytes_eq key) es) + 1 ≡ length es
  one_fewer [] e found = cc
  one_fewer (f ∷ es) e found = elim (cases_Bool (bytes_eq key f.0)) [
    | inl same ↦ rw same (omega arith)
    | inr other ↦ let fewer = one_fewer es e (sym (rw other refl) ∙ found) in rw other (omega (arith, fewer))
  ]

  -- an entry at a place has another key than an absent one
  pub other_at : (es : List Entry) (i : ℕ) (e : Entry) → IsAbsent key es → slice_get es i ≡ Some e → bytes_eq key e.0 ≡ false
  other_at [] i e none at = cc
  other_at (f ∷ es) zero e none at = let one : f ≡ e = cc in ap (λ (x : Entry). bytes_eq key x.0) (sym one) ∙ none.0
  other_at (f ∷ es) (suc i) e none at = other_at es i e none.1 at

keys_are : (es : List Entry) → map (λ (p : Pair). p.key) (map pair_of es) ≡ keys_of es
keys_are [] = refl
keys_are (e ∷ es) = ap (λ ks. e.0 ∷ ks) (keys_are es)

-- keys that are distinct to the map are distinct
pub apart : (es : List Entry) → IsDistinct bytes_eq (keys_of es) → AllPairs (λ (a b : Pair). a.key ≢ b.key) (map pair_of es)
apart es distinct = λ i j d before within.
    let keys = AllPairs-from_IsDistinct bytes_decides (keys_of es) distinct in
    let own = subst (AllPairs (λ (x y : List ℕ). x ≢ y)) (sym (keys_are es)) keys in
    let more : j < length (map (λ (p : Pair). p.key) (map pair_of es)) = rw length-map within in
    let key_at = get_or-map (λ (p : Pair). p.key) (map pair_of es) in
    λ same. own i j d.key before more (key_at i d ∙ same ∙ sym (key_at j d))
