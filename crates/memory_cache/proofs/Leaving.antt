-- Which pair leaves.
use Rattle.std.proofs.Common.{◌≡◌, ◌<◌, ◌≤◌, ◌-◌, ℕ, suc, Bool, ◌||◌, List, [], ◌∷◌, length, Option, Some, None, sym, ap, subst, ◌∙◌, refl, inl, inr, arith}
use Rattle.std.specs.Prelude.{slice_get, option_map, is_some, nat_lt, if◌then◌else◌}
use Rattle.std.specs.Str.{bytes_eq}
use Rattle.std.proofs.lemmas.Bool.{cases_Bool, cases_lt, lt-ltb, lt-leb}
use Rattle.std.proofs.lemmas.Option.{slice_get_past}
use Rattle.memory_cache.specs.declared.pair.Pair.{Pair}
use Rattle.memory_cache.specs.Laws.{PushedOutIsLeaving}
use Rattle.memory_cache.specs.MemoryList.{without, pair_in, entered, pushed_out, last_pair, leaving_for}
use Rattle.memory_cache.proofs.KeepingLaws.{fewer, found_held}

-- nothing goes with a key that has no pair
none_goes : (key : List ℕ) (pairs : List Pair) → pair_in key pairs ≡ None → without key pairs ≡ pairs
none_goes key [] none = refl
none_goes key (x ∷ pairs) none = elim (cases_Bool (bytes_eq key x.key)) [
  | inl same ↦ let is : Some x ≡ None = sym (rw same refl) ∙ none in cc
  | inr other ↦ rw other (ap (λ ps. x ∷ ps) (none_goes key pairs (sym (rw other refl) ∙ none)))
]

pub is_leaving : PushedOutIsLeaving
is_leaving pair list bounded = by (pair_in pair.key list.pairs) refl
  where
    by : (o : Option Pair) → pair_in pair.key list.pairs ≡ o → pushed_out pair list ≡ leaving_for pair.key list
    by (Some p) found =
        let its : p.key ≡ pair.key = (found_held pair.key list.pairs p found).1 in
        let less : length (without pair.key list.pairs) < length list.pairs = subst (λ (k : List ℕ). length (without k list.pairs) < length list.pairs) its (fewer pair.key list.pairs p found) in
        let fits : length (entered pair list.pairs) ≤ list.capacity = omega (arith, less, bounded.within) in
        slice_get_past (entered pair list.pairs) list.capacity fits
        ∙ sym (ap (λ (o : Option Pair). if is_some (option_map (λ (p : Pair). p.value) o) || nat_lt (length list.pairs) list.capacity then None else last_pair list.pairs) found)
    by None found =
        let same : entered pair list.pairs ≡ pair ∷ list.pairs = ap (λ ps. pair ∷ ps) (none_goes pair.key list.pairs found) in
        let more : list.capacity ≡ suc (list.capacity - 1) = omega (arith, bounded.roomy) in
        let out : pushed_out pair list ≡ slice_get list.pairs (list.capacity - 1) = ap (λ ps. slice_get ps list.capacity) same ∙ ap (slice_get (pair ∷ list.pairs)) more in
        let told : leaving_for pair.key list ≡ (if nat_lt (length list.pairs) list.capacity then None else last_pair list.pairs) =
        ap (λ (o : Option Pair). if is_some (option_map (λ (p : Pair). p.value) o) || nat_lt (length list.pairs) list.capacity then None else last_pair list.pairs) found in
        elim (cases_lt (length list.pairs) list.capacity) [
          | inl room ↦
              out ∙ slice_get_past list.pairs (list.capacity - 1) (omega (arith, room))
              ∙ sym (told ∙ ap (λ (t : Bool). if t then None else last_pair list.pairs) (lt-ltb (length list.pairs) list.capacity room))
          | inr full ↦
              let is : list.capacity ≡ length list.pairs = omega (arith, full, bounded.within) in
              out ∙ ap (λ n. slice_get list.pairs (n - 1)) is
              ∙ sym (told ∙ ap (λ (t : Bool). if t then None else last_pair list.pairs) (lt-leb (suc (length list.pairs)) list.capacity (omega (arith, full))))
        ]
