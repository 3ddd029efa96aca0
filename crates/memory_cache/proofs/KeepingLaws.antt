-- What the calls keep of the pairs in memory.
use Rattle.std.proofs.Common.{◌≡◌, ◌≢◌, ◌<◌, ◌≤◌, ◌-◌, ℕ, zero, suc, true, false, cond, not, List, [], ◌∷◌, length, take, get_or, All, AllPairs, Contains, Option, Some, None, sym, ap, subst, ◌∙◌, refl, inl, inr, arith}
use Rattle.std.specs.Prelude.{slice_get, option_map}
use Rattle.std.specs.Str.{bytes_eq}
use Rattle.std.specs.Cmp.Lexicographic.{bytes_decides}
use Rattle.std.proofs.lemmas.Bool.{cases_Bool, false≢true}
use Rattle.std.proofs.lemmas.List.{length-take, get_or-take}
use Rattle.std.proofs.lemmas.Option.{slice_get_within, get_or_from_slice_get}
use Rattle.std.proofs.lemmas.List.Elements.{All-cons, All-contains, All-contains_itself, All-filter, All-weaker, filter_passes}
use Rattle.std.proofs.lemmas.List.Kept.{AllPairs-cons, AllPairs-filter}
use Rattle.memory_cache.specs.declared.pair.Pair.{Pair}
use Rattle.memory_cache.specs.MemoryList.{MemoryList, IsBounded, without, pair_in, value_in, entered, to_front_by, to_front, after_put, pushed_out, after_get, after_remove}
use Rattle.record_pages.specs.declared.timed_value.TimedValue.{TimedValue}

-- another key than this
abbrev Other : List ℕ → Pair → Type 0
Other key p = key ≢ p.key

-- two pairs have different keys
abbrev Apart : Pair → Pair → Type 0
Apart a b = a.key ≢ b.key

fails-other : (key : List ℕ) (p : Pair) → not (bytes_eq key p.key) ≡ true → Other key p
fails-other key p test same = false≢true (ap not (sym ((bytes_decides key p.key).1 same)) ∙ test)

-- what is left without a key has other keys
pub without_other : (key : List ℕ) (pairs : List Pair) → All (Other key) (without key pairs)
without_other key pairs =
    All-weaker (λ p. not (bytes_eq key p.key) ≡ true) (Other key) (λ p test. fails-other key p test) (without key pairs)
    (filter_passes (λ p. not (bytes_eq key p.key)) pairs)

-- ---- what is true of all pairs

pub all_without : (P : Pair → Type 0) (key : List ℕ) (pairs : List Pair) → All P pairs → All P (without key pairs)
all_without P key pairs all = All-filter (λ p. not (bytes_eq key p.key)) P pairs all

pub all_entered : (P : Pair → Type 0) (pair : Pair) (pairs : List Pair) → P pair → All P pairs → All P (entered pair pairs)
all_entered P pair pairs one all = All-cons P pair (without pair.key pairs) one (all_without P pair.key pairs all)

-- the pair of a key that is found is one of them, and has the key
pub found_held : (key : List ℕ) (pairs : List Pair) (p : Pair) → pair_in key pairs ≡ Some p → Contains pairs p × (p.key ≡ key)
found_held key [] p e = absurd cc
found_held key (x ∷ pairs) p e = elim (cases_Bool (bytes_eq key x.key)) [
  | inl same ↦
      let is : Some x ≡ Some p = sym (rw same refl) ∙ e in
      let one : x ≡ p = cc in
      ((zero, omega arith, one), ap (λ (q : Pair). q.key) (sym one) ∙ sym ((bytes_decides key x.key).0 same))
  | inr other ↦
      let later = found_held key pairs p (sym (rw other refl) ∙ e) in
      ((suc later.0.0, omega (arith, later.0.1), later.0.2), later.1)
]

-- what comes to the front
pub all_to_front : (P : Pair → Type 0) (key : List ℕ) (pairs : List Pair) → All P pairs → All P (to_front key pairs)
all_to_front P key pairs all = by (pair_in key pairs) refl
  where
    by : (o : Option Pair) → pair_in key pairs ≡ o → All P (to_front_by o pairs)
    by None found = all
    by (Some p) found = all_entered P p pairs (All-contains P pairs p all (found_held key pairs p found).0) all

-- ---- distinct keys

pub apart_entered : (pair : Pair) (pairs : List Pair) → AllPairs Apart pairs → AllPairs Apart (entered pair pairs)
apart_entered pair pairs apart =
    AllPairs-cons Apart pair (without pair.key pairs) (without_other pair.key pairs) (AllPairs-filter Apart (λ p. not (bytes_eq pair.key p.key)) pairs apart)

apart_take : (n : ℕ) (pairs : List Pair) → AllPairs Apart pairs → AllPairs Apart (take n pairs)
apart_take n pairs apart = λ i j d before within.
    let short = length-take n pairs in
    subst (λ (a : Pair). Apart a (get_or (take n pairs) j d)) (sym (get_or-take n pairs i d (omega (arith, short))))
    (subst (λ (b : Pair). Apart (get_or pairs i d) b) (sym (get_or-take n pairs j d (omega (arith, short)))) (apart i j d before (omega (arith, short))))

-- ---- how many

few_without : (key : List ℕ) (pairs : List Pair) → length (without key pairs) ≤ length pairs
few_without key [] = omega arith
few_without key (x ∷ pairs) =
    let rest = few_without key pairs in
    elim (bytes_eq key x.key) as (λ b. length (cond (not b) (x ∷ without key pairs) (without key pairs)) ≤ length (x ∷ pairs)) [
      | true ↦ omega (arith, rest)
      | false ↦ omega (arith, rest)
    ]

-- without the key of a pair that is found there are fewer
pub fewer : (key : List ℕ) (pairs : List Pair) (p : Pair) → pair_in key pairs ≡ Some p → length (without p.key pairs) < length pairs
fewer key [] p e = absurd cc
fewer key (x ∷ pairs) p e = elim (cases_Bool (bytes_eq key x.key)) [
  | inl same ↦
      let is : Some x ≡ Some p = sym (rw same refl) ∙ e in
      let one : x ≡ p = cc in
      let its : bytes_eq p.key x.key ≡ true = (bytes_decides p.key x.key).1 (ap (λ (q : Pair). q.key) (sym one)) in
      let rest = few_without p.key pairs in
      rw its (omega (arith, rest))
  | inr other ↦
      let later = fewer key pairs p (sym (rw other refl) ∙ e) in
      elim (bytes_eq p.key x.key) as (λ b. length (cond (not b) (x ∷ without p.key pairs) (without p.key pairs)) < length (x ∷ pairs)) [
        | true ↦ omega (arith, later)
        | false ↦ omega (arith, later)
      ]
]

pub few_to_front : (key : List ℕ) (pairs : List Pair) → length (to_front key pairs) ≤ length pairs
few_to_front key pairs = by (pair_in key pairs) refl
  where
    by : (o : Option Pair) → pair_in key pairs ≡ o → length (to_front_by o pairs) ≤ length pairs
    by None found = omega arith
    by (Some p) found = let less = fewer key pairs p found in omega (arith, less)

apart_to_front : (key : List ℕ) (pairs : List Pair) → AllPairs Apart pairs → AllPairs Apart (to_front key pairs)
apart_to_front key pairs apart = by (pair_in key pairs)
  where
    by : (o : Option Pair) → AllPairs Apart (to_front_by o pairs)
    by None = apart
    by (Some p) = apart_entered p pairs apart

-- ---- the bounds

pub bounded_put : (pair : Pair) (list : MemoryList) → IsBounded list → IsBounded (after_put pair list)
bounded_put pair list b =
    let short = length-take list.capacity (entered pair list.pairs) in
    record { distinct = apart_take list.capacity (entered pair list.pairs) (apart_entered pair list.pairs b.distinct); within = omega (arith, short); roomy = b.roomy }

pub bounded_get : (key : List ℕ) (list : MemoryList) → IsBounded list → IsBounded (after_get key list)
bounded_get key list b =
    let few = few_to_front key list.pairs in
    record { distinct = apart_to_front key list.pairs b.distinct; within = omega (arith, few, b.within); roomy = b.roomy }

pub bounded_remove : (key : List ℕ) (list : MemoryList) → IsBounded list → IsBounded (after_remove key list)
bounded_remove key list b =
    let few = few_without key list.pairs in
    record { distinct = AllPairs-filter Apart (λ p. not (bytes_eq key p.key)) list.pairs b.distinct; within = omega (arith, few, b.within); roomy = b.roomy }

-- ---- what is found, and what is pushed out

pub found_is : (key : List ℕ) (value : TimedValue) (pairs : List Pair) → value_in key pairs ≡ Some value → Contains pairs (record { key = key; value = value })
found_is key value pairs found = by (pair_in key pairs) refl found
  where
    by : (o : Option Pair) → pair_in key pairs ≡ o → option_map (λ (p : Pair). p.value) o ≡ Some value → Contains pairs (record { key = key; value = value })
    by None is e = absurd cc
    by (Some p) is e =
        let held = found_held key pairs p is in
        let its : p.value ≡ value = cc in
        let one : p ≡ record { key = key; value = value } = λ i. record { key = held.1 i; value = its i } in
        subst (λ (q : Pair). Contains pairs q) one held.0

-- one of what is left without a key was there
left_held : (key : List ℕ) (pairs : List Pair) (n : ℕ) (p : Pair) → slice_get (without key pairs) n ≡ Some p → Contains pairs p × (p.key ≢ key)
left_held key pairs n p at =
    let within = slice_get_within (without key pairs) n p at in
    let is : get_or (without key pairs) n p ≡ p = get_or_from_slice_get (without key pairs) n p p at in (
      subst (λ (q : Pair). Contains pairs q) is (All-filter (λ x. not (bytes_eq key x.key)) (Contains pairs) pairs (All-contains_itself pairs) n p within),
      λ same. subst (Other key) is (without_other key pairs n p within) (sym same),
    )

pub pushed_held : (pair out : Pair) (list : MemoryList) → 1 ≤ list.capacity → pushed_out pair list ≡ Some out → Contains list.pairs out × (out.key ≢ pair.key)
pushed_held pair out list roomy is =
    let behind : list.capacity ≡ suc (list.capacity - 1) = omega arith in
    left_held pair.key list.pairs (list.capacity - 1) out (sym (ap (slice_get (entered pair list.pairs)) behind) ∙ is)
