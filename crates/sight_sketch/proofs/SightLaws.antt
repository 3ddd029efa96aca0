-- What was met is seen until the sets have changed twice.
use Rattle.std.proofs.Common.{◌≡◌, ℕ, ◌+◌, ◌≤◌, Bool, true, false, not, ◌&&◌, ◌∷◌, [], List, if◌then◌else◌, refl, sym, ap, subst, arith, inl, inr}
use Rattle.std.proofs.lemmas.Bool.{cases_Bool, or_left, or_right, false≢true}
use Rattle.bloom.specs.Filter.{admits}
use Rattle.bloom.proofs.public_laws.FilterLaws.{admits-added, admits-kept}
use Rattle.sight_sketch.specs.Sketch.{Sights, probes_of, is_seen, is_last, changes, noted_by, noted}
use Rattle.sight_sketch.specs.Laws.{all_noted, change_count, MetIsSeen}

-- ---- one key, by whether its bits are there and whether it is the last before the sets change

size_by : (known last : Bool) (s : Sights) (probes : List ℕ) → (noted_by known last s probes).size ≡ s.size
size_by true last s probes = refl
size_by false true s probes = refl
size_by false false s probes = refl

older_by : (known last : Bool) (s : Sights) (probes others : List ℕ) → (not known && last) ≡ false → admits s.older others ≡ true → admits (noted_by known last s probes).older others ≡ true
older_by true last s probes others stays has = has
older_by false true s probes others stays has = absurd (false≢true (sym stays))
older_by false false s probes others stays has = has

current_by : (known last : Bool) (s : Sights) (probes others : List ℕ) → (not known && last) ≡ false → admits s.current others ≡ true → admits (noted_by known last s probes).current others ≡ true
current_by true last s probes others stays has = has
current_by false true s probes others stays has = absurd (false≢true (sym stays))
current_by false false s probes others stays has = admits-kept s.current probes others has

turned_by : (known last : Bool) (s : Sights) (probes others : List ℕ) → (not known && last) ≡ true → admits s.current others ≡ true → admits (noted_by known last s probes).older others ≡ true
turned_by true last s probes others turns has = absurd (false≢true turns)
turned_by false true s probes others turns has = admits-kept s.current probes others has
turned_by false false s probes others turns has = absurd (false≢true turns)

own_current_by : (known last : Bool) (s : Sights) (probes : List ℕ) → admits s.current probes ≡ known → (not known && last) ≡ false → admits (noted_by known last s probes).current probes ≡ true
own_current_by true last s probes is stays = is
own_current_by false true s probes is stays = absurd (false≢true (sym stays))
own_current_by false false s probes is stays = admits-added s.current probes

own_older_by : (known last : Bool) (s : Sights) (probes : List ℕ) → (not known && last) ≡ true → admits (noted_by known last s probes).older probes ≡ true
own_older_by true last s probes turns = absurd (false≢true turns)
own_older_by false true s probes turns = admits-added s.current probes
own_older_by false false s probes turns = absurd (false≢true turns)

-- ---- the same of a key that is met

module _ (s : Sights) (k : ℕ) where
  abbrev next : Sights
  next = noted s k

  abbrev probes : List ℕ
  probes = probes_of s.size k

  same_probes : (hash : ℕ) → probes_of s.size hash ≡ probes_of next.size hash
  same_probes hash = ap (λ n. probes_of n hash) (sym (size_by (admits s.current probes) (is_last s) s probes))

  pub stays_older : (hash : ℕ) → changes s k ≡ false → admits s.older (probes_of s.size hash) ≡ true → admits next.older (probes_of next.size hash) ≡ true
  stays_older hash stays has = subst (λ (ps : List ℕ). admits next.older ps ≡ true) (same_probes hash) (older_by (admits s.current probes) (is_last s) s probes (probes_of s.size hash) stays has)

  pub stays_current : (hash : ℕ) → changes s k ≡ false → admits s.current (probes_of s.size hash) ≡ true → admits next.current (probes_of next.size hash) ≡ true
  stays_current hash stays has = subst (λ (ps : List ℕ). admits next.current ps ≡ true) (same_probes hash) (current_by (admits s.current probes) (is_last s) s probes (probes_of s.size hash) stays has)

  pub turns_older : (hash : ℕ) → changes s k ≡ true → admits s.current (probes_of s.size hash) ≡ true → admits next.older (probes_of next.size hash) ≡ true
  turns_older hash turns has = subst (λ (ps : List ℕ). admits next.older ps ≡ true) (same_probes hash) (turned_by (admits s.current probes) (is_last s) s probes (probes_of s.size hash) turns has)

  pub is_current : changes s k ≡ false → admits next.current (probes_of next.size k) ≡ true
  is_current stays = subst (λ (ps : List ℕ). admits next.current ps ≡ true) (same_probes k) (own_current_by (admits s.current probes) (is_last s) s probes refl stays)

  pub is_older : changes s k ≡ true → admits next.older (probes_of next.size k) ≡ true
  is_older turns = subst (λ (ps : List ℕ). admits next.older ps ≡ true) (same_probes k) (own_older_by (admits s.current probes) (is_last s) s probes turns)

  -- how often the sets change, by whether they do now
  pub counts_one : (ks : List ℕ) → changes s k ≡ true → change_count s (k ∷ ks) ≡ 1 + change_count next ks
  counts_one ks turns = ap (λ (b : Bool). (if b then 1 else 0) + change_count next ks) turns

  pub counts_none : (ks : List ℕ) → changes s k ≡ false → change_count s (k ∷ ks) ≡ 0 + change_count next ks
  counts_none ks stays = ap (λ (b : Bool). (if b then 1 else 0) + change_count next ks) stays

-- ---- runs

-- what the second set has is seen until the sets change
in_older : (s : Sights) (hash : ℕ) (hashes : List ℕ) → admits s.older (probes_of s.size hash) ≡ true → change_count s hashes ≡ 0 → is_seen (all_noted s hashes) hash ≡ true
in_older s hash [] has none = or_right (admits s.current (probes_of s.size hash)) _ has
in_older s hash (k ∷ ks) has none = elim (cases_Bool (changes s k)) [
  | inl turns ↦ let one = counts_one s k ks turns in absurd (omega (arith, one, none))
  | inr stays ↦
      let same = counts_none s k ks stays in
      let rest : change_count (noted s k) ks ≡ 0 = omega (arith, same, none) in
      in_older (noted s k) hash ks (stays_older s k hash stays has) rest
]

-- what the first set has is seen until the sets have changed twice
in_current : (s : Sights) (hash : ℕ) (hashes : List ℕ) → admits s.current (probes_of s.size hash) ≡ true → change_count s hashes ≤ 1 → is_seen (all_noted s hashes) hash ≡ true
in_current s hash [] has few = or_left _ (admits s.older (probes_of s.size hash)) has
in_current s hash (k ∷ ks) has few = elim (cases_Bool (changes s k)) [
  | inl turns ↦
      let one = counts_one s k ks turns in
      let rest : change_count (noted s k) ks ≡ 0 = omega (arith, one, few) in
      in_older (noted s k) hash ks (turns_older s k hash turns has) rest
  | inr stays ↦
      let same = counts_none s k ks stays in
      let rest : change_count (noted s k) ks ≤ 1 = omega (arith, same, few) in
      in_current (noted s k) hash ks (stays_current s k hash stays has) rest
]

pub met_is_seen : MetIsSeen
met_is_seen s hash hashes few = elim (cases_Bool (changes s hash)) [
  | inl turns ↦
      let one = counts_one s hash hashes turns in
      let rest : change_count (noted s hash) hashes ≡ 0 = omega (arith, one, few) in
      in_older (noted s hash) hash hashes (is_older s hash turns) rest
  | inr stays ↦
      let same = counts_none s hash hashes stays in
      let rest : change_count (noted s hash) hashes ≤ 1 = omega (arith, same, few) in
      in_current (noted s hash) hash hashes (is_current s hash stays) rest
]
