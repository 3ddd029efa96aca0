-- A sketch of the keys that were met: two sets of bits, one of which is cleared in its turn.
use Rattle.std.specs.Prelude.{ℕ, ◌+◌, ◌*◌, ◌/◌, ◌%◌, ◌^◌, ◌<◌, ◌≡◌, Bool, not, ◌&&◌, ◌||◌, List, [], ◌∷◌, map, length, nat_le, if◌then◌else◌, refl}
use Rattle.std.specs.List.{list_all}
use Rattle.std.specs.Coded.{Coded, code_by, coded×, coded_ℕ}
use Rattle.std.specs.Ordering.{nat_cmp}
use Rattle.std.specs.FinSet.{FinSet, empty, contains, insert, code}
use Rattle.record_pages.specs.Passing.{passing_below}
use Rattle.bloom.specs.Filter.{has_bit, with_bits, admits}

-- how many bits there are, and the numbers of those that are set
pub record Row : Type 0 where
  pub size : ℕ
  pub bits : FinSet nat_cmp

-- a row is stored as the pair of its fields
abbrev pub row_code : Coded Row
row_code =
    code_by (ℕ × FinSet nat_cmp) (coded× coded_ℕ (code coded_ℕ)) (λ r. (r.size, r.bits)) (λ p. record { size = p.0; bits = p.1 }) (λ _. refl)

-- the bits of words, 64 for each
unfoldable pub row_of : List ℕ → Row
row_of words = record { size = 64 * length words; bits = passing_below (has_bit words) (64 * length words) }

-- a row of so many words: it has one, and its bits can be counted
pub record IsRow (words : ℕ) : Type 0 where
  pub some : 0 < words
  pub few : words < 2 ^ 32

-- the bits of a row that these numbers stand for: what is left of each once the row's size is taken away as often as can be
abbrev pub places_of : ℕ → List ℕ → List ℕ
places_of size numbers = map (λ number. number % size) numbers

-- the bits of all these numbers are set
abbrev pub has_places : Row → List ℕ → Bool
has_places r numbers = list_all (λ number. contains r.bits (number % r.size)) numbers

-- a row in which the bit of this number is set beside its own
abbrev pub with_place : Row → ℕ → Row
with_place r number = record { size = r.size; bits = insert r.bits (number % r.size) }

-- a row in which the bits of these numbers are set beside its own
abbrev pub with_places : Row → List ℕ → Row
with_places r numbers = record { size = r.size; bits = with_bits r.bits (places_of r.size numbers) }

-- the bits of keys that were met lately, those of keys that were met before these, and how many keys set a bit of the first
pub record Sights : Type 0 where
  pub size : ℕ
  pub current : FinSet nat_cmp
  pub older : FinSet nat_cmp
  pub fresh : ℕ

-- they are stored as the tuple of their fields
abbrev pub sights_code : Coded Sights
sights_code =
    code_by (ℕ × (FinSet nat_cmp × (FinSet nat_cmp × ℕ))) (coded× coded_ℕ (coded× (code coded_ℕ) (coded× (code coded_ℕ) coded_ℕ)))
    (λ s. (s.size, (s.current, (s.older, s.fresh)))) (λ p. record { size = p.0; current = p.1.0; older = p.1.1.0; fresh = p.1.1.1 }) (λ _. refl)

-- a key's four numbers: the low half of its hash, and the high half added to it up to three times
abbrev pub numbers_of : ℕ → List ℕ
numbers_of hash =
    (hash % 2 ^ 32) ∷ (hash % 2 ^ 32 + hash / 2 ^ 32) ∷ (hash % 2 ^ 32 + 2 * (hash / 2 ^ 32)) ∷ (hash % 2 ^ 32 + 3 * (hash / 2 ^ 32)) ∷ []

-- the bits of a key
abbrev pub probes_of : ℕ → ℕ → List ℕ
probes_of size hash = places_of size (numbers_of hash)

-- whether a key counts as met before: all its bits are in one of the two sets
abbrev pub is_seen : Sights → ℕ → Bool
is_seen s hash = admits s.current (probes_of s.size hash) || admits s.older (probes_of s.size hash)

-- the keys of which each sets a new bit before the sets change: 11 for each 64 bits
abbrev pub most_fresh : ℕ → ℕ
most_fresh size = 11 * (size / 64)

-- whether the sets change once one key more sets a new bit
abbrev pub is_last : Sights → Bool
is_last s = nat_le (most_fresh s.size) (s.fresh + 1)

-- the first set becomes the second one, and the first is empty
abbrev pub turned : Sights → Sights
turned s = record { size = s.size; current = empty; older = s.current; fresh = 0 }

-- a key that sets a new bit joins the first set
abbrev pub joined : Sights → List ℕ → Sights
joined s probes = record { size = s.size; current = with_bits s.current probes; older = s.older; fresh = s.fresh + 1 }

-- a key is met: nothing changes if the first set has all its bits; else they join it, and the sets change if the key is the last
abbrev pub noted_by : Bool → Bool → Sights → List ℕ → Sights
noted_by known last s probes = if known then s else (if last then turned (joined s probes) else joined s probes)

abbrev pub noted : Sights → ℕ → Sights
noted s hash = noted_by (admits s.current (probes_of s.size hash)) (is_last s) s (probes_of s.size hash)

-- whether the sets change when this key is met
abbrev pub changes : Sights → ℕ → Bool
changes s hash = not (admits s.current (probes_of s.size hash)) && is_last s

-- both sets have as many bits, and fewer keys set a new one than make the sets change
pub record IsSketch (one other met : ℕ) : Type 0 where
  pub same : other ≡ one
  pub fresh : met < most_fresh one

-- nothing was met
abbrev pub no_sights : ℕ → Sights
no_sights words = record { size = 64 * words; current = empty; older = empty; fresh = 0 }
