-- The clock's word, what its seats know of it, and the kinds of step.
use Rattle.std.specs.Prelude.{◌≡◌, ℕ, ◌<◌, ◌≤◌, ◌^◌, ◌⊎◌, max, length, slice_index}
use mathlib.Core.Option.{some}
use lib.ListN.{get_elem?}
use Rattle.atomic_table.specs.Table.{State, Me, Step}
use Rattle.shared_cache.specs.declared.clock_rule.View.{View}

-- what a seat knows: what it has seen, what it loaded last, and what it raised the word to
abbrev pub view : ℕ → ℕ → ℕ → View
view seen loaded raised = record { seen = seen; loaded = loaded; raised = raised }

-- what a seat knows is no more than the word
pub record IsBelow (word : ℕ) (v : View) : Type 0 where
  pub seen : v.seen ≤ word
  pub raised : v.raised ≤ word

-- The rule: one word, below 2 ^ 63; no seat knows more; and it is 0, or some seat raised it there.
pub record IsKept (s : State (Unit {0}) View) : Type 0 where
  pub one : length s.words ≡ 1
  pub bounded : slice_index s.words 0 < 2 ^ 63
  pub above : (seat : ℕ) (v : View) → get_elem? s.views seat ≡ some v → IsBelow (slice_index s.words 0) v
  pub source : (slice_index s.words 0 ≡ 0) ⊎ ((seat : ℕ) × (v : View) × (get_elem? s.views seat ≡ some v) × (v.raised ≡ slice_index s.words 0))

-- a load: the seat knows what it found, which is no less than what it had seen
abbrev pub Looked : Step (Unit {0}) → Me (Unit {0}) View → ℕ → Me (Unit {0}) View → Type 0
Looked st m found m' = (m'.0 ≡ view found found m.0.raised) × (m.0.seen ≤ found) × (found < 2 ^ 63) × (m'.1 ≡ m.1)

-- a raising: the seat has seen the number, and raised the word to it
abbrev pub Raised : Step (Unit {0}) → Me (Unit {0}) View → ℕ → Me (Unit {0}) View → Type 0
Raised st m found m' = (m'.0 ≡ view (max m.0.seen st.first) m.0.loaded (max m.0.raised st.first)) × (m'.1 ≡ m.1)
