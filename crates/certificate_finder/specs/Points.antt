-- Points in a line of calls: for each call the greatest start so far of the calls that are of one key with it.
use Rattle.std.specs.Prelude.{◌≡◌, ℕ, ◌<◌, ◌≤◌, ◌⊎◌, List, length, map, take, slice_index_or, Contains}

-- a point is the greatest start of a call and of those before it that go with it
pub record IsPoint (OfOne : ℕ → ℕ → Type 0) (start : ℕ → ℕ) (before : List ℕ) (position point : ℕ) : Type 0 where
  pub own : start position ≤ point
  pub above : (earlier : ℕ) → Contains before earlier → OfOne earlier position → start earlier ≤ point
  pub reached : (start position ≡ point) ⊎ ((earlier : ℕ) × Contains before earlier × OfOne earlier position × (start earlier ≡ point))

-- each has such a point
abbrev pub ArePoints : {X : Type 0} → (X → ℕ) → (X → ℕ) → (ℕ → ℕ → Type 0) → (ℕ → ℕ) → List X → Type 0
ArePoints {X} position point OfOne start line =
    (place : ℕ) (d : X) → place < length line
    → IsPoint OfOne start (take place (map position line)) (position (slice_index_or line place d)) (point (slice_index_or line place d))
