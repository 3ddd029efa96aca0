-- What writing a trace piece by piece does.
use Rattle.std.specs.Prelude.{◌≡◌, ◌≢◌, ℕ, List, [], ◌++◌, Option}
use Rattle.std.specs.Io.KnownBytes.{Appends}

-- of all these bytes a front was written, and the others are left
pub record Sent (old new : Option (List ℕ)) (all left : List ℕ) : Type 0 where
  pub front : List ℕ
  pub written : Appends old new front
  pub parts : all ≡ front ++ left

-- of all these bytes a front was written once, and some are left
abbrev pub Begun : Option (List ℕ) → Option (List ℕ) → List ℕ → Type 0
Begun old new all = (left : List ℕ) × (left ≢ []) × Sent old new all left
