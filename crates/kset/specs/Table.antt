-- Notes and strikes of all sets, which lie apart.
use Rattle.std.specs.Prelude.{◌≡◌, ◌≤◌, ℕ, List, [], ◌∷◌, length}
use Rattle.std.specs.Ordering.{nat_cmp}
use Rattle.std.specs.FinSet.{FinSet}
use Rattle.entry_pool.specs.Struck.{Struck}
use Rattle.kset.specs.Notes.{Notes}
use Rattle.kset.specs.Sets.{SetsState}

-- what is noted of sets, each with what is struck in it
abbrev pub struck_notes : List Notes → List (FinSet nat_cmp) → List Notes
struck_notes [] ss = []
struck_notes (n ∷ ns) [] = n ∷ struck_notes ns []
struck_notes (n ∷ ns) (s ∷ ss) = record n { strikes = s } ∷ struck_notes ns ss

-- the sets, by how many pages were tried, what is noted of each beside strikes, and the strikes
unfoldable pub table_of : ℕ → List Notes → Struck → SetsState
table_of writes notes struck = record { writes = writes; places = struck.places; notes = struck_notes notes struck.sets }

-- there are strikes for each set
pub record IsTable (notes : List Notes) (struck : Struck) : Type 0 where
  pub few : length notes ≤ 65536
  pub same : length struck.sets ≡ length notes
