-- The nodes of a pool as what is struck in sets.
use Rattle.std.specs.Prelude.{◌≡◌, ◌≤◌, ℕ, length}
use Rattle.std.specs.FinSet.{len}
use Rattle.entry_pool.specs.StrikeChains.{Pool, marks_of, IsSound}
use Rattle.entry_pool.specs.Struck.{Struck, set_of, sets_from}

-- what is struck in sets, by the chains of a pool
unfoldable pub struck_by : Pool → Struck
struck_by p = record { places = length p.links; sets = sets_from 0 (length p.firsts) (λ set. set_of (marks_of p set)) }

-- each node is in one chain, and no hash is struck twice in a set
pub record IsStruck (p : Pool) : Type 0 where
  pub sound : IsSound p
  pub once : (set : ℕ) → len (set_of (marks_of p set)) ≡ length (marks_of p set)
  pub sets : length p.firsts ≤ 65536
