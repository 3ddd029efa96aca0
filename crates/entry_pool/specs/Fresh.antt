-- The nodes of an empty pool.
use Rattle.std.specs.Prelude.{◌≡◌, ◌<◌, ℕ, zero, suc, List, length}
use Rattle.entry_pool.specs.declared.node.Node.{Node}
use Rattle.entry_pool.specs.Chains.{none}
use Rattle.entry_pool.specs.Linked.{node_at}

-- the number before this one, or none
abbrev pub number_before : ℕ → ℕ
number_before zero = none
number_before (suc n) = n

-- this many nodes, each of which leads to the one before it
pub record AreFree (count : ℕ) (nodes : List Node) : Type 0 where
  pub count_is : length nodes ≡ count
  pub next : (i : ℕ) → i < count → (node_at nodes i).next ≡ number_before i
