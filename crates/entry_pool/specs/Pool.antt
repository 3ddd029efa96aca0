-- The nodes and heads of a pool as its rows.
use Rattle.std.specs.Prelude.{◌≡◌, ◌≢◌, ℕ, ◌-◌, ◌≤◌, ◌<◌, List, ◌∷◌, length, filter}
use Rattle.entry_pool.specs.declared.pool_item.PoolItem.{PoolItem}
use Rattle.entry_pool.specs.declared.links.Links.{Links}
use Rattle.entry_pool.specs.Words.{Fits}
use Rattle.entry_pool.specs.Chains.{none, IsPool, walk, is_in_set}
use Rattle.entry_pool.specs.Linked.{chains_of, IsLink}
use Rattle.entry_pool.specs.Rows.{Rows, rows_of}

-- the nodes that are held, newest first
unfoldable pub ages_of : Links → List ℕ
ages_of links = walk links.count (chains_of links).older none

-- the nodes that are free
unfoldable pub frees_of : Links → List ℕ
frees_of links = walk (length links.nodes.items - links.count) (chains_of links).free none

-- the rows that nodes and heads spell
unfoldable pub rows_in : Links → Rows
rows_in links =
    record {
      sets = length links.heads.items;
      limit = length links.nodes.items;
      rows = rows_of (chains_of links).item (ages_of links);
    }

-- each node is in its chains or free
pub record IsSound (links : Links) : Type 0 where
  pub count : links.count ≤ length links.nodes.items
  pub sets : length links.heads.items ≤ 65536
  pub pool : IsPool (chains_of links) (length links.nodes.items) (ages_of links) (frees_of links)

-- the nodes of a set's bucket, newest first
unfoldable pub bucket_of : Links → ℕ → List ℕ
bucket_of links set = filter (is_in_set (chains_of links).item set) (ages_of links)

-- these begin with this node
abbrev pub IsBehind : ℕ → List ℕ → Type 0
IsBehind at xs = (rest : List ℕ) × (xs ≡ at ∷ rest)

-- there is a free node for this item
pub record CanGive (l : Links) (item : PoolItem) : Type 0 where
  pub few : length l.nodes.items < none
  pub free : (chains_of l).free none < length l.nodes.items
  pub newest : IsLink ((chains_of l).older none) (length l.nodes.items)
  pub first : IsLink ((chains_of l).next item.set none) (length l.nodes.items)
  pub apart : (chains_of l).older none ≢ (chains_of l).free none
  pub set : item.set < length l.heads.items
  pub fits : Fits item
  pub count : l.count < length l.nodes.items

-- a node is held, and its links lead to nodes
pub record CanTake (l : Links) (x q : ℕ) : Type 0 where
  pub few : length l.nodes.items < none
  pub at : x < length l.nodes.items
  pub older : IsLink ((chains_of l).older x) (length l.nodes.items)
  pub newer : IsLink ((chains_of l).newer x) (length l.nodes.items)
  pub next : IsLink ((chains_of l).next ((chains_of l).item x).set x) (length l.nodes.items)
  pub free : IsLink ((chains_of l).free none) (length l.nodes.items)
  pub before : IsLink q (length l.nodes.items)
  pub apart : q ≢ x
  pub set : ((chains_of l).item x).set < length l.heads.items
  pub count : 0 < l.count
