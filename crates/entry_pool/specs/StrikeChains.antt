-- The hashes that are struck in sets, as chains of nodes in one pool.
use Rattle.std.specs.Prelude.{◌≡◌, ◌≢◌, ℕ, zero, suc, ◌+◌, ◌<◌, ◌≤◌, ◌==◌, ◌||◌, Bool, false, List, [], ◌∷◌, length, slice_index_or}
use Rattle.entry_pool.specs.Chains.{IsIn, IsDistinct}
use Rattle.entry_pool.specs.declared.strike_nodes.StrikeNodes.{StrikeNodes}

-- a pool: the first node and the number of nodes of each set's chain; the node after each node, and the hash that it
-- notes; the first free node, and how many are free
pub record Pool : Type 0 where
  pub firsts : List ℕ
  pub counts : List ℕ
  pub links : List ℕ
  pub hashes : List ℕ
  pub free : ℕ
  pub free_count : ℕ

-- the pool of a value of `StrikeNodes`
abbrev pub pool_of : StrikeNodes → Pool
pool_of p =
    record {
      firsts = p.firsts.items;
      counts = p.counts.items;
      links = p.links.items;
      hashes = p.hashes.items;
      free = p.free;
      free_count = p.free_count;
    }

-- this many nodes, each after the one before it, from a first one on
abbrev pub walk : ℕ → List ℕ → ℕ → List ℕ
walk zero links first = []
walk (suc n) links first = first ∷ walk n links (slice_index_or links first 0)

-- the nodes of a set's chain
unfoldable pub chain_of : Pool → ℕ → List ℕ
chain_of p set = walk (slice_index_or p.counts set 0) p.links (slice_index_or p.firsts set 0)

-- the free nodes
unfoldable pub frees_of : Pool → List ℕ
frees_of p = walk p.free_count p.links p.free

-- the hashes that these nodes note
abbrev pub noted : List ℕ → List ℕ → List ℕ
noted hashes [] = []
noted hashes (x ∷ xs) = slice_index_or hashes x 0 ∷ noted hashes xs

-- the hashes that are struck in a set, the last first
unfoldable pub marks_of : Pool → ℕ → List ℕ
marks_of p set = noted p.hashes (chain_of p set)

-- the sum of these
abbrev pub total : List ℕ → ℕ
total [] = 0
total (x ∷ xs) = x + total xs

-- a number is one of these
abbrev pub is_among : ℕ → List ℕ → Bool
is_among x [] = false
is_among x (y ∷ ys) = (x == y) || is_among x ys

-- no node is in two chains or twice in one, and each is one of this many
pub record AreApart (chain : ℕ → List ℕ) (frees : List ℕ) (total : ℕ) : Type 0 where
  pub within : (set i : ℕ) → IsIn i (chain set) → i < total
  pub free_within : (i : ℕ) → IsIn i frees → i < total
  pub apart : (set other i : ℕ) → IsIn i (chain set) → IsIn i (chain other) → set ≡ other
  pub free_apart : (set i : ℕ) → IsIn i (chain set) → IsIn i frees → ⊥
  pub once : (set : ℕ) → IsDistinct (chain set)
  pub free_once : IsDistinct frees

-- each node is in one chain, no set has more than eight, and there are at most eight for each of 65,536 sets
pub record IsSound (p : Pool) : Type 0 where
  pub rows : length p.counts ≡ length p.firsts
  pub nodes : length p.hashes ≡ length p.links
  pub chains : AreApart (chain_of p) (frees_of p) (length p.links)
  pub few : (set : ℕ) → slice_index_or p.counts set 0 ≤ 8
  pub all : total p.counts + p.free_count ≡ length p.links
  pub bounded : length p.links ≤ 524288

-- as many sets and places as before
pub record KeepsSizes (old new : Pool) : Type 0 where
  pub sets : length new.firsts ≡ length old.firsts
  pub places : length new.links ≡ length old.links

-- nothing is struck, and all places are free
pub record IsOpened (p : Pool) (sets places : ℕ) : Type 0 where
  pub sound : IsSound p
  pub sets_are : length p.firsts ≡ sets
  pub places_are : length p.links ≡ places
  pub free : p.free_count ≡ places
  pub none : (set : ℕ) → marks_of p set ≡ []

-- a hash more is struck in a set
pub record Pushes (old new : Pool) (set hash : ℕ) : Type 0 where
  pub sound : IsSound new
  pub sizes : KeepsSizes old new
  pub own : marks_of new set ≡ hash ∷ marks_of old set
  pub others : (other : ℕ) → other ≢ set → marks_of new other ≡ marks_of old other
  pub count : slice_index_or new.counts set 0 ≡ slice_index_or old.counts set 0 + 1
  pub free : new.free_count + 1 ≡ old.free_count

-- the last hash that was struck in a set is not any more
pub record Pops (old new : Pool) (set : ℕ) : Type 0 where
  pub sound : IsSound new
  pub sizes : KeepsSizes old new
  pub own : (hash : ℕ) × (marks_of old set ≡ hash ∷ marks_of new set)
  pub others : (other : ℕ) → other ≢ set → marks_of new other ≡ marks_of old other
  pub count : slice_index_or new.counts set 0 + 1 ≡ slice_index_or old.counts set 0
  pub free : new.free_count ≡ old.free_count + 1

-- nothing is struck in a set any more
pub record Clears (old new : Pool) (set : ℕ) : Type 0 where
  pub sound : IsSound new
  pub sizes : KeepsSizes old new
  pub own : marks_of new set ≡ []
  pub others : (other : ℕ) → other ≢ set → marks_of new other ≡ marks_of old other
  pub free : new.free_count ≡ old.free_count + slice_index_or old.counts set 0

-- this many links, each to the node after its own
pub record AreSuccessors (places : ℕ) (links : List ℕ) : Type 0 where
  pub count : length links ≡ places
  pub next : (i : ℕ) → i < places → slice_index_or links i 0 ≡ i + 1
