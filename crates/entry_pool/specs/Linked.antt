-- The chains that nodes and heads make.
use Rattle.std.specs.Prelude.{◌≡◌, ℕ, ◌<◌, ◌==◌, ◌&&◌, ◌||◌, not, if◌then◌else◌, List, slice_index_or, ◌⊎◌}
use Rattle.entry_pool.specs.declared.pool_item.PoolItem.{PoolItem}
use Rattle.entry_pool.specs.declared.node.Node.{Node}
use Rattle.entry_pool.specs.declared.links.Links.{Links}
use Rattle.entry_pool.specs.Chains.{none, Chains}

-- a node that stands where there is none
abbrev pub blank : Node
blank =
    record {
      item = record { set = 0; tag = 0; segment = 0; page = 0; slot = 0; prediction = 0 };
      next = 0;
      older = 0;
      newer = 0;
    }

-- the node with this number
abbrev pub node_at : List Node → ℕ → Node
node_at nodes at = slice_index_or nodes at blank

-- a link from the head or from a node
abbrev pub from : ℕ → (ℕ → ℕ) → ℕ → ℕ
from head link at = if at == none then head else link at

-- the chains of these nodes, with these heads
abbrev pub chains : List Node → List ℕ → ℕ → ℕ → ℕ → Chains
chains nodes heads newest oldest free =
    record {
      older = from newest (λ at. (node_at nodes at).older);
      newer = from oldest (λ at. (node_at nodes at).newer);
      next = λ set. from (slice_index_or heads set none) (λ at. (node_at nodes at).next);
      free = from free (λ at. (node_at nodes at).next);
      item = λ at. (node_at nodes at).item;
    }

-- the chains of a value of `Links`
unfoldable pub chains_of : Links → Chains
chains_of links = chains links.nodes.items links.heads.items links.newest links.oldest links.free

-- the head, or one of this many nodes
abbrev pub IsLink : ℕ → ℕ → Type 0
IsLink at total = (at ≡ none) ⊎ (at < total)

-- links of which one leads elsewhere
abbrev pub put : ℕ → ℕ → (ℕ → ℕ) → ℕ → ℕ
put at to f j = if j == at then to else f j

-- the buckets' links of which one leads elsewhere: a head in its own set, a node's in each
abbrev pub put_next : ℕ → ℕ → ℕ → (ℕ → ℕ → ℕ) → ℕ → ℕ → ℕ
put_next set at to f s j = if j == at && (s == set || not (j == none)) then to else f s j

-- the free nodes' links if a node's leads elsewhere
abbrev pub put_free : ℕ → ℕ → (ℕ → ℕ) → ℕ → ℕ
put_free at to f j = if j == at && not (j == none) then to else f j

-- what nodes note, if one notes something else
abbrev pub put_item : ℕ → PoolItem → (ℕ → PoolItem) → ℕ → PoolItem
put_item at item f j = if j == at then item else f j

-- the chains if a node is another one
abbrev pub with_node : ℕ → Node → Chains → Chains
with_node at node c =
    record {
      older = put at node.older c.older;
      newer = put at node.newer c.newer;
      next = λ set. put at node.next (c.next set);
      free = put at node.next c.free;
      item = put_item at node.item c.item;
    }

-- an item with another prediction
abbrev pub with_prediction : ℕ → PoolItem → PoolItem
with_prediction prediction item = record item { prediction = prediction }
