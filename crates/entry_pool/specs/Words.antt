-- A node as two words.
use Rattle.std.specs.Prelude.{ℕ, ◌/◌, ◌%◌, ◌^◌, ◌<◌, ◌≤◌}
use Rattle.entry_pool.specs.declared.pool_item.PoolItem.{PoolItem}
use Rattle.entry_pool.specs.declared.node.Node.{Node}

-- the bits of a word from one on, this many of them, as a number
abbrev pub bits : ℕ → ℕ → ℕ → ℕ
bits from count word = word / 2 ^ from % 2 ^ count

-- the item that two words note
abbrev pub item_of : ℕ → ℕ → PoolItem
item_of first second =
    record {
      set = bits 0 16 second;
      tag = bits 0 16 first;
      segment = bits 16 9 first;
      page = bits 25 6 first;
      slot = bits 31 6 first;
      prediction = bits 37 3 first;
    }

-- the node that two words note
abbrev pub node_of : ℕ → ℕ → Node
node_of first second =
    record {
      item = item_of first second;
      next = bits 40 21 first;
      older = bits 16 21 second;
      newer = bits 37 21 second;
    }

-- an item's numbers have room in their bits
pub record Fits (item : PoolItem) : Type 0 where
  pub set : item.set < 2 ^ 16
  pub tag : item.tag < 2 ^ 16
  pub segment : item.segment < 2 ^ 9
  pub page : item.page < 2 ^ 6
  pub slot : item.slot < 2 ^ 6
  pub prediction : item.prediction ≤ 7

-- a node's numbers have room in their bits
pub record IsNode (node : Node) : Type 0 where
  pub item : Fits node.item
  pub next : node.next < 2 ^ 21
  pub older : node.older < 2 ^ 21
  pub newer : node.newer < 2 ^ 21
