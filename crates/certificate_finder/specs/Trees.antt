-- A binary tree over leaves, each node of which has the two puts under it that expire last.
use Rattle.std.specs.Prelude.{◌≡◌, ℕ, zero, suc, ◌+◌, ◌-◌, ◌*◌, ◌/◌, ◌%◌, ◌^◌, ◌<◌, ◌≤◌, ◌⊎◌, List, All, length, slice_get, slice_index, Some}
use Rattle.certificate_finder.specs.declared.best.Best.{Best}
use Rattle.certificate_finder.specs.declared.put.Put.{Put}
use Rattle.certificate_finder.specs.declared.readable.Readable.{Readable}
use Rattle.certificate_finder.specs.declared.readable.Readable.TheVariants.{Nothing}
use Rattle.certificate_finder.specs.declared.tree_shape.TreeShape.{TreeShape}
use Rattle.certificate_finder.specs.Bests.{IsBestOf, IsLiveAt, SaysLive}

-- the least tree with more leaves than a count
pub record IsShape (count : ℕ) (shape : TreeShape) : Type 0 where
  pub power : shape.width ≡ 2 ^ shape.depth
  pub more : count < shape.width
  pub least : shape.width ≤ 2 * count + 1
  pub deep : shape.depth < shape.width

-- each of this many puts has a leaf
pub record AreLeaves (puts width : ℕ) (leaves : List ℕ) : Type 0 where
  pub count : length leaves ≡ puts
  pub within : All (λ leaf. leaf < width) leaves

-- the node this many rows over a node, if the node over two is their half
abbrev pub node_over : ℕ → ℕ → ℕ
node_over zero node = node
node_over (suc rows) node = node_over rows node / 2

-- the nodes this many rows below the root
pub record IsInRow (row node : ℕ) : Type 0 where
  pub low : 2 ^ row ≤ node
  pub high : node < 2 ^ row * 2

-- a put's leaf lies under a node that is this many rows over the leaves
abbrev pub IsUnder : List ℕ → ℕ → ℕ → ℕ → ℕ → Type 0
IsUnder leaves width rows node index = node_over rows (width + slice_index leaves index) ≡ node

-- the puts under a node, of those that are counted in its row
abbrev pub IsCounted : List ℕ → ℕ → (ℕ → ℕ → Type 0) → ℕ → ℕ → ℕ → Type 0
IsCounted leaves width counted rows node index = counted rows index × IsUnder leaves width rows node index

-- each node has the best of the puts under it that are counted in its row
pub record AreRows (puts : List Put) (leaves : List ℕ) (shape : TreeShape) (counted : ℕ → ℕ → Type 0) (nodes : List Best) : Type 0 where
  pub each : (rows node : ℕ) (best : Best) → rows ≤ shape.depth → IsInRow (shape.depth - rows) node → slice_get nodes node ≡ Some best → IsBestOf puts (IsCounted leaves shape.width counted rows node) best

-- each node has the best of the puts under it, of those below an index
abbrev pub IsTree : List Put → List ℕ → TreeShape → ℕ → List Best → Type 0
IsTree puts leaves shape taken nodes = AreRows puts leaves shape (λ rows index. index < taken) nodes

-- the put at an index has entered the lowest rows
abbrev pub HasEntered : ℕ → ℕ → ℕ → ℕ → Type 0
HasEntered taken upto rows index = (index < taken) ⊎ ((index ≡ taken) × (rows < upto))

-- the put at an index has entered, its leaf is not before another one, and it is live at a moment
pub record IsFrom (puts : List Put) (leaves : List ℕ) (taken leaf moment index : ℕ) : Type 0 where
  pub entered : index < taken
  pub from : leaf ≤ slice_index leaves index
  pub live : IsLiveAt puts moment index

-- which puts of the node right of a left one are live at a moment
abbrev pub IsBeside : List Put → List Best → ℕ → ℕ → Readable → Type 0
IsBeside puts nodes at moment reading =
    ((at % 2 ≡ 1) × (reading ≡ Nothing))
    ⊎ ((at % 2 ≡ 0) × ((best : Best) × (slice_get nodes (at + 1) ≡ Some best) × SaysLive puts moment best reading))
