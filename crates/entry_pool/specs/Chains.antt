-- Nodes chained by age, by set and as free ones. A link is the number of a node, or none.
use Rattle.std.specs.Prelude.{◌≡◌, ◌≢◌, ℕ, zero, suc, ◌+◌, ◌<◌, ◌==◌, Bool, cond, List, [], ◌∷◌, ◌++◌, length, filter, ◌⊎◌}
use Rattle.entry_pool.specs.declared.pool_item.PoolItem.{PoolItem}

-- the link that leads nowhere; as a node's number it stands for the head of a chain
abbrev pub none : ℕ
none = 2097151

-- the links lead from p through these, one after another, and then nowhere
abbrev pub IsPath : (ℕ → ℕ) → ℕ → List ℕ → Type 0
IsPath f p [] = f p ≡ none
IsPath f p (x ∷ xs) = (f p ≡ x) × IsPath f x xs

-- the links lead back: from each of these to the one before it, from the first to p, and from the chain's head to the last
abbrev pub IsBack : (ℕ → ℕ) → ℕ → List ℕ → Type 0
IsBack f p [] = f none ≡ p
IsBack f p (x ∷ xs) = (f x ≡ p) × IsBack f x xs

-- a number is among these
abbrev pub IsIn : ℕ → List ℕ → Type 0
IsIn x [] = ⊥
IsIn x (y ∷ ys) = (x ≡ y) ⊎ IsIn x ys

-- no number stands twice
abbrev pub IsDistinct : List ℕ → Type 0
IsDistinct [] = Unit {0}
IsDistinct (x ∷ xs) = (¬ IsIn x xs) × IsDistinct xs

-- the last of these, or p
abbrev pub end_of : ℕ → List ℕ → ℕ
end_of p [] = p
end_of p (x ∷ xs) = end_of x xs

-- the first of these, or p
abbrev pub start_of : ℕ → List ℕ → ℕ
start_of p [] = p
start_of p (x ∷ xs) = x

-- the links of nodes and what each notes: towards older and newer ones, within a set's bucket, among the free ones
pub record Chains : Type 0 where
  pub older : ℕ → ℕ
  pub newer : ℕ → ℕ
  pub next : ℕ → ℕ → ℕ
  pub free : ℕ → ℕ
  pub item : ℕ → PoolItem

-- a node is of this set
abbrev pub is_in_set : (ℕ → PoolItem) → ℕ → ℕ → Bool
is_in_set item set i = (item i).set == set

-- the chains spell these nodes, newest first, and those that are free, of this many in all
pub record IsPool (c : Chains) (total : ℕ) (ages frees : List ℕ) : Type 0 where
  pub older : IsPath c.older none ages
  pub newer : IsBack c.newer none ages
  pub next : (set : ℕ) → IsPath (c.next set) none (filter (is_in_set c.item set) ages)
  pub free : IsPath c.free none frees
  pub apart : IsDistinct (ages ++ frees)
  pub below : (i : ℕ) → IsIn i (ages ++ frees) → i < total
  pub all : length ages + length frees ≡ total
  pub few : total < none

-- of a chain from p through these, what is after q
abbrev pub after_of : ℕ → ℕ → List ℕ → List ℕ
after_of q p [] = []
after_of q p (x ∷ xs) = cond (q == p) (x ∷ xs) (after_of q x xs)

-- the nodes that this many links from p lead to
abbrev pub walk : ℕ → (ℕ → ℕ) → ℕ → List ℕ
walk zero f p = []
walk (suc n) f p = f p ∷ walk n f (f p)

-- one node was taken out of all chains but the free one, which begins with it; q is what leads to it in its bucket
pub record IsTaken (c d : Chains) (x q : ℕ) : Type 0 where
  pub older_at : d.older (c.newer x) ≡ c.older x
  pub older_else : (y : ℕ) → y ≢ c.newer x → d.older y ≡ c.older y
  pub newer_at : d.newer (c.older x) ≡ c.newer x
  pub newer_else : (y : ℕ) → y ≢ c.older x → d.newer y ≡ c.newer y
  pub next_at : d.next (c.item x).set q ≡ c.next (c.item x).set x
  pub next_else : (set y : ℕ) → y ≢ q → y ≢ x → d.next set y ≡ c.next set y
  pub next_head : (set : ℕ) → set ≢ (c.item x).set → d.next set none ≡ c.next set none
  pub free_head : d.free none ≡ x
  pub free_at : d.free x ≡ c.free none
  pub free_else : (y : ℕ) → y ≢ none → y ≢ q → y ≢ x → d.free y ≡ c.free y
  pub item : (y : ℕ) → d.item y ≡ c.item y

-- a free node with an item was put before the others in its chains
pub record IsGiven (c d : Chains) (x : ℕ) (item : PoolItem) : Type 0 where
  pub older_head : d.older none ≡ x
  pub older_at : d.older x ≡ c.older none
  pub older_else : (y : ℕ) → y ≢ none → y ≢ x → d.older y ≡ c.older y
  pub newer_at : d.newer x ≡ none
  pub newer_first : d.newer (c.older none) ≡ x
  pub newer_else : (y : ℕ) → y ≢ x → y ≢ c.older none → d.newer y ≡ c.newer y
  pub next_head : d.next item.set none ≡ x
  pub next_at : d.next item.set x ≡ c.next item.set none
  pub next_else : (set y : ℕ) → y ≢ none → y ≢ x → d.next set y ≡ c.next set y
  pub next_heads : (set : ℕ) → set ≢ item.set → d.next set none ≡ c.next set none
  pub free_head : d.free none ≡ c.free x
  pub free_else : (y : ℕ) → y ≢ none → y ≢ x → d.free y ≡ c.free y
  pub item_at : d.item x ≡ item
  pub item_else : (y : ℕ) → y ≢ x → d.item y ≡ c.item y
