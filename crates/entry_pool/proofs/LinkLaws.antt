-- What a written node or head makes of the chains.
use Rattle.std.proofs.Common.{◌≡◌, ℕ, ◌<◌, Bool, true, false, cond, eqb, not, List, length, get_or, set, inl, inr, refl, sym, ap, ◌∙◌}
use Rattle.std.specs.Prelude.{◌&&◌, ◌||◌}
use Rattle.std.proofs.lemmas.Bool.{eq-eqb, ne_eqb, cases_eq}
use Rattle.std.proofs.lemmas.List.{get_or-set_same, get_or-set_other}
use Rattle.entry_pool.specs.declared.pool_item.PoolItem.{PoolItem}
use Rattle.entry_pool.specs.declared.node.Node.{Node}
use Rattle.entry_pool.specs.Chains.{none}
use Rattle.entry_pool.specs.Linked.{blank, node_at, from, chains, put, put_next, put_free, put_item, with_node}

pub from-head : (h : ℕ) (f : ℕ → ℕ) (at : ℕ) → at ≡ none → h ≡ from h f at
from-head h f at e = ap (λ (b : Bool). cond b h (f at)) (sym (eq-eqb at none e))

pub from-node : (h : ℕ) (f : ℕ → ℕ) (at : ℕ) → (at ≡ none → ⊥) → f at ≡ from h f at
from-node h f at n = ap (λ (b : Bool). cond b h (f at)) (sym (ne_eqb at none n))

-- a part of a node that was written, and of the others
pub part-at : {X : Type 0} (part : Node → X) (ns : List Node) (at : ℕ) (n : Node) → at < length ns → part (node_at (set ns at n) at) ≡ part n
part-at part ns at n lt = ap part (get_or-set_same ns at n blank lt)

pub part-else : {X : Type 0} (part : Node → X) (ns : List Node) (at j : ℕ) (n : Node) → (j ≡ at → ⊥) → part (node_at (set ns at n) j) ≡ part (node_at ns j)
part-else part ns at j n ne = ap part (get_or-set_other ns at j n blank ne)

-- a part that the written node has as before
pub part-kept : {X : Type 0} (part : Node → X) (ns : List Node) (at j : ℕ) (n : Node) → at < length ns → part n ≡ part (node_at ns at) → part (node_at (set ns at n) j) ≡ part (node_at ns j)
part-kept part ns at j n lt e = elim (cases_eq j at) [
  | inl s ↦ ap (λ (k : ℕ). part (node_at (set ns at n) k)) s ∙ part-at part ns at n lt ∙ e ∙ ap (λ (k : ℕ). part (node_at ns k)) (sym s)
  | inr ne ↦ part-else part ns at j n ne
]

pub from-kept : (part : Node → ℕ) (h : ℕ) (ns : List Node) (at j : ℕ) (n : Node) → at < length ns → part n ≡ part (node_at ns at) → from h (λ k. part (node_at (set ns at n) k)) j ≡ from h (λ k. part (node_at ns k)) j
from-kept part h ns at j n lt e = ap (λ (v : ℕ). cond (eqb j none) h v) (part-kept part ns at j n lt e)

pub from-put : (part : Node → ℕ) (h : ℕ) (ns : List Node) (at to j : ℕ) (n : Node) → at < length ns → (at ≡ none → ⊥) → part n ≡ to → from h (λ k. part (node_at (set ns at n) k)) j ≡ put at to (from h (λ k. part (node_at ns k))) j
from-put part h ns at to j n lt named e = elim (cases_eq j at) [
  | inl s ↦
      ap (λ (k : ℕ). from h (λ k. part (node_at (set ns at n) k)) k) s
      ∙ sym (from-node h (λ k. part (node_at (set ns at n) k)) at named)
      ∙ part-at part ns at n lt ∙ e
      ∙ ap (λ (b : Bool). cond b to (from h (λ k. part (node_at ns k)) j)) (sym (eq-eqb j at s))
  | inr ne ↦
      ap (λ (v : ℕ). cond (eqb j none) h v) (part-else part ns at j n ne)
      ∙ ap (λ (b : Bool). cond b to (from h (λ k. part (node_at ns k)) j)) (sym (ne_eqb j at ne))
]

-- a head that leads elsewhere
pub from-lead : (h to : ℕ) (f : ℕ → ℕ) (at j : ℕ) → at ≡ none → from to f j ≡ put at to (from h f) j
from-lead h to f at j e = elim (cases_eq j at) [
  | inl s ↦ sym (from-head to f j (s ∙ e)) ∙ ap (λ (b : Bool). cond b to (from h f j)) (sym (eq-eqb j at s))
  | inr ne ↦
      sym (from-node to f j (λ w. ne (w ∙ sym e))) ∙ from-node h f j (λ w. ne (w ∙ sym e))
      ∙ ap (λ (b : Bool). cond b to (from h f j)) (sym (ne_eqb j at ne))
]

-- at a node, a link among the buckets or the free ones is a link
pub put-free : (at to : ℕ) (f : ℕ → ℕ) (j : ℕ) → (at ≡ none → ⊥) → put at to f j ≡ put_free at to f j
put-free at to f j named = elim (cases_eq j at) [
  | inl s ↦
      ap (λ (b : Bool). cond b to (f j)) (eq-eqb j at s)
      ∙ sym (ap (λ (b : Bool). cond (b && not (eqb j none)) to (f j)) (eq-eqb j at s) ∙ ap (λ (b : Bool). cond (not b) to (f j)) (ne_eqb j none (λ w. named (sym s ∙ w))))
  | inr ne ↦
      ap (λ (b : Bool). cond b to (f j)) (ne_eqb j at ne)
      ∙ sym (ap (λ (b : Bool). cond (b && not (eqb j none)) to (f j)) (ne_eqb j at ne))
]

or-right-true : (a b : Bool) → b ≡ true → (a || b) ≡ true
or-right-true true b e = refl
or-right-true false b e = e

pub put-next : (set' at to : ℕ) (f : ℕ → ℕ → ℕ) (s j : ℕ) → (at ≡ none → ⊥) → put at to (f s) j ≡ put_next set' at to f s j
put-next set' at to f s j named = elim (cases_eq j at) [
  | inl q ↦
      let there : (eqb s set' || not (eqb j none)) ≡ true = or-right-true (eqb s set') (not (eqb j none)) (ap not (ne_eqb j none (λ w. named (sym q ∙ w)))) in
      ap (λ (b : Bool). cond b to (f s j)) (eq-eqb j at q)
      ∙ sym (ap (λ (b : Bool). cond (b && (eqb s set' || not (eqb j none))) to (f s j)) (eq-eqb j at q) ∙ ap (λ (b : Bool). cond b to (f s j)) there)
  | inr ne ↦
      ap (λ (b : Bool). cond b to (f s j)) (ne_eqb j at ne)
      ∙ sym (ap (λ (b : Bool). cond (b && (eqb s set' || not (eqb j none))) to (f s j)) (ne_eqb j at ne))
]

module _ (ns : List Node) (hs : List ℕ) (a b f : ℕ) (at to : ℕ) where
  pub newest-set : at ≡ none → chains ns hs to b f ≡ record (chains ns hs a b f) { older = put at to (chains ns hs a b f).older }
  newest-set e = λ i. record {
    older = λ j. from-lead a to (λ k. (node_at ns k).older) at j e i;
    newer = (chains ns hs a b f).newer;
    next = (chains ns hs a b f).next;
    free = (chains ns hs a b f).free;
    item = (chains ns hs a b f).item;
  }

  pub oldest-set : at ≡ none → chains ns hs a to f ≡ record (chains ns hs a b f) { newer = put at to (chains ns hs a b f).newer }
  oldest-set e = λ i. record {
    older = (chains ns hs a b f).older;
    newer = λ j. from-lead b to (λ k. (node_at ns k).newer) at j e i;
    next = (chains ns hs a b f).next;
    free = (chains ns hs a b f).free;
    item = (chains ns hs a b f).item;
  }

  pub free-set : chains ns hs a b to ≡ record (chains ns hs a b f) { free = put none to (chains ns hs a b f).free }
  free-set = λ i. record {
    older = (chains ns hs a b f).older;
    newer = (chains ns hs a b f).newer;
    next = (chains ns hs a b f).next;
    free = λ j. from-lead f to (λ k. (node_at ns k).next) none j refl i;
    item = (chains ns hs a b f).item;
  }

  pub older-set : (n : Node) → at < length ns → (at ≡ none → ⊥) → n ≡ record (node_at ns at) { older = to } → chains (set ns at n) hs a b f ≡ record (chains ns hs a b f) { older = put at to (chains ns hs a b f).older }
  older-set n lt named e = λ i. record {
    older = λ j. from-put (λ x. x.older) a ns at to j n lt named (ap (λ (x : Node). x.older) e) i;
    newer = λ j. from-kept (λ x. x.newer) b ns at j n lt (ap (λ (x : Node). x.newer) e) i;
    next = λ s j. from-kept (λ x. x.next) (get_or hs s none) ns at j n lt (ap (λ (x : Node). x.next) e) i;
    free = λ j. from-kept (λ x. x.next) f ns at j n lt (ap (λ (x : Node). x.next) e) i;
    item = λ j. part-kept (λ x. x.item) ns at j n lt (ap (λ (x : Node). x.item) e) i;
  }

  pub newer-set : (n : Node) → at < length ns → (at ≡ none → ⊥) → n ≡ record (node_at ns at) { newer = to } → chains (set ns at n) hs a b f ≡ record (chains ns hs a b f) { newer = put at to (chains ns hs a b f).newer }
  newer-set n lt named e = λ i. record {
    older = λ j. from-kept (λ x. x.older) a ns at j n lt (ap (λ (x : Node). x.older) e) i;
    newer = λ j. from-put (λ x. x.newer) b ns at to j n lt named (ap (λ (x : Node). x.newer) e) i;
    next = λ s j. from-kept (λ x. x.next) (get_or hs s none) ns at j n lt (ap (λ (x : Node). x.next) e) i;
    free = λ j. from-kept (λ x. x.next) f ns at j n lt (ap (λ (x : Node). x.next) e) i;
    item = λ j. part-kept (λ x. x.item) ns at j n lt (ap (λ (x : Node). x.item) e) i;
  }

  pub next-set : (set' : ℕ) (n : Node) → at < length ns → (at ≡ none → ⊥) → n ≡ record (node_at ns at) { next = to } → chains (set ns at n) hs a b f ≡ record (chains ns hs a b f) { next = put_next set' at to (chains ns hs a b f).next; free = put_free at to (chains ns hs a b f).free }
  next-set set' n lt named e = λ i. record {
    older = λ j. from-kept (λ x. x.older) a ns at j n lt (ap (λ (x : Node). x.older) e) i;
    newer = λ j. from-kept (λ x. x.newer) b ns at j n lt (ap (λ (x : Node). x.newer) e) i;
    next = λ s j. (from-put (λ x. x.next) (get_or hs s none) ns at to j n lt named (ap (λ (x : Node). x.next) e) ∙ put-next set' at to (chains ns hs a b f).next s j named) i;
    free = λ j. (from-put (λ x. x.next) f ns at to j n lt named (ap (λ (x : Node). x.next) e) ∙ put-free at to (chains ns hs a b f).free j named) i;
    item = λ j. part-kept (λ x. x.item) ns at j n lt (ap (λ (x : Node). x.item) e) i;
  }

  heads-at : (set' s j : ℕ) → at ≡ none → set' < length hs → from (get_or (set hs set' to) s none) (λ k. (node_at ns k).next) j ≡ put_next set' at to (chains ns hs a b f).next s j
  heads-at set' s j e lt = elim (cases_eq j none) [
    | inl q ↦ elim (cases_eq s set') [
      | inl w ↦
          sym (from-head (get_or (set hs set' to) s none) (λ k. (node_at ns k).next) j q)
          ∙ ap (λ (k : ℕ). get_or (set hs set' to) k none) w ∙ get_or-set_same hs set' to none lt
          ∙ sym (ap (λ (t : Bool). cond (t && (eqb s set' || not (eqb j none))) to ((chains ns hs a b f).next s j)) (eq-eqb j at (q ∙ sym e)) ∙ ap (λ (t : Bool). cond (t || not (eqb j none)) to ((chains ns hs a b f).next s j)) (eq-eqb s set' w))
      | inr ne ↦
          sym (from-head (get_or (set hs set' to) s none) (λ k. (node_at ns k).next) j q)
          ∙ get_or-set_other hs set' s to none ne
          ∙ from-head (get_or hs s none) (λ k. (node_at ns k).next) j q
          ∙ sym (ap (λ (t : Bool). cond (t && (eqb s set' || not (eqb j none))) to ((chains ns hs a b f).next s j)) (eq-eqb j at (q ∙ sym e)) ∙ ap (λ (t : Bool). cond (t || not (eqb j none)) to ((chains ns hs a b f).next s j)) (ne_eqb s set' ne) ∙ ap (λ (t : Bool). cond (not t) to ((chains ns hs a b f).next s j)) (eq-eqb j none q))
    ]
    | inr n ↦
        sym (from-node (get_or (set hs set' to) s none) (λ k. (node_at ns k).next) j n)
        ∙ from-node (get_or hs s none) (λ k. (node_at ns k).next) j n
        ∙ sym (ap (λ (t : Bool). cond (t && (eqb s set' || not (eqb j none))) to ((chains ns hs a b f).next s j)) (ne_eqb j at (λ w. n (w ∙ e))))
  ]

  free-at : (j : ℕ) → at ≡ none → (chains ns hs a b f).free j ≡ put_free at to (chains ns hs a b f).free j
  free-at j e = elim (cases_eq j none) [
    | inl q ↦ sym (ap (λ (c : Bool). cond (c && not (eqb j none)) to ((chains ns hs a b f).free j)) (eq-eqb j at (q ∙ sym e)) ∙ ap (λ (c : Bool). cond (not c) to ((chains ns hs a b f).free j)) (eq-eqb j none q))
    | inr n ↦ sym (ap (λ (c : Bool). cond (c && not (eqb j none)) to ((chains ns hs a b f).free j)) (ne_eqb j at (λ w. n (w ∙ e))))
  ]

  pub heads-set : (set' : ℕ) → at ≡ none → set' < length hs → chains ns (set hs set' to) a b f ≡ record (chains ns hs a b f) { next = put_next set' at to (chains ns hs a b f).next; free = put_free at to (chains ns hs a b f).free }
  heads-set set' e lt = λ i. record {
    older = (chains ns hs a b f).older;
    newer = (chains ns hs a b f).newer;
    next = λ s j. heads-at set' s j e lt i;
    free = λ j. free-at j e i;
    item = (chains ns hs a b f).item;
  }

pub node-set : (ns : List Node) (hs : List ℕ) (a b f : ℕ) (at : ℕ) (n m : Node) → at < length ns → (at ≡ none → ⊥) → n ≡ m → chains (set ns at n) hs a b f ≡ with_node at m (chains ns hs a b f)
node-set ns hs a b f at n m lt named e = λ i. record {
  older = λ j. from-put (λ x. x.older) a ns at m.older j n lt named (ap (λ (x : Node). x.older) e) i;
  newer = λ j. from-put (λ x. x.newer) b ns at m.newer j n lt named (ap (λ (x : Node). x.newer) e) i;
  next = λ s j. from-put (λ x. x.next) (get_or hs s none) ns at m.next j n lt named (ap (λ (x : Node). x.next) e) i;
  free = λ j. from-put (λ x. x.next) f ns at m.next j n lt named (ap (λ (x : Node). x.next) e) i;
  item = λ j. item-put j i;
}
  where
    item-put : (j : ℕ) → (node_at (set ns at n) j).item ≡ put_item at m.item (λ k. (node_at ns k).item) j
    item-put j = elim (cases_eq j at) [
      | inl s ↦ ap (λ (k : ℕ). (node_at (set ns at n) k).item) s ∙ part-at (λ x. x.item) ns at n lt ∙ ap (λ (x : Node). x.item) e ∙ ap (λ (c : Bool). cond c m.item (node_at ns j).item) (sym (eq-eqb j at s))
      | inr ne ↦ part-else (λ x. x.item) ns at j n ne ∙ ap (λ (c : Bool). cond c m.item (node_at ns j).item) (sym (ne_eqb j at ne))
    ]

pub item-set : (ns : List Node) (hs : List ℕ) (a b f : ℕ) (at : ℕ) (it : PoolItem) (n : Node) → at < length ns → n ≡ record (node_at ns at) { item = it } → chains (set ns at n) hs a b f ≡ record (chains ns hs a b f) { item = put_item at it (chains ns hs a b f).item }
item-set ns hs a b f at it n lt e = λ i. record {
  older = λ j. from-kept (λ x. x.older) a ns at j n lt (ap (λ (x : Node). x.older) e) i;
  newer = λ j. from-kept (λ x. x.newer) b ns at j n lt (ap (λ (x : Node). x.newer) e) i;
  next = λ s j. from-kept (λ x. x.next) (get_or hs s none) ns at j n lt (ap (λ (x : Node). x.next) e) i;
  free = λ j. from-kept (λ x. x.next) f ns at j n lt (ap (λ (x : Node). x.next) e) i;
  item = λ j. item-put j i;
}
  where
    item-put : (j : ℕ) → (node_at (set ns at n) j).item ≡ put_item at it (λ k. (node_at ns k).item) j
    item-put j = elim (cases_eq j at) [
      | inl s ↦ ap (λ (k : ℕ). (node_at (set ns at n) k).item) s ∙ part-at (λ x. x.item) ns at n lt ∙ ap (λ (x : Node). x.item) e ∙ ap (λ (c : Bool). cond c it (node_at ns j).item) (sym (eq-eqb j at s))
      | inr ne ↦ part-else (λ x. x.item) ns at j n ne ∙ ap (λ (c : Bool). cond c it (node_at ns j).item) (sym (ne_eqb j at ne))
    ]
