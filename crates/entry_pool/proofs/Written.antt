-- The links that are written, one after another, when a node is given or taken.
use Rattle.std.proofs.Common.{◌≡◌, ℕ, Bool, false, cond, eqb, not, inl, inr, refl, sym, ap, ◌∙◌}
use Rattle.std.specs.Prelude.{◌&&◌, ◌||◌}
use Rattle.std.proofs.lemmas.Bool.{eq-eqb, ne_eqb, cases_Bool}
use Rattle.entry_pool.specs.declared.pool_item.PoolItem.{PoolItem}
use Rattle.entry_pool.specs.Chains.{none, Chains, IsGiven, IsTaken}
use Rattle.entry_pool.specs.Linked.{put, put_next, put_free, put_item, with_node}

put-is : (at to : ℕ) (f : ℕ → ℕ) (j : ℕ) → j ≡ at → put at to f j ≡ to
put-is at to f j e = ap (λ (b : Bool). cond b to (f j)) (eq-eqb j at e)

put-not : (at to : ℕ) (f : ℕ → ℕ) (j : ℕ) → (j ≡ at → ⊥) → put at to f j ≡ f j
put-not at to f j n = ap (λ (b : Bool). cond b to (f j)) (ne_eqb j at n)

next-is : (set' at to : ℕ) (f : ℕ → ℕ → ℕ) (s j : ℕ) → s ≡ set' → j ≡ at → put_next set' at to f s j ≡ to
next-is set' at to f s j w e =
    ap (λ (b : Bool). cond (b && (eqb s set' || not (eqb j none))) to (f s j)) (eq-eqb j at e)
    ∙ ap (λ (b : Bool). cond (b || not (eqb j none)) to (f s j)) (eq-eqb s set' w)

next-not : (set' at to : ℕ) (f : ℕ → ℕ → ℕ) (s j : ℕ) → (j ≡ at → ⊥) → put_next set' at to f s j ≡ f s j
next-not set' at to f s j n = ap (λ (b : Bool). cond (b && (eqb s set' || not (eqb j none))) to (f s j)) (ne_eqb j at n)

-- the head of another set
next-other : (set' at to : ℕ) (f : ℕ → ℕ → ℕ) (s : ℕ) → (s ≡ set' → ⊥) → put_next set' at to f s none ≡ f s none
next-other set' at to f s n = elim (cases_Bool (eqb none at)) [
  | inl e ↦
      ap (λ (b : Bool). cond (b && (eqb s set' || false)) to (f s none)) e
      ∙ ap (λ (b : Bool). cond (b || false) to (f s none)) (ne_eqb s set' n)
  | inr e ↦ ap (λ (b : Bool). cond (b && (eqb s set' || false)) to (f s none)) e
]

free-is : (at to : ℕ) (f : ℕ → ℕ) (j : ℕ) → j ≡ at → (j ≡ none → ⊥) → put_free at to f j ≡ to
free-is at to f j e n =
    ap (λ (b : Bool). cond (b && not (eqb j none)) to (f j)) (eq-eqb j at e)
    ∙ ap (λ (b : Bool). cond (not b) to (f j)) (ne_eqb j none n)

free-not : (at to : ℕ) (f : ℕ → ℕ) (j : ℕ) → (j ≡ at → ⊥) → put_free at to f j ≡ f j
free-not at to f j n = ap (λ (b : Bool). cond (b && not (eqb j none)) to (f j)) (ne_eqb j at n)

free-head : (at to : ℕ) (f : ℕ → ℕ) → put_free at to f none ≡ f none
free-head at to f = elim (cases_Bool (eqb none at)) [
  | inl e ↦ ap (λ (b : Bool). cond (b && false) to (f none)) e
  | inr e ↦ ap (λ (b : Bool). cond (b && false) to (f none)) e
]

item-is : (at : ℕ) (item : PoolItem) (f : ℕ → PoolItem) (j : ℕ) → j ≡ at → put_item at item f j ≡ item
item-is at item f j e = ap (λ (b : Bool). cond b item (f j)) (eq-eqb j at e)

item-not : (at : ℕ) (item : PoolItem) (f : ℕ → PoolItem) (j : ℕ) → (j ≡ at → ⊥) → put_item at item f j ≡ f j
item-not at item f j n = ap (λ (b : Bool). cond b item (f j)) (ne_eqb j at n)

-- chains of which one link leads elsewhere
abbrev pub with_older : ℕ → ℕ → Chains → Chains
with_older at to c = record c { older = put at to c.older }

abbrev pub with_newer : ℕ → ℕ → Chains → Chains
with_newer at to c = record c { newer = put at to c.newer }

abbrev pub with_next : ℕ → ℕ → ℕ → Chains → Chains
with_next set at to c = record c { next = put_next set at to c.next; free = put_free at to c.free }

abbrev pub with_free : ℕ → Chains → Chains
with_free to c = record c { free = put none to c.free }

-- what is written when a node is taken
pub written-taken : (c : Chains) (x q s n older newer free : ℕ) → (x ≡ none → ⊥) → (q ≡ x → ⊥) → s ≡ (c.item x).set → n ≡ c.next s x → older ≡ c.older x → newer ≡ c.newer x → free ≡ c.free none →
    IsTaken c (with_free x (with_next s x free (with_next s q n (with_newer older newer (with_older newer older c))))) x q
written-taken c x q s n older newer free named apart es en eo ew ef =
    let c3 = with_next s q n (with_newer older newer (with_older newer older c)) in
    let c4 = with_next s x free c3 in
    record {
      older_at = put-is newer older c.older (c.newer x) (sym ew) ∙ eo;
      older_else = λ y ne. put-not newer older c.older y (λ e. ne (e ∙ ew));
      newer_at = put-is older newer c.newer (c.older x) (sym eo) ∙ ew;
      newer_else = λ y ne. put-not older newer c.newer y (λ e. ne (e ∙ eo));
      next_at = next-not s x free c3.next (c.item x).set q apart ∙ next-is s q n c.next (c.item x).set q (sym es) refl ∙ en ∙ ap (λ (k : ℕ). c.next k x) es;
      next_else = λ set y nq nx. next-not s x free c3.next set y nx ∙ next-not s q n c.next set y nq;
      next_head = λ set ne. next-other s x free c3.next set (λ e. ne (e ∙ es)) ∙ next-other s q n c.next set (λ e. ne (e ∙ es));
      free_head = put-is none x c4.free none refl;
      free_at = put-not none x c4.free x named ∙ free-is x free c3.free x refl named ∙ ef;
      free_else = λ y nn nq nx. put-not none x c4.free y nn ∙ free-not x free c3.free y nx ∙ free-not q n c.free y nq;
      item = λ y. refl;
    }

-- what is written when a node is given
pub written-given : (c : Chains) (x : ℕ) (item : PoolItem) (free next older : ℕ) → (x ≡ none → ⊥) → (c.older none ≡ x → ⊥) → free ≡ c.free x → next ≡ c.next item.set none → older ≡ c.older none →
    IsGiven c (with_next item.set none x (with_older none x (with_newer older x (with_node x (record { item = item; next = next; older = older; newer = none }) (with_free free c))))) x item
written-given c x item free next older named apart ef en eo =
    let c1 = with_free free c in
    let c2 = with_node x (record { item = item; next = next; older = older; newer = none }) c1 in
    let c4 = with_older none x (with_newer older x c2) in
    record {
      older_head = put-is none x c2.older none refl;
      older_at = put-not none x c2.older x named ∙ put-is x older c.older x refl ∙ eo;
      older_else = λ y nn nx. put-not none x c2.older y nn ∙ put-not x older c.older y nx;
      newer_at = put-not older x c2.newer x (λ e. apart (sym eo ∙ sym e)) ∙ put-is x none c.newer x refl;
      newer_first = put-is older x c2.newer (c.older none) (sym eo);
      newer_else = λ y nx nf. put-not older x c2.newer y (λ e. nf (e ∙ eo)) ∙ put-not x none c.newer y nx;
      next_head = next-is item.set none x c4.next item.set none refl refl;
      next_at = next-not item.set none x c4.next item.set x named ∙ put-is x next (c.next item.set) x refl ∙ en;
      next_else = λ set y nn nx. next-not item.set none x c4.next set y nn ∙ put-not x next (c.next set) y nx;
      next_heads = λ set ne. next-other item.set none x c4.next set ne ∙ put-not x next (c.next set) none (λ e. named (sym e));
      free_head = free-head none x c4.free ∙ put-not x next c1.free none (λ e. named (sym e)) ∙ put-is none free c.free none refl ∙ ef;
      free_else = λ y nn nx. free-not none x c4.free y nn ∙ put-not x next c1.free y nx ∙ put-not none free c.free y nn;
      item_at = item-is x item c.item x refl;
      item_else = λ y nx. item-not x item c.item y nx;
    }
