-- Each step of a seat keeps the clock's rule.
use Rattle.std.proofs.Common.{◌≡◌, ℕ, ◌<◌, ◌≤◌, ◌^◌, ◌⊎◌, max, List, [], ◌∷◌, ◌++◌, get_or, set, sym, refl, ap, ◌∙◌, subst, arith, length-set, get_or-set_same, ⊎_elim, inl, inr, zero, suc}
use mathlib.Core.Option.{some, none, some-injective, some-ne-none}
use mathlib.Core.Logic.{dite}
use native.Mathlib.Decide.{dec_le, ℕ_discrete}
use lib.ListN.{get_elem?}
use Rattle.atomic_table.specs.Table.{State, Me, step, keeps, stepped, Allows, Splits}
use Rattle.atomic_table.proofs.Lists.{at_set, at_snoc, at_longer, set_else}
use Rattle.shared_cache.specs.declared.clock_rule.View.{View}
use Rattle.shared_cache.specs.Word.{IsKept, IsBelow, Looked, Raised, view}

abbrev St : Type 0
St = State (Unit {0}) View

abbrev M : Type 0
M = Me (Unit {0}) View

-- some seat raised the word to n, or it is 0
abbrev Source : ℕ → List View → Type 0
Source n views = (n ≡ 0) ⊎ ((seat : ℕ) × (v : View) × (get_elem? views seat ≡ some v) × (v.raised ≡ n))

-- what a view was set to stands there
set_there : (l : List View) (i : ℕ) (v w : View) → get_elem? l i ≡ some v → get_elem? (set l i w) i ≡ some w
set_there [] i v w e = absurd (some-ne-none v (sym e))
set_there (x ∷ xs) zero v w e = refl
set_there (x ∷ xs) (suc i) v w e = set_there xs i v w e

-- a source stays if a seat has raised no less than before
source_set : (n : ℕ) (views : List View) (id : ℕ) (v w : View) → get_elem? views id ≡ some v → (v.raised ≡ n → w.raised ≡ n) → Source n views → Source n (set views id w)
source_set n views id v w at up from = ⊎_elim {C = Source n (set views id w)}
    (λ z. inl z)
    (λ t. dite (ℕ_discrete t.0 id)
    (λ here. let same : v ≡ t.1 = some-injective v t.1 (sym at ∙ (ap (λ (k : ℕ). get_elem? views k) (sym here) ∙ t.2)) in
    inr (id, w, set_there views id v w at, up (ap (λ (u : View). u.raised) same ∙ t.3)))
    (λ else'. inr (t.0, t.1, set_else views id t.0 w else' ∙ t.2, t.3)))
    from

-- the word rises to n, which has a source, and no view to more
stays : (s : St) (n id : ℕ) (w : View) (c : List (ℕ × Unit {0})) → IsKept s → get_or s.words 0 0 ≤ n → n < 2 ^ 63 → IsBelow n w → Source n (set s.views id w) → IsKept (stepped s 0 n id c w keeps)
stays s n id w c k up small low from = let same : get_or (set s.words 0 n) 0 0 ≡ n = get_or-set_same s.words 0 n 0 (let h = k.one in omega arith) in
    record {
      one = length-set s.words 0 n ∙ k.one;
      bounded = omega arith;
      above = λ seat v at. rw same (⊎_elim {C = IsBelow n v}
          (λ t. subst (IsBelow n) t.1 low)
          (λ t. let h = k.above seat v t.1 in let a = h.seen in let b = h.raised in record { seen = omega arith; raised = omega arith })
          (at_set s.views id seat w v at));
      source = rw same from;
    }

pub looks : (slots id : ℕ) (me : M) → Allows IsKept slots id me 0 (λ n. n) (Looked (step slots 0 0 0 none) me)
looks slots id me s k _ at _ = let x : ℕ = get_or s.words 0 0 in let low = k.above id me.0 at in let small = k.bounded in
    let w : View = view x x me.0.raised in
    let a = low.seen in let b = low.raised in
    (w, keeps, tt, stays s x id w me.1 k (omega arith) small (record { seen = omega arith; raised = omega arith }) (source_set x s.views id me.0 w at (λ e. e) k.source), (refl, a, small, refl))

pub raises : (slots id stamp : ℕ) (me : M) → stamp < 2 ^ 63 → Allows IsKept slots id me 0 (λ n. max n stamp) (Raised (step slots 0 stamp 0 none) me)
raises slots id stamp me fits s k _ at _ = let x : ℕ = get_or s.words 0 0 in let low = k.above id me.0 at in let small = k.bounded in
    let w : View = view (max me.0.seen stamp) me.0.loaded (max me.0.raised stamp) in
    let a = low.seen in let b = low.raised in
    let from : Source (max x stamp) (set s.views id w) = dite (dec_le stamp x)
    (λ less. let same : x ≡ max x stamp = omega arith in subst (λ (n : ℕ). Source n (set s.views id w)) same (source_set x s.views id me.0 w at (λ e. omega arith) k.source))
    (λ more. inr (id, w, set_there s.views id me.0 w at, omega arith)) in
    (w, keeps, tt, stays s (max x stamp) id w me.1 k (omega arith) (omega arith) (record { seen = omega arith; raised = omega arith }) from, (refl, refl))

pub twins : (id : ℕ) (v : View) → Splits IsKept id v v (view 0 0 0)
twins id v s k at = record {
  one = k.one;
  bounded = k.bounded;
  above = λ seat w here. ⊎_elim {C = IsBelow (get_or s.words 0 0) w}
      (λ t. ⊎_elim {C = IsBelow (get_or s.words 0 0) w} (λ u. subst (IsBelow (get_or s.words 0 0)) u.1 (k.above id v at)) (λ u. k.above seat w u.1) (at_set s.views id seat v w t))
      (λ e. subst (IsBelow (get_or s.words 0 0)) e (record { seen = omega arith; raised = omega arith }))
      (at_snoc (set s.views id v) (view 0 0 0) w seat here);
  source = ⊎_elim {C = Source (get_or s.words 0 0) (set s.views id v ++ view 0 0 0 ∷ [])}
      (λ z. inl z)
      (λ t. inr (t.0, t.1, at_longer (set s.views id v) (view 0 0 0 ∷ []) t.0 t.1 t.2, t.3))
      (source_set (get_or s.words 0 0) s.views id v v at (λ e. e) k.source);
}
