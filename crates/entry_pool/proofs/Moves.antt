-- The pool after a node was taken out of its chains, or put into them.
use Rattle.std.proofs.Common.{◌≡◌, ◌≢◌, ℕ, Bool, true, false, cond, eqb, List, [], ◌∷◌, ◌++◌, filter, inl, inr, refl, sym, ap, subst, ◌∙◌, arith, append_assoc}
use Rattle.std.specs.Prelude.{◌⊎◌}
use Rattle.std.proofs.lemmas.Bool.{eqb-true, eq-eqb, ne_eqb, cases_eq}
use Rattle.std.proofs.lemmas.List.Elements.{filter-append}
use Rattle.std.proofs.lemmas.List.{length-append}
use Rattle.entry_pool.specs.declared.pool_item.PoolItem.{PoolItem}
use Rattle.entry_pool.specs.Chains.{none, IsPath, IsBack, IsIn, IsDistinct, end_of, start_of, Chains, IsPool, is_in_set, IsTaken, IsGiven}
use Rattle.entry_pool.proofs.ChainLaws.{path-turn, path-push, path-behind, path-start, path-unlink, back-turn, back-at, back-unlink, in-left, in-right, in-same, end-in}
use Rattle.entry_pool.proofs.PoolLaws.{filter-in, distinct-filter, distinct-left, distinct-apart, in-moved, moved-in, distinct-moved, distinct-back}

-- tests that agree on each of these keep the same of them
pub filter-agree : (p q : ℕ → Bool) (xs : List ℕ) → ((y : ℕ) → IsIn y xs → p y ≡ q y) → filter p xs ≡ filter q xs
filter-agree p q [] same = refl
filter-agree p q (x ∷ xs) same =
    ap (λ (b : Bool). cond b (x ∷ filter p xs) (filter p xs)) (same x (inl refl)) ∙ ap (λ (ys : List ℕ). cond (q x) (x ∷ ys) ys) (filter-agree p q xs (λ y i. same y (inr i)))

-- one that passes stays in the middle
pub filter-keeps : (p : ℕ → Bool) (bs : List ℕ) (x : ℕ) (ys : List ℕ) → p x ≡ true → filter p (bs ++ x ∷ ys) ≡ filter p bs ++ x ∷ filter p ys
filter-keeps p bs x ys e = filter-append p bs (x ∷ ys) ∙ ap (λ (b : Bool). filter p bs ++ cond b (x ∷ filter p ys) (filter p ys)) e

-- one that does not leaves the rest
pub filter-skips : (p : ℕ → Bool) (bs : List ℕ) (x : ℕ) (ys : List ℕ) → p x ≡ false → filter p (bs ++ x ∷ ys) ≡ filter p (bs ++ ys)
filter-skips p bs x ys e = filter-append p bs (x ∷ ys) ∙ ap (λ (b : Bool). filter p bs ++ cond b (x ∷ filter p ys) (filter p ys)) e ∙ sym (filter-append p bs ys)

-- no node has the number that stands for none
pub unnamed : (c : Chains) (total : ℕ) (ages frees : List ℕ) → IsPool c total ages frees → ¬ IsIn none (ages ++ frees)
unnamed c total ages frees pool i = let lt = pool.below none i in let few = pool.few in absurd (omega (arith, lt, few))

module _ (c d : Chains) (total x q : ℕ) (bs ys frees : List ℕ) (pool : IsPool c total (bs ++ x ∷ ys) frees) (taken : IsTaken c d x q) (found : q ≡ end_of none (filter (is_in_set c.item (c.item x).set) bs)) where
  p : ℕ → Bool
  p = is_in_set c.item (c.item x).set

  passes : is_in_set c.item (c.item x).set x ≡ true
  passes = eq-eqb (c.item x).set (c.item x).set refl

  no_name : ¬ IsIn none (bs ++ x ∷ ys)
  no_name = λ i. unnamed c total (bs ++ x ∷ ys) frees pool (in-left none (bs ++ x ∷ ys) frees i)

  apart_ages : IsDistinct (bs ++ x ∷ ys)
  apart_ages = distinct-left (bs ++ x ∷ ys) frees pool.apart

  taken_newer : c.newer x ≡ end_of none bs
  taken_newer = back-at c.newer none bs x ys pool.newer

  taken_older : c.older x ≡ start_of none ys
  taken_older = path-behind c.older none bs x ys pool.older

  pub remove-older : IsPath d.older none (bs ++ ys)
  remove-older =
      path-unlink c.older d.older none bs x ys (no_name, apart_ages) pool.older (ap d.older (sym taken_newer) ∙ taken.older_at) (λ y i n. taken.older_else y (λ e. n (e ∙ taken_newer)))

  pub remove-newer : IsBack d.newer none (bs ++ ys)
  remove-newer =
      back-unlink c.newer d.newer none bs x ys no_name apart_ages pool.newer (ap d.newer (sym taken_older) ∙ taken.newer_at) (λ y i n. taken.newer_else y (λ e. n (e ∙ taken_older)))

  -- what leads to the node lies among the ages, or is the head
  found_in : (q ≡ none) ⊎ IsIn q (filter (is_in_set c.item (c.item x).set) bs)
  found_in = elim (end-in none (filter (is_in_set c.item (c.item x).set) bs)) [
    | inl e ↦ inl (found ∙ e)
    | inr i ↦ inr (in-same (end_of none (filter (is_in_set c.item (c.item x).set) bs)) q (filter (is_in_set c.item (c.item x).set) bs) (sym found) i)
  ]

  same_items : (set : ℕ) (zs : List ℕ) → filter (is_in_set d.item set) zs ≡ filter (is_in_set c.item set) zs
  same_items set zs = filter-agree (is_in_set d.item set) (is_in_set c.item set) zs (λ y i. ap (λ (it : PoolItem). eqb it.set set) (taken.item y))

  remove-own : IsPath (d.next (c.item x).set) none (filter (is_in_set c.item (c.item x).set) (bs ++ ys))
  remove-own =
      let s = (c.item x).set in
      let fb = filter (is_in_set c.item s) bs in
      let fy = filter (is_in_set c.item s) ys in
      let e : filter (is_in_set c.item s) (bs ++ x ∷ ys) ≡ fb ++ x ∷ fy = filter-keeps (is_in_set c.item s) bs x ys passes in
      let path : IsPath (c.next s) none (fb ++ x ∷ fy) = subst (λ (zs : List ℕ). IsPath (c.next s) none zs) e (pool.next s) in
      let apart : IsDistinct (fb ++ x ∷ fy) = subst (λ (zs : List ℕ). IsDistinct zs) e (distinct-filter (is_in_set c.item s) (bs ++ x ∷ ys) apart_ages) in
      let named : ¬ IsIn none (fb ++ x ∷ fy) = λ i. no_name (filter-in (is_in_set c.item s) none (bs ++ x ∷ ys) (subst (λ (zs : List ℕ). IsIn none zs) (sym e) i)).0 in
      let first : d.next s (end_of none fb) ≡ c.next s x = ap (d.next s) (sym found) ∙ taken.next_at in
      let not_x : (y : ℕ) → IsIn y (none ∷ fb ++ fy) → y ≢ x = λ y i w. elim i [
        | inl j ↦ named (in-right none fb (x ∷ fy) (inl (sym j ∙ w)))
        | inr j ↦ (distinct-back fb x fy apart).0 (in-same y x (fb ++ fy) w j)
      ] in
      let left : IsPath (d.next s) none (fb ++ fy) = path-unlink (c.next s) (d.next s) none fb x fy (named, apart) path first (λ y i n. taken.next_else s y (λ w. n (w ∙ found)) (not_x y i)) in
      subst (λ (zs : List ℕ). IsPath (d.next s) none zs) (sym (filter-append (is_in_set c.item s) bs ys)) left

  set_of_kept : (set y : ℕ) (zs : List ℕ) → IsIn y (filter (is_in_set c.item set) zs) → (c.item y).set ≡ set
  set_of_kept set y zs i = eqb-true (c.item y).set set (filter-in (is_in_set c.item set) y zs i).1

  remove-other : (set : ℕ) → set ≢ (c.item x).set → IsPath (d.next set) none (filter (is_in_set c.item set) (bs ++ ys))
  remove-other set n =
      let e : filter (is_in_set c.item set) (bs ++ x ∷ ys) ≡ filter (is_in_set c.item set) (bs ++ ys) = filter-skips (is_in_set c.item set) bs x ys (ne_eqb (c.item x).set set (λ w. n (sym w))) in
      let zs = filter (is_in_set c.item set) (bs ++ x ∷ ys) in
      let kept : IsPath (d.next set) none zs = path-turn (c.next set) (d.next set) none none zs (pool.next set) (taken.next_head set n) (λ y i. taken.next_else set y
      (λ w. elim found_in [
        | inl h ↦ no_name (in-same y none (bs ++ x ∷ ys) (w ∙ h) (filter-in (is_in_set c.item set) y (bs ++ x ∷ ys) i).0)
        | inr j ↦ n (sym (set_of_kept set y (bs ++ x ∷ ys) i) ∙ ap (λ (k : ℕ). (c.item k).set) w ∙ set_of_kept (c.item x).set q bs j)
      ])
      (λ w. n (sym (set_of_kept set y (bs ++ x ∷ ys) i) ∙ ap (λ (k : ℕ). (c.item k).set) w))) in
      subst (λ (vs : List ℕ). IsPath (d.next set) none vs) e kept

  pub remove-next : (set : ℕ) → IsPath (d.next set) none (filter (is_in_set d.item set) (bs ++ ys))
  remove-next set = subst (λ (vs : List ℕ). IsPath (d.next set) none vs) (sym (same_items set (bs ++ ys))) (elim (cases_eq set (c.item x).set) [
    | inl e ↦ subst (λ (s : ℕ). IsPath (d.next s) none (filter (is_in_set c.item s) (bs ++ ys))) (sym e) remove-own
    | inr n ↦ remove-other set n
  ])

  pub remove-free : IsPath d.free none (x ∷ frees)
  remove-free =
      let x_there : IsIn x (bs ++ x ∷ ys) = in-right x bs (x ∷ ys) (inl refl) in
      path-push c.free d.free none x frees pool.free taken.free_head taken.free_at (λ y i. taken.free_else y
      (λ w. unnamed c total (bs ++ x ∷ ys) frees pool (in-right none (bs ++ x ∷ ys) frees (in-same y none frees w i)))
      (λ w. elim found_in [
        | inl h ↦ unnamed c total (bs ++ x ∷ ys) frees pool (in-right none (bs ++ x ∷ ys) frees (in-same y none frees (w ∙ h) i))
        | inr j ↦ distinct-apart (bs ++ x ∷ ys) frees q pool.apart (in-left q bs (x ∷ ys) (filter-in (is_in_set c.item (c.item x).set) q bs j).0) (in-same y q frees w i)
      ])
      (λ w. distinct-apart (bs ++ x ∷ ys) frees x pool.apart x_there (in-same y x frees w i)))

  regroup : (bs ++ x ∷ ys) ++ frees ≡ bs ++ x ∷ (ys ++ frees)
  regroup = append_assoc bs (x ∷ ys) frees

  regroup_rest : x ∷ bs ++ (ys ++ frees) ≡ x ∷ (bs ++ ys) ++ frees
  regroup_rest = ap (λ (zs : List ℕ). x ∷ zs) (sym (append_assoc bs ys frees))

  pub pool-remove : IsPool d total (bs ++ ys) (x ∷ frees)
  pool-remove =
      let apart : IsDistinct (bs ++ x ∷ (ys ++ frees)) = subst (λ (zs : List ℕ). IsDistinct zs) regroup pool.apart in
      let apart' : IsDistinct (x ∷ (bs ++ ys) ++ frees) = subst (λ (zs : List ℕ). IsDistinct zs) regroup_rest (distinct-back bs x (ys ++ frees) apart) in
      let l1 = length-append bs (x ∷ ys) in
      let l2 = length-append bs ys in
      let all = pool.all in
      record {
        older = remove-older;
        newer = remove-newer;
        next = remove-next;
        free = remove-free;
        apart = distinct-moved (bs ++ ys) x frees apart';
        below = λ i h. pool.below i (subst (λ (zs : List ℕ). IsIn i zs) (sym regroup) (moved-in bs x (ys ++ frees) i (subst (λ (zs : List ℕ). IsIn i zs) (sym regroup_rest) (in-moved (bs ++ ys) x frees i h))));
        all = omega (arith, l1, l2, all);
        few = pool.few;
      }

module _ (c d : Chains) (total x : ℕ) (item : PoolItem) (ages frees : List ℕ) (pool : IsPool c total ages (x ∷ frees)) (given : IsGiven c d x item) where
  free_named : ¬ IsIn none (ages ++ x ∷ frees)
  free_named = unnamed c total ages (x ∷ frees) pool

  x_named : x ≢ none
  x_named w = free_named (in-right none ages (x ∷ frees) (inl (sym w)))

  back : IsDistinct (x ∷ ages ++ frees)
  back = distinct-back ages x frees pool.apart

  not_x : (y : ℕ) → IsIn y ages → y ≢ x
  not_x y i w = back.0 (in-left x ages frees (in-same y x ages w i))

  not_none : (y : ℕ) → IsIn y ages → y ≢ none
  not_none y i w = free_named (in-left none ages (x ∷ frees) (in-same y none ages w i))

  push-newer : IsBack d.newer none (x ∷ ages)
  push-newer =
      let first : c.older none ≡ start_of none ages = path-start c.older none ages pool.older in (
        given.newer_at,
        back-turn c.newer d.newer none x ages (λ i. free_named (in-left none ages (x ∷ frees) i)) (distinct-left ages (x ∷ frees) pool.apart) pool.newer (ap d.newer (sym first) ∙ given.newer_first) (λ y i n. given.newer_else y
            (λ w. elim i [
              | inl e ↦ x_named (sym w ∙ e)
              | inr j ↦ not_x y j w
            ])
            (λ w. n (w ∙ first))),
      )

  same_old : (set : ℕ) → filter (is_in_set d.item set) ages ≡ filter (is_in_set c.item set) ages
  same_old set = filter-agree (is_in_set d.item set) (is_in_set c.item set) ages (λ y i. ap (λ (it : PoolItem). eqb it.set set) (given.item_else y (not_x y i)))

  in_ages : (set y : ℕ) → IsIn y (filter (is_in_set c.item set) ages) → IsIn y ages
  in_ages set y i = (filter-in (is_in_set c.item set) y ages i).0

  push-next : (set : ℕ) → IsPath (d.next set) none (filter (is_in_set d.item set) (x ∷ ages))
  push-next set = elim (cases_eq item.set set) [
    | inl e ↦
        let zs = filter (is_in_set c.item item.set) ages in
        let path : IsPath (d.next item.set) none (x ∷ zs) = path-push (c.next item.set) (d.next item.set) none x zs (pool.next item.set) given.next_head given.next_at (λ y i. given.next_else item.set y (not_none y (in_ages item.set y i)) (not_x y (in_ages item.set y i))) in
        let first : is_in_set d.item item.set x ≡ true = eq-eqb (d.item x).set item.set (ap (λ (it : PoolItem). it.set) given.item_at) in
        let all : filter (is_in_set d.item item.set) (x ∷ ages) ≡ x ∷ zs = ap (λ (b : Bool). cond b (x ∷ filter (is_in_set d.item item.set) ages) (filter (is_in_set d.item item.set) ages)) first ∙ ap (λ (vs : List ℕ). x ∷ vs) (same_old item.set) in
        subst (λ (s : ℕ). IsPath (d.next s) none (filter (is_in_set d.item s) (x ∷ ages))) e (subst (λ (vs : List ℕ). IsPath (d.next item.set) none vs) (sym all) path)
    | inr n ↦
        let zs = filter (is_in_set c.item set) ages in
        let path : IsPath (d.next set) none zs = path-turn (c.next set) (d.next set) none none zs (pool.next set) (given.next_heads set (λ w. n (sym w))) (λ y i. given.next_else set y (not_none y (in_ages set y i)) (not_x y (in_ages set y i))) in
        let first : is_in_set d.item set x ≡ false = ne_eqb (d.item x).set set (λ w. n (sym (ap (λ (it : PoolItem). it.set) given.item_at) ∙ w)) in
        let all : filter (is_in_set d.item set) (x ∷ ages) ≡ zs = ap (λ (b : Bool). cond b (x ∷ filter (is_in_set d.item set) ages) (filter (is_in_set d.item set) ages)) first ∙ same_old set in
        subst (λ (vs : List ℕ). IsPath (d.next set) none vs) (sym all) path
  ]

  pub pool-push : IsPool d total (x ∷ ages) frees
  pool-push =
      let all = pool.all in
      record {
        older = path-push c.older d.older none x ages pool.older given.older_head given.older_at (λ y i. given.older_else y (not_none y i) (not_x y i));
        newer = push-newer;
        next = push-next;
        free = path-turn c.free d.free x none frees pool.free.1 given.free_head (λ y i. given.free_else y
            (λ w. free_named (in-right none ages (x ∷ frees) (inr (in-same y none frees w i))))
            (λ w. back.0 (in-right x ages frees (in-same y x frees w i))));
        apart = back;
        below = λ i h. pool.below i (moved-in ages x frees i h);
        all = omega (arith, all);
        few = pool.few;
      }
