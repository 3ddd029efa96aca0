-- What is known of a sound pool, and that it stays so.
use Rattle.std.proofs.Common.{◌≡◌, ℕ, suc, ◌-◌, ◌<◌, ◌≤◌, Bool, cond, not, List, [], ◌∷◌, ◌++◌, length, get_or, inl, inr, refl, sym, ap, subst, ◌∙◌, arith}
use Rattle.std.proofs.lemmas.Bool.{eq-eqb, ne_eqb, cases_lt}
use Rattle.std.proofs.lemmas.List.{get_or_past}
use Rattle.entry_pool.specs.declared.pool_item.PoolItem.{PoolItem}
use Rattle.entry_pool.specs.declared.row.Row.{Row}
use Rattle.entry_pool.specs.declared.links.Links.{Links}
use Rattle.entry_pool.specs.Chains.{none, IsPath, IsBack, IsIn, IsDistinct, IsPool, is_in_set, after_of, walk}
use Rattle.entry_pool.specs.Linked.{chains_of, IsLink, node_at}
use Rattle.entry_pool.specs.Rows.{rows_of, numbers, without_at}
use Rattle.entry_pool.specs.Pool.{IsSound, ages_of, frees_of, rows_in, bucket_of, IsBehind, CanTake}
use Rattle.entry_pool.proofs.ChainLaws.{in-left, in-right}
use Rattle.entry_pool.proofs.PoolLaws.{filter-in, in-filter, distinct-filter, distinct-left, walk-path, length-walk, after-in, path-from, after-next}
use Rattle.entry_pool.proofs.Moves.{unnamed}
use Rattle.entry_pool.proofs.LinkLaws.{from-head}

-- links of a path lead to its nodes
pub path-link : (f : ℕ → ℕ) (p x n : ℕ) (xs : List ℕ) → IsPath f p xs → ((i : ℕ) → IsIn i xs → i < n) → IsIn x (p ∷ xs) → IsLink (f x) n
path-link f p x n [] h below (inl e) = inl (ap f e ∙ h)
path-link f p x n [] h below (inr i) = absurd i
path-link f p x n (y ∷ ys) h below (inl e) = inr (subst (λ (k : ℕ). k < n) (sym (ap f e ∙ h.0)) (below y (inl refl)))
path-link f p x n (y ∷ ys) h below (inr i) = path-link f y x n ys h.1 (λ j k. below j (inr k)) i

pub back-link : (f : ℕ → ℕ) (p x n : ℕ) (xs : List ℕ) → IsBack f p xs → IsLink p n → ((i : ℕ) → IsIn i xs → i < n) → IsIn x xs → IsLink (f x) n
back-link f p x n [] h start below i = absurd i
back-link f p x n (y ∷ ys) h start below (inl e) = subst (λ (k : ℕ). IsLink k n) (sym (ap f e ∙ h.0)) start
back-link f p x n (y ∷ ys) h start below (inr i) = back-link f y x n ys h.1 (inr (below y (inl refl))) (λ j k. below j (inr k)) i

-- the front and the rest of a list, at one that is in it
pub record Split (x : ℕ) (xs : List ℕ) : Type 0 where
  pub front : List ℕ
  pub rest : List ℕ
  pub is : xs ≡ front ++ x ∷ rest

pub split : (x : ℕ) (xs : List ℕ) → IsIn x xs → Split x xs
split x [] h = absurd h
split x (y ∷ ys) (inl e) = record { front = []; rest = ys; is = ap (λ (k : ℕ). k ∷ ys) (sym e) }
split x (y ∷ ys) (inr i) = let s = split x ys i in record { front = y ∷ s.front; rest = s.rest; is = ap (λ (zs : List ℕ). y ∷ zs) s.is }

pub numbers-rows : (item : ℕ → PoolItem) (xs : List ℕ) → numbers (rows_of item xs) ≡ xs
numbers-rows item [] = refl
numbers-rows item (x ∷ xs) = ap (λ (ys : List ℕ). x ∷ ys) (numbers-rows item xs)

pub length-rows : (item : ℕ → PoolItem) (xs : List ℕ) → length (rows_of item xs) ≡ length xs
length-rows item [] = refl
length-rows item (x ∷ xs) = ap suc (length-rows item xs)

pub rows-same : (f g : ℕ → PoolItem) (xs : List ℕ) → ((y : ℕ) → IsIn y xs → f y ≡ g y) → rows_of f xs ≡ rows_of g xs
rows-same f g [] same = refl
rows-same f g (x ∷ xs) same =
    ap (λ (it : PoolItem). record { at = x; item = it } ∷ rows_of f xs) (same x (inl refl))
    ∙ ap (λ (rs : List Row). record { at = x; item = g x } ∷ rs) (rows-same f g xs (λ y i. same y (inr i)))

-- rows without one that is not among them
without-none : (x : ℕ) (item : ℕ → PoolItem) (xs : List ℕ) → ¬ IsIn x xs → without_at x (rows_of item xs) ≡ rows_of item xs
without-none x item [] n = refl
without-none x item (y ∷ ys) n =
    let r : Row = record { at = y; item = item y } in
    ap (λ (b : Bool). cond (not b) (r ∷ without_at x (rows_of item ys)) (without_at x (rows_of item ys))) (ne_eqb y x (λ e. n (inl (sym e))))
    ∙ ap (λ (rs : List Row). r ∷ rs) (without-none x item ys (λ i. n (inr i)))

pub without-split : (x : ℕ) (item : ℕ → PoolItem) (bs ys : List ℕ) → IsDistinct (bs ++ x ∷ ys) → without_at x (rows_of item (bs ++ x ∷ ys)) ≡ rows_of item (bs ++ ys)
without-split x item [] ys apart =
    let r : Row = record { at = x; item = item x } in
    ap (λ (b : Bool). cond (not b) (r ∷ without_at x (rows_of item ys)) (without_at x (rows_of item ys))) (eq-eqb x x refl)
    ∙ without-none x item ys apart.0
without-split x item (z ∷ bs) ys apart =
    let r : Row = record { at = z; item = item z } in
    let w = without_at x (rows_of item (bs ++ x ∷ ys)) in
    ap (λ (b : Bool). cond (not b) (r ∷ w) w) (ne_eqb z x (λ e. apart.0 (in-right z bs (x ∷ ys) (inl e))))
    ∙ ap (λ (rs : List Row). r ∷ rs) (without-split x item bs ys apart.1)

-- one step of a search along a path
pub step-in : (f : ℕ → ℕ) (q x : ℕ) (xs rest : List ℕ) → IsPath f none xs → IsDistinct (none ∷ xs) → IsIn q (none ∷ xs) → after_of q none xs ≡ rest → IsIn x rest → (f q ≡ x → ⊥) →
    IsIn (f q) (none ∷ xs) × IsIn x (after_of (f q) none xs) × (length (after_of (f q) none xs) < length rest)
step-in f q x xs [] path apart i e h n = absurd h
step-in f q x xs (y ∷ ys) path apart i e h n =
    let from_q : IsPath f q (y ∷ ys) = subst (λ (zs : List ℕ). IsPath f q zs) e (path-from f none q xs path i) in
    let inside : IsIn y xs = after-in q none xs y (subst (λ (zs : List ℕ). IsIn y zs) (sym e) (inl refl)) in
    let next : after_of y none xs ≡ ys = after-next q none y xs ys apart e in
    let later : IsIn x ys = elim h [
      | inl w ↦ absurd (n (from_q.0 ∙ sym w))
      | inr j ↦ j
    ] in
    let next' : after_of (f q) none xs ≡ ys = subst (λ (k : ℕ). after_of k none xs ≡ ys) (sym from_q.0) next in (
      subst (λ (k : ℕ). IsIn k (none ∷ xs)) (sym from_q.0) (inr inside),
      subst (λ (zs : List ℕ). IsIn x zs) (sym next') later,
      omega (arith, ap (λ (zs : List ℕ). length zs) next'),
    )

-- the end of a search along a path
pub step-out : (f : ℕ → ℕ) (q x : ℕ) (xs rest : List ℕ) → IsPath f none xs → IsIn q (none ∷ xs) → after_of q none xs ≡ rest → IsIn x rest → f q ≡ x → IsBehind x rest
step-out f q x xs [] path i e h is = absurd h
step-out f q x xs (y ∷ ys) path i e h is =
    let from_q : IsPath f q (y ∷ ys) = subst (λ (zs : List ℕ). IsPath f q zs) e (path-from f none q xs path i) in
    (ys, ap (λ (k : ℕ). k ∷ ys) (sym from_q.0 ∙ is))

module _ (l : Links) (sound : IsSound l) where
  pub named : ¬ IsIn none (ages_of l)
  named i = unnamed (chains_of l) (length l.nodes.items) (ages_of l) (frees_of l) sound.pool (in-left none (ages_of l) (frees_of l) i)

  pub below-ages : (i : ℕ) → IsIn i (ages_of l) → i < length l.nodes.items
  below-ages i h = sound.pool.below i (in-left i (ages_of l) (frees_of l) h)

  pub apart-ages : IsDistinct (none ∷ ages_of l)
  apart-ages = (named, distinct-left (ages_of l) (frees_of l) sound.pool.apart)

  pub bucket-ages : (set i : ℕ) → IsIn i (bucket_of l set) → IsIn i (ages_of l)
  unfolding bucket_of
  bucket-ages set i h = (filter-in (is_in_set (chains_of l).item set) i (ages_of l) h).0

  pub bucket-path : (set : ℕ) → IsPath ((chains_of l).next set) none (bucket_of l set)
  unfolding bucket_of
  bucket-path set = sound.pool.next set

  pub bucket-apart : (set : ℕ) → IsDistinct (none ∷ bucket_of l set)
  unfolding bucket_of
  bucket-apart set = ((λ i. named (filter-in (is_in_set (chains_of l).item set) none (ages_of l) i).0), distinct-filter (is_in_set (chains_of l).item set) (ages_of l) apart-ages.1)

  pub mark-link : (set q : ℕ) → IsIn q (none ∷ bucket_of l set) → IsLink q (length l.nodes.items)
  mark-link set q (inl e) = inl e
  mark-link set q (inr i) = inr (below-ages q (bucket-ages set q i))

  pub in-own : (x : ℕ) → IsIn x (ages_of l) → IsIn x (bucket_of l ((chains_of l).item x).set)
  unfolding bucket_of
  in-own x i = in-filter (is_in_set (chains_of l).item ((chains_of l).item x).set) x (ages_of l) i (eq-eqb ((chains_of l).item x).set ((chains_of l).item x).set refl)

  pub free-link : IsLink ((chains_of l).free none) (length l.nodes.items)
  free-link = path-link (chains_of l).free none none (length l.nodes.items) (frees_of l) sound.pool.free (λ i h. sound.pool.below i (in-right i (ages_of l) (frees_of l) h)) (inl refl)

  pub count-ages : length (ages_of l) ≡ l.count
  unfolding ages_of
  count-ages = length-walk l.count (chains_of l).older none

  -- a bucket that has a node has a head
  head-there : (set y : ℕ) (ys : List ℕ) → bucket_of l set ≡ y ∷ ys → set < length l.heads.items
  unfolding chains_of
  head-there set y ys e =
      let path : IsPath ((chains_of l).next set) none (y ∷ ys) = subst (λ (zs : List ℕ). IsPath ((chains_of l).next set) none zs) e (bucket-path set) in
      let inside : IsIn y (bucket_of l set) = subst (λ (zs : List ℕ). IsIn y zs) (sym e) (inl refl) in
      let head : get_or l.heads.items set none ≡ y = from-head (get_or l.heads.items set none) (λ j. (node_at l.nodes.items j).next) none refl ∙ path.0 in
      elim (cases_lt set (length l.heads.items)) [
        | inl lt ↦ lt
        | inr past ↦ absurd (named (subst (λ (k : ℕ). IsIn k (ages_of l)) (sym head ∙ get_or_past l.heads.items set none past) (bucket-ages set y inside)))
      ]

  set-there : (set x : ℕ) (xs : List ℕ) → bucket_of l set ≡ xs → IsIn x xs → set < length l.heads.items
  set-there set x [] e i = absurd i
  set-there set x (y ∷ ys) e i = head-there set y ys e

  pub can-take : (x q : ℕ) → IsIn x (ages_of l) → IsIn q (none ∷ bucket_of l ((chains_of l).item x).set) → IsBehind x (after_of q none (bucket_of l ((chains_of l).item x).set)) → CanTake l x q
  can-take x q i mark behind =
      let s = ((chains_of l).item x).set in
      let own = in-own x i in
      let c = chains_of l in
      let count = count-ages in
      record {
        few = sound.pool.few;
        at = below-ages x i;
        older = path-link c.older none x (length l.nodes.items) (ages_of l) sound.pool.older below-ages (inr i);
        newer = back-link c.newer none x (length l.nodes.items) (ages_of l) sound.pool.newer (inl refl) below-ages i;
        next = path-link (c.next s) none x (length l.nodes.items) (bucket_of l s) (bucket-path s) (λ j h. below-ages j (bucket-ages s j h)) (inr own);
        free = free-link;
        before = mark-link s q mark;
        apart = λ e. not_itself s x q behind.0 behind.1 (bucket-apart s) e;
        set = set-there s x (bucket_of l s) refl own;
        count = some x (ages_of l) count i;
      }
    where
      some : (x : ℕ) (xs : List ℕ) → length xs ≡ l.count → IsIn x xs → 0 < l.count
      some x [] e i = absurd i
      some x (y ∷ ys) e i = omega (arith, e)

      not_itself : (s x q : ℕ) (rest : List ℕ) → after_of q none (bucket_of l s) ≡ x ∷ rest → IsDistinct (none ∷ bucket_of l s) → q ≡ x → ⊥
      not_itself s x q rest e apart same =
          let next : after_of x none (bucket_of l s) ≡ rest = after-next q none x (bucket_of l s) rest apart e in
          let again : after_of x none (bucket_of l s) ≡ x ∷ rest = subst (λ (k : ℕ). after_of k none (bucket_of l s) ≡ x ∷ rest) same e in
          omega (arith, ap (λ (zs : List ℕ). length zs) (sym next ∙ again))

-- nodes that make a pool are sound, and its rows are theirs
pub settled-ages : (l : Links) (ages frees : List ℕ) → IsPool (chains_of l) (length l.nodes.items) ages frees → length ages ≡ l.count → ages_of l ≡ ages
unfolding ages_of
settled-ages l ages frees pool e = ap (λ (n : ℕ). walk n (chains_of l).older none) (sym e) ∙ walk-path (chains_of l).older none ages pool.older

pub settled-frees : (l : Links) (ages frees : List ℕ) → IsPool (chains_of l) (length l.nodes.items) ages frees → length ages ≡ l.count → frees_of l ≡ frees
unfolding frees_of
settled-frees l ages frees pool e =
    let all = pool.all in
    let n : length l.nodes.items - l.count ≡ length frees = omega (arith, all, e) in
    ap (λ (n : ℕ). walk n (chains_of l).free none) n ∙ walk-path (chains_of l).free none frees pool.free

pub settled : (l : Links) (ages frees : List ℕ) → IsPool (chains_of l) (length l.nodes.items) ages frees → length ages ≡ l.count → length l.heads.items ≤ 65536 → IsSound l
settled l ages frees pool e sets =
    let all = pool.all in
    record {
      count = omega (arith, all, e);
      sets = sets;
      pool = subst (λ (xs : List ℕ). IsPool (chains_of l) (length l.nodes.items) xs (frees_of l)) (sym (settled-ages l ages frees pool e)) (subst (λ (xs : List ℕ). IsPool (chains_of l) (length l.nodes.items) ages xs) (sym (settled-frees l ages frees pool e)) pool);
    }

pub rows-in : (l : Links) → (rows_in l).rows ≡ rows_of (chains_of l).item (ages_of l)
unfolding rows_in
rows-in l = refl
