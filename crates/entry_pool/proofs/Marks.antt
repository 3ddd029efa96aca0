-- Rows after a mark, the oldest row, and rows with another prediction.
use Rattle.std.proofs.Common.{◌≡◌, ℕ, Bool, cond, eqb, Some, None, List, [], ◌∷◌, length, filter, inl, inr, refl, sym, ap, subst, ◌∙◌, arith}
use Rattle.std.specs.List.{last_or}
use Rattle.std.proofs.lemmas.Bool.{eq-eqb, ne_eqb, cases_Bool, cases_eq}
use Rattle.entry_pool.specs.declared.pool_item.PoolItem.{PoolItem}
use Rattle.entry_pool.specs.declared.row.Row.{Row}
use Rattle.entry_pool.specs.declared.links.Links.{Links}
use Rattle.entry_pool.specs.Chains.{none, IsPath, IsBack, IsIn, IsDistinct, end_of, Chains, IsPool, is_in_set, after_of}
use Rattle.entry_pool.specs.Linked.{chains_of, put_item, with_prediction}
use Rattle.entry_pool.specs.Rows.{Rows, with_rows, rows_of, numbers, in_set, rows_after, IsMark, IsNext, with_prediction_at, repredicted}
use Rattle.entry_pool.specs.Pool.{IsSound, ages_of, frees_of, rows_in, bucket_of, IsBehind}
use Rattle.entry_pool.proofs.ChainLaws.{in-same, end-in}
use Rattle.entry_pool.proofs.PoolLaws.{path-from, after-in, after-next}
use Rattle.entry_pool.proofs.Moves.{filter-agree}
use Rattle.entry_pool.proofs.Sound.{numbers-rows, settled, settled-ages, count-ages}

pub rows-after : (q p : ℕ) (item : ℕ → PoolItem) (xs : List ℕ) → rows_after q p (rows_of item xs) ≡ rows_of item (after_of q p xs)
rows-after q p item [] = refl
rows-after q p item (x ∷ xs) =
    let r : Row = record { at = x; item = item x } in
    elim (cases_Bool (eqb q p)) [
      | inl e ↦ ap (λ (b : Bool). cond b (r ∷ rows_of item xs) (rows_after q x (rows_of item xs))) e ∙ sym (ap (λ (b : Bool). rows_of item (cond b (x ∷ xs) (after_of q x xs))) e)
      | inr e ↦ ap (λ (b : Bool). cond b (r ∷ rows_of item xs) (rows_after q x (rows_of item xs))) e ∙ rows-after q x item xs ∙ sym (ap (λ (b : Bool). rows_of item (cond b (x ∷ xs) (after_of q x xs))) e)
    ]

pub in-set : (set : ℕ) (item : ℕ → PoolItem) (xs : List ℕ) → in_set set (rows_of item xs) ≡ rows_of item (filter (is_in_set item set) xs)
in-set set item [] = refl
in-set set item (x ∷ xs) =
    let r : Row = record { at = x; item = item x } in
    let rest = in_set set (rows_of item xs) in
    elim (cases_Bool (eqb (item x).set set)) [
      | inl e ↦ ap (λ (b : Bool). cond b (r ∷ rest) rest) e ∙ ap (λ (rs : List Row). r ∷ rs) (in-set set item xs) ∙ sym (ap (λ (b : Bool). rows_of item (cond b (x ∷ filter (is_in_set item set) xs) (filter (is_in_set item set) xs))) e)
      | inr e ↦ ap (λ (b : Bool). cond b (r ∷ rest) rest) e ∙ in-set set item xs ∙ sym (ap (λ (b : Bool). rows_of item (cond b (x ∷ filter (is_in_set item set) xs) (filter (is_in_set item set) xs))) e)
    ]

pub rows-are : (l : Links) (p : Rows) → rows_in l ≡ p → rows_of (chains_of l).item (ages_of l) ≡ p.rows
unfolding rows_in
rows-are l p is = ap (λ (r : Rows). r.rows) is

pub bucket-rows : (l : Links) (p : Rows) (set : ℕ) → rows_in l ≡ p → rows_of (chains_of l).item (bucket_of l set) ≡ in_set set p.rows
unfolding bucket_of
bucket-rows l p set is = sym (in-set set (chains_of l).item (ages_of l)) ∙ ap (λ (rs : List Row). in_set set rs) (rows-are l p is)

-- a mark is the number of a node, or none
pub mark-in : (item : ℕ → PoolItem) (xs : List ℕ) (rows : List Row) (q : ℕ) → rows_of item xs ≡ rows → IsMark q rows → IsIn q (none ∷ xs)
mark-in item xs rows q is mark = subst (λ (zs : List ℕ). IsIn q (none ∷ zs)) (ap (λ (rs : List Row). numbers rs) (sym is) ∙ numbers-rows item xs) mark

end-here : (f : ℕ → ℕ) (xs rest : List ℕ) (q : ℕ) → IsPath f none xs → IsDistinct (none ∷ xs) → IsIn q (none ∷ xs) → after_of q none xs ≡ rest → f q ≡ none → rest ≡ []
end-here f xs [] q path apart i e is = refl
end-here f xs (z ∷ zs) q path apart i e is =
    let from_q : IsPath f q (z ∷ zs) = subst (λ (vs : List ℕ). IsPath f q vs) e (path-from f none q xs path i) in
    let inside : IsIn z xs = after-in q none xs z (subst (λ (vs : List ℕ). IsIn z vs) (sym e) (inl refl)) in
    absurd (apart.0 (in-same z none xs (sym from_q.0 ∙ is) inside))

next-here : (f : ℕ → ℕ) (xs rest : List ℕ) (q : ℕ) → IsPath f none xs → IsDistinct (none ∷ xs) → IsIn q (none ∷ xs) → after_of q none xs ≡ rest → (f q ≡ none → ⊥) →
    (after_of q none xs ≡ f q ∷ after_of (f q) none xs) × IsIn (f q) xs
next-here f xs [] q path apart i e n =
    absurd (n (subst (λ (vs : List ℕ). IsPath f q vs) e (path-from f none q xs path i)))
next-here f xs (z ∷ zs) q path apart i e n =
    let from_q : IsPath f q (z ∷ zs) = subst (λ (vs : List ℕ). IsPath f q vs) e (path-from f none q xs path i) in
    let inside : IsIn z xs = after-in q none xs z (subst (λ (vs : List ℕ). IsIn z vs) (sym e) (inl refl)) in
    let next : after_of z none xs ≡ zs = after-next q none z xs zs apart e in
    let is : f q ≡ z = from_q.0 in
    (e ∙ ap (λ (vs : List ℕ). z ∷ vs) (sym next) ∙ ap (λ (k : ℕ). k ∷ after_of k none xs) (sym is), in-same z (f q) xs (sym is) inside)

-- nothing comes after a mark that leads nowhere
pub next-none : (f : ℕ → ℕ) (item : ℕ → PoolItem) (xs : List ℕ) (rows : List Row) (q y : ℕ) → IsPath f none xs → IsDistinct (none ∷ xs) → rows_of item xs ≡ rows → IsMark q rows → y ≡ f q → y ≡ none → rows_after q none rows ≡ []
next-none f item xs rows q y path apart is mark at e =
    let none_left : after_of q none xs ≡ [] = end-here f xs (after_of q none xs) q path apart (mark-in item xs rows q is mark) refl (sym at ∙ e) in
    ap (λ (rs : List Row). rows_after q none rs) (sym is) ∙ rows-after q none item xs ∙ ap (λ (zs : List ℕ). rows_of item zs) none_left

-- what a mark leads to comes after it
pub next-some : (f : ℕ → ℕ) (item : ℕ → PoolItem) (xs : List ℕ) (rows : List Row) (q y : ℕ) (it : PoolItem) → IsPath f none xs → IsDistinct (none ∷ xs) → rows_of item xs ≡ rows → IsMark q rows → y ≡ f q → (y ≡ none → ⊥) → it ≡ item y →
    (rows_after q none rows ≡ record { at = y; item = it } ∷ rows_after y none rows) × IsMark y rows
next-some f item xs rows q y it path apart is mark at n noted =
    let step = next-here f xs (after_of q none xs) q path apart (mark-in item xs rows q is mark) refl (λ e. n (at ∙ e)) in
    let here : after_of q none xs ≡ y ∷ after_of y none xs = subst (λ (k : ℕ). after_of q none xs ≡ k ∷ after_of k none xs) (sym at) step.0 in
    let shown : rows_after q none (rows_of item xs) ≡ record { at = y; item = it } ∷ rows_after y none (rows_of item xs) =
    rows-after q none item xs ∙ ap (λ (zs : List ℕ). rows_of item zs) here
    ∙ ap (λ (w : PoolItem). record { at = y; item = w } ∷ rows_of item (after_of y none xs)) (sym noted)
    ∙ ap (λ (rs : List Row). record { at = y; item = it } ∷ rs) (sym (rows-after y none item xs)) in (
      subst (λ (rs : List Row). rows_after q none rs ≡ record { at = y; item = it } ∷ rows_after y none rs) is shown,
      inr (subst (λ (zs : List ℕ). IsIn y zs) (sym (ap (λ (rs : List Row). numbers rs) (sym is) ∙ numbers-rows item xs)) (in-same (f q) y xs (sym at) step.1)),
    )

-- the row that comes next after a mark, as a node of the chain
pub record NextNode (item : ℕ → PoolItem) (xs : List ℕ) (q : ℕ) (r : Row) : Type 0 where
  pub inside : IsIn r.at xs
  pub set : (item r.at).set ≡ r.item.set
  pub behind : IsBehind r.at (after_of q none xs)

pub next-node : (item : ℕ → PoolItem) (xs : List ℕ) (rows : List Row) (q : ℕ) (r : Row) → rows_of item xs ≡ rows → IsNext q rows (Some r) → NextNode item xs q r
next-node item xs rows q r is next = by_nodes (after_of q none xs) refl (sym (rows-after q none item xs) ∙ ap (λ (rs : List Row). rows_after q none rs) is ∙ next.0)
  where
    by_nodes : (ys : List ℕ) → after_of q none xs ≡ ys → rows_of item (after_of q none xs) ≡ r ∷ rows_after r.at none rows → NextNode item xs q r
    by_nodes [] none_left shown = let none : [] ≡ r ∷ rows_after r.at none rows = sym (ap (rows_of item) none_left) ∙ shown in absurd cc
    by_nodes (y ∷ ys) here shown =
        let both : record { at = y; item = item y } ∷ rows_of item ys ≡ r ∷ rows_after r.at none rows = sym (ap (rows_of item) here) ∙ shown in
        let one : record { at = y; item = item y } ≡ r = cc in
        let at : y ≡ r.at = ap (λ (x : Row). x.at) one in
        record {
          inside = after-in q none xs r.at (subst (λ (zs : List ℕ). IsIn r.at zs) (sym here) (inl (sym at)));
          set = ap (λ (k : ℕ). (item k).set) (sym at) ∙ ap (λ (x : Row). x.item.set) one;
          behind = (ys, here ∙ ap (λ (k : ℕ). k ∷ ys) at);
        }

pub next-in : (f : ℕ → ℕ) (xs : List ℕ) (q y : ℕ) → IsPath f none xs → IsDistinct (none ∷ xs) → IsIn q (none ∷ xs) → y ≡ f q → (y ≡ none → ⊥) → IsIn y xs
next-in f xs q y path apart i at n = in-same (f q) y xs (sym at) (next-here f xs (after_of q none xs) q path apart i refl (λ e. n (at ∙ e))).1

pub back-end : (f : ℕ → ℕ) (p : ℕ) (xs : List ℕ) → IsBack f p xs → f none ≡ end_of p xs
back-end f p [] h = h
back-end f p (x ∷ xs) h = back-end f x xs h.1

last-rows : (item : ℕ → PoolItem) (p : ℕ) (xs : List ℕ) → last_or (Some (record { at = p; item = item p })) (rows_of item xs) ≡ Some (record { at = end_of p xs; item = item (end_of p xs) })
last-rows item p [] = refl
last-rows item p (x ∷ xs) = last-rows item x xs

pub last-none : (item : ℕ → PoolItem) (xs : List ℕ) → ¬ IsIn none xs → end_of none xs ≡ none → None ≡ last_or None (rows_of item xs)
last-none item [] n e = refl
last-none item (x ∷ xs) n e = absurd (n (in-same (end_of x xs) none (x ∷ xs) e (end-in x xs)))

pub last-in : (xs : List ℕ) → (end_of none xs ≡ none → ⊥) → IsIn (end_of none xs) xs
last-in [] n = absurd (n refl)
last-in (x ∷ xs) n = end-in x xs

pub last-some : (item : ℕ → PoolItem) (xs : List ℕ) (y : ℕ) (it : PoolItem) → y ≡ end_of none xs → (y ≡ none → ⊥) → it ≡ item y → Some (record { at = y; item = it }) ≡ last_or None (rows_of item xs)
last-some item [] y it e n noted = absurd (n e)
last-some item (x ∷ xs) y it e n noted =
    ap (λ (w : PoolItem). Some (record { at = y; item = w })) noted ∙ ap (λ (k : ℕ). Some (record { at = k; item = item k })) e ∙ sym (last-rows item x xs)

-- another prediction leaves the sets
pub set-same : (at n : ℕ) (f : ℕ → PoolItem) (y : ℕ) → (put_item at (with_prediction n (f at)) f y).set ≡ (f y).set
set-same at n f y = elim (cases_eq y at) [
  | inl e ↦ ap (λ (b : Bool). (cond b (with_prediction n (f at)) (f y)).set) (eq-eqb y at e) ∙ ap (λ (k : ℕ). (f k).set) (sym e)
  | inr ne ↦ ap (λ (b : Bool). (cond b (with_prediction n (f at)) (f y)).set) (ne_eqb y at ne)
]

pub repredicted-pool : (c : Chains) (total at n : ℕ) (ages frees : List ℕ) → IsPool c total ages frees → IsPool (record c { item = put_item at (with_prediction n (c.item at)) c.item }) total ages frees
repredicted-pool c total at n ages frees pool =
    record {
      older = pool.older;
      newer = pool.newer;
      next = λ set. subst (λ (zs : List ℕ). IsPath (c.next set) none zs) (sym (filter-agree (is_in_set (put_item at (with_prediction n (c.item at)) c.item) set) (is_in_set c.item set) ages (λ y i. ap (λ (s : ℕ). eqb s set) (set-same at n c.item y)))) (pool.next set);
      free = pool.free;
      apart = pool.apart;
      below = pool.below;
      all = pool.all;
      few = pool.few;
    }

pub repredicted-rows : (at n : ℕ) (f : ℕ → PoolItem) (xs : List ℕ) → rows_of (put_item at (with_prediction n (f at)) f) xs ≡ with_prediction_at at n (rows_of f xs)
repredicted-rows at n f [] = refl
repredicted-rows at n f (x ∷ xs) =
    let r : Row = record { at = x; item = f x } in
    let rest = with_prediction_at at n (rows_of f xs) in
    let first : record { at = x; item = put_item at (with_prediction n (f at)) f x } ∷ rest ≡ cond (eqb x at) (repredicted n r) r ∷ rest = elim (cases_eq x at) [
      | inl e ↦
          ap (λ (b : Bool). record { at = x; item = cond b (with_prediction n (f at)) (f x) } ∷ rest) (eq-eqb x at e)
          ∙ ap (λ (k : ℕ). record { at = x; item = with_prediction n (f k) } ∷ rest) (sym e)
          ∙ sym (ap (λ (b : Bool). cond b (repredicted n r) r ∷ rest) (eq-eqb x at e))
      | inr ne ↦
          ap (λ (b : Bool). record { at = x; item = cond b (with_prediction n (f at)) (f x) } ∷ rest) (ne_eqb x at ne)
          ∙ sym (ap (λ (b : Bool). cond b (repredicted n r) r ∷ rest) (ne_eqb x at ne))
    ] in
    ap (λ (rs : List Row). record { at = x; item = put_item at (with_prediction n (f at)) f x } ∷ rs) (repredicted-rows at n f xs) ∙ first

module _ (l d : Links) (at n : ℕ) (sound : IsSound l) (is : chains_of d ≡ record (chains_of l) { item = put_item at (with_prediction n ((chains_of l).item at)) (chains_of l).item }) (nodes : length d.nodes.items ≡ length l.nodes.items) (heads : length d.heads.items ≡ length l.heads.items) (count : d.count ≡ l.count) where
  pool : IsPool (chains_of d) (length d.nodes.items) (ages_of l) (frees_of l)
  pool =
      subst (λ (c : Chains). IsPool c (length d.nodes.items) (ages_of l) (frees_of l)) (sym is) (subst (λ (k : ℕ). IsPool (record (chains_of l) { item = put_item at (with_prediction n ((chains_of l).item at)) (chains_of l).item }) k (ages_of l) (frees_of l)) (sym nodes) (repredicted-pool (chains_of l) (length l.nodes.items) at n (ages_of l) (frees_of l) sound.pool))

  pub repredicted-sound : IsSound d
  repredicted-sound = let sets = sound.sets in settled d (ages_of l) (frees_of l) pool (count-ages l sound ∙ sym count) (omega (arith, sets, heads))

  pub repredicted-in : rows_in d ≡ with_rows (rows_in l) (with_prediction_at at n (rows_in l).rows)
  unfolding rows_in
  repredicted-in =
      let all : rows_of (chains_of d).item (ages_of d) ≡ with_prediction_at at n (rows_of (chains_of l).item (ages_of l)) =
      ap (λ (zs : List ℕ). rows_of (chains_of d).item zs) (settled-ages d (ages_of l) (frees_of l) pool (count-ages l sound ∙ sym count))
      ∙ ap (λ (c : Chains). rows_of c.item (ages_of l)) is
      ∙ repredicted-rows at n (chains_of l).item (ages_of l) in
      λ i. record { sets = heads i; limit = nodes i; rows = all i }

-- after the place before the first lie all rows
pub all-after : (rows : List Row) → rows_after none none rows ≡ rows
all-after [] = refl
all-after (r ∷ rs) = refl
