-- The rows after a row came or went.
use Rattle.std.proofs.Common.{◌≡◌, ◌≢◌, ℕ, ◌+◌, ◌<◌, List, [], ◌∷◌, ◌++◌, length, filter, inl, refl, sym, ap, subst, ◌∙◌, arith}
use Rattle.std.proofs.lemmas.List.{length-append}
use Rattle.std.proofs.lemmas.Bool.{eq-eqb}
use Rattle.entry_pool.specs.declared.pool_item.PoolItem.{PoolItem}
use Rattle.entry_pool.specs.declared.row.Row.{Row}
use Rattle.entry_pool.specs.declared.links.Links.{Links}
use Rattle.entry_pool.specs.Words.{Fits}
use Rattle.entry_pool.specs.Chains.{none, IsPath, IsIn, IsDistinct, IsPool, is_in_set, after_of, IsTaken, IsGiven, end_of}
use Rattle.entry_pool.specs.Linked.{chains_of}
use Rattle.entry_pool.specs.Rows.{with_rows, rows_of, without_at, IsHeld}
use Rattle.entry_pool.specs.Pool.{IsSound, ages_of, frees_of, rows_in, bucket_of, IsBehind, CanGive}
use Rattle.entry_pool.proofs.ChainLaws.{in-right, in-same}
use Rattle.entry_pool.proofs.PoolLaws.{distinct-apart, distinct-filter, filter-in, end-found}
use Rattle.entry_pool.proofs.Moves.{unnamed, filter-keeps, pool-remove, pool-push}
use Rattle.entry_pool.proofs.Sound.{path-link, split, numbers-rows, rows-same, without-split, named, below-ages, apart-ages, count-ages, bucket-path, bucket-ages, settled, settled-ages}

-- a pool that is not full has a first free node
pub record HasFree (l : Links) : Type 0 where
  pub rest : List ℕ
  pub is : frees_of l ≡ (chains_of l).free none ∷ rest

has-free : (l : Links) (fs : List ℕ) → IsSound l → l.count < length l.nodes.items → frees_of l ≡ fs → HasFree l
has-free l [] sound room e =
    let all = sound.pool.all in
    let ages = count-ages l sound in
    absurd (omega (arith, all, ages, room, ap (λ (zs : List ℕ). length zs) e))
has-free l (y ∷ ys) sound room e =
    let path : IsPath (chains_of l).free none (y ∷ ys) = subst (λ (zs : List ℕ). IsPath (chains_of l).free none zs) e sound.pool.free in
    record { rest = ys; is = e ∙ ap (λ (k : ℕ). k ∷ ys) (sym path.0) }

pub free-there : (l : Links) → IsSound l → l.count < length l.nodes.items → HasFree l
free-there l sound room = has-free l (frees_of l) sound room refl

pub can-give : (l : Links) (item : PoolItem) → IsSound l → l.count < length l.nodes.items → item.set < length l.heads.items → Fits item → CanGive l item
can-give l item sound room set fits =
    let c = chains_of l in
    let x = c.free none in
    let there = free-there l sound room in
    let inside : IsIn x (frees_of l) = subst (λ (zs : List ℕ). IsIn x zs) (sym there.is) (inl refl) in
    record {
      few = sound.pool.few;
      free = sound.pool.below x (in-right x (ages_of l) (frees_of l) inside);
      newest = path-link c.older none none (length l.nodes.items) (ages_of l) sound.pool.older (below-ages l sound) (inl refl);
      first = path-link (c.next item.set) none none (length l.nodes.items) (bucket_of l item.set) (bucket-path l sound item.set) (λ j h. below-ages l sound j (bucket-ages l sound item.set j h)) (inl refl);
      apart = λ e. not_free (ages_of l) refl e inside;
      set = set;
      fits = fits;
      count = room;
    }
  where
    not_free : (xs : List ℕ) → ages_of l ≡ xs → (chains_of l).older none ≡ (chains_of l).free none → ¬ IsIn ((chains_of l).free none) (frees_of l)
    not_free [] e same i =
        let path : IsPath (chains_of l).older none [] = subst (λ (zs : List ℕ). IsPath (chains_of l).older none zs) e sound.pool.older in
        unnamed (chains_of l) (length l.nodes.items) (ages_of l) (frees_of l) sound.pool (in-right none (ages_of l) (frees_of l) (in-same ((chains_of l).free none) none (frees_of l) (sym same ∙ path) i))
    not_free (y ∷ ys) e same i =
        let path : IsPath (chains_of l).older none (y ∷ ys) = subst (λ (zs : List ℕ). IsPath (chains_of l).older none zs) e sound.pool.older in
        let inside : IsIn y (ages_of l) = subst (λ (zs : List ℕ). IsIn y zs) (sym e) (inl refl) in
        distinct-apart (ages_of l) (frees_of l) y sound.pool.apart inside (in-same ((chains_of l).free none) y (frees_of l) (sym same ∙ path.0) i)

-- the pool after a row came
given-pool : (l d : Links) (x : ℕ) (item : PoolItem) (rest : List ℕ) → IsSound l → frees_of l ≡ x ∷ rest → IsGiven (chains_of l) (chains_of d) x item → length d.nodes.items ≡ length l.nodes.items → IsPool (chains_of d) (length d.nodes.items) (x ∷ ages_of l) rest
given-pool l d x item rest sound e given nodes =
    let pool : IsPool (chains_of l) (length l.nodes.items) (ages_of l) (x ∷ rest) = subst (λ (zs : List ℕ). IsPool (chains_of l) (length l.nodes.items) (ages_of l) zs) e sound.pool in
    subst (λ (n : ℕ). IsPool (chains_of d) n (x ∷ ages_of l) rest) (sym nodes) (pool-push (chains_of l) (chains_of d) (length l.nodes.items) x item (ages_of l) rest pool given)

module _ (l d : Links) (x : ℕ) (item : PoolItem) (sound : IsSound l) (room : l.count < length l.nodes.items) (is : x ≡ (chains_of l).free none) (given : IsGiven (chains_of l) (chains_of d) x item) (nodes : length d.nodes.items ≡ length l.nodes.items) (heads : length d.heads.items ≡ length l.heads.items) (count : d.count ≡ l.count + 1) where
  rest : List ℕ
  rest = (free-there l sound room).rest

  pool : IsPool (chains_of d) (length d.nodes.items) (x ∷ ages_of l) (free-there l sound room).rest
  pool =
      let there = free-there l sound room in
      given-pool l d x item there.rest sound (there.is ∙ ap (λ (k : ℕ). k ∷ there.rest) (sym is)) given nodes

  counted : length (x ∷ ages_of l) ≡ d.count
  counted = let ages = count-ages l sound in omega (arith, ages, count)

  pub given-sound : IsSound d
  given-sound = let sets = sound.sets in settled d (x ∷ ages_of l) (free-there l sound room).rest pool counted (omega (arith, sets, heads))

  ages : ages_of d ≡ x ∷ ages_of l
  ages = settled-ages d (x ∷ ages_of l) (free-there l sound room).rest pool counted

  free_apart : (y : ℕ) → IsIn y (ages_of l) → y ≢ x
  free_apart y i e =
      let there = free-there l sound room in
      let inside : IsIn x (frees_of l) = subst (λ (zs : List ℕ). IsIn x zs) (sym (there.is ∙ ap (λ (k : ℕ). k ∷ there.rest) (sym is))) (inl refl) in
      distinct-apart (ages_of l) (frees_of l) x sound.pool.apart (in-same y x (ages_of l) e i) inside

  pub given-rows : rows_in d ≡ with_rows (rows_in l) (record { at = x; item = item } ∷ (rows_in l).rows)
  unfolding rows_in
  given-rows =
      let all : rows_of (chains_of d).item (ages_of d) ≡ record { at = x; item = item } ∷ rows_of (chains_of l).item (ages_of l) =
      ap (λ (zs : List ℕ). rows_of (chains_of d).item zs) ages
      ∙ ap (λ (it : PoolItem). record { at = x; item = it } ∷ rows_of (chains_of d).item (ages_of l)) given.item_at
      ∙ ap (λ (rs : List Row). record { at = x; item = item } ∷ rs) (rows-same (chains_of d).item (chains_of l).item (ages_of l) (λ y i. given.item_else y (free_apart y i))) in
      λ i. record { sets = heads i; limit = nodes i; rows = all i }

module _ (l d : Links) (x q : ℕ) (sound : IsSound l) (behind : IsBehind x (after_of q none (bucket_of l ((chains_of l).item x).set))) (taken : IsTaken (chains_of l) (chains_of d) x q) (nodes : length d.nodes.items ≡ length l.nodes.items) (heads : length d.heads.items ≡ length l.heads.items) (count : d.count + 1 ≡ l.count) where
  found : (bs ys : List ℕ) → ages_of l ≡ bs ++ x ∷ ys → q ≡ end_of none (filter (is_in_set (chains_of l).item ((chains_of l).item x).set) bs)
  unfolding bucket_of
  found bs ys e =
      let p = is_in_set (chains_of l).item ((chains_of l).item x).set in
      let here : filter p (ages_of l) ≡ filter p bs ++ x ∷ filter p ys = ap (λ (zs : List ℕ). filter p zs) e ∙ filter-keeps p bs x ys (eq-eqb ((chains_of l).item x).set ((chains_of l).item x).set refl) in
      let apart : IsDistinct (none ∷ filter p (ages_of l)) = ((λ i. named l sound (filter-in p none (ages_of l) i).0), distinct-filter p (ages_of l) (apart-ages l sound).1) in
      end-found q none (filter p bs) x (filter p ys) behind.0 (subst (λ (zs : List ℕ). IsDistinct (none ∷ zs)) here apart) (ap (λ (zs : List ℕ). after_of q none zs) (sym here) ∙ behind.1)

  taken-pool : (bs ys : List ℕ) → ages_of l ≡ bs ++ x ∷ ys → IsPool (chains_of d) (length d.nodes.items) (bs ++ ys) (x ∷ frees_of l)
  taken-pool bs ys e =
      let pool : IsPool (chains_of l) (length l.nodes.items) (bs ++ x ∷ ys) (frees_of l) = subst (λ (zs : List ℕ). IsPool (chains_of l) (length l.nodes.items) zs (frees_of l)) e sound.pool in
      subst (λ (n : ℕ). IsPool (chains_of d) n (bs ++ ys) (x ∷ frees_of l)) (sym nodes) (pool-remove (chains_of l) (chains_of d) (length l.nodes.items) x q bs ys (frees_of l) pool taken (found bs ys e))

  less : (bs ys : List ℕ) → ages_of l ≡ bs ++ x ∷ ys → length (bs ++ ys) ≡ d.count
  less bs ys e =
      let l1 = length-append bs (x ∷ ys) in
      let l2 = length-append bs ys in
      let ages = count-ages l sound in
      omega (arith, l1, l2, ages, count, ap (λ (zs : List ℕ). length zs) e)

  pub taken-sound : IsIn x (ages_of l) → IsSound d
  taken-sound i =
      let s = split x (ages_of l) i in
      let sets = sound.sets in
      settled d (s.front ++ s.rest) (x ∷ frees_of l) (taken-pool s.front s.rest s.is) (less s.front s.rest s.is) (omega (arith, sets, heads))

  pub taken-rows : IsIn x (ages_of l) → rows_in d ≡ with_rows (rows_in l) (without_at x (rows_in l).rows)
  unfolding rows_in
  taken-rows i =
      let s = split x (ages_of l) i in
      let ages : ages_of d ≡ s.front ++ s.rest = settled-ages d (s.front ++ s.rest) (x ∷ frees_of l) (taken-pool s.front s.rest s.is) (less s.front s.rest s.is) in
      let apart : IsDistinct (s.front ++ x ∷ s.rest) = subst (λ (zs : List ℕ). IsDistinct zs) s.is (apart-ages l sound).1 in
      let all : rows_of (chains_of d).item (ages_of d) ≡ without_at x (rows_of (chains_of l).item (ages_of l)) =
      ap (λ (zs : List ℕ). rows_of (chains_of d).item zs) ages
      ∙ rows-same (chains_of d).item (chains_of l).item (s.front ++ s.rest) (λ y j. taken.item y)
      ∙ sym (ap (λ (zs : List ℕ). without_at x (rows_of (chains_of l).item zs)) s.is ∙ without-split x (chains_of l).item s.front s.rest apart) in
      λ i. record { sets = heads i; limit = nodes i; rows = all i }

-- what is held is among the nodes
pub held-ages : (l : Links) (x : ℕ) → IsHeld x (rows_in l).rows → IsIn x (ages_of l)
unfolding rows_in
held-ages l x h = subst (λ (zs : List ℕ). IsIn x zs) (numbers-rows (chains_of l).item (ages_of l)) h
