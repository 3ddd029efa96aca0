-- An empty pool is sound.
use Rattle.std.proofs.Common.{◌≡◌, ℕ, zero, suc, ◌-◌, ◌<◌, ◌≤◌, List, [], ◌∷◌, length, get_or, replicate, inl, inr, refl, sym, ap, ◌∙◌, arith}
use Rattle.std.proofs.lemmas.List.{get_or-replicate, get_or_past}
use Rattle.std.proofs.lemmas.Bool.{cases_lt}
use Rattle.entry_pool.specs.declared.links.Links.{Links}
use Rattle.entry_pool.specs.Chains.{none, IsPath, IsIn, IsDistinct, IsPool}
use Rattle.entry_pool.specs.Linked.{chains_of, node_at}
use Rattle.entry_pool.specs.Rows.{rows_of}
use Rattle.entry_pool.specs.Pool.{IsSound, ages_of, rows_in}
use Rattle.entry_pool.specs.Fresh.{AreFree, number_before}
use Rattle.entry_pool.proofs.LinkLaws.{from-node}
use Rattle.entry_pool.proofs.Sound.{settled, settled-ages}

pub before-none : (n : ℕ) → n ≡ 0 → none ≡ number_before n
before-none zero e = refl
before-none (suc n) e = absurd (omega (arith, e))

pub before-some : (n : ℕ) → 0 < n → n - 1 ≡ number_before n
before-some zero lt = absurd (omega (arith, lt))
before-some (suc n) lt = omega arith

-- the numbers below this one, the greatest first
abbrev countdown : ℕ → List ℕ
countdown zero = []
countdown (suc n) = n ∷ countdown n

length-countdown : (n : ℕ) → length (countdown n) ≡ n
length-countdown zero = refl
length-countdown (suc n) = ap suc (length-countdown n)

below-countdown : (n i : ℕ) → IsIn i (countdown n) → i < n
below-countdown zero i h = absurd h
below-countdown (suc n) i (inl e) = omega (arith, e)
below-countdown (suc n) i (inr h) = let lt = below-countdown n i h in omega (arith, lt)

distinct-countdown : (n : ℕ) → IsDistinct (countdown n)
distinct-countdown zero = tt
distinct-countdown (suc n) = ((λ i. let lt = below-countdown n n i in absurd (omega (arith, lt))), distinct-countdown n)

path-countdown : (f : ℕ → ℕ) (p n : ℕ) → f p ≡ number_before n → ((i : ℕ) → i < n → f i ≡ number_before i) → IsPath f p (countdown n)
path-countdown f p zero first others = first
path-countdown f p (suc n) first others = (first, path-countdown f n n (others n (omega arith)) (λ i lt. others i (omega (arith, lt))))

head-none : (sets set : ℕ) → get_or (replicate sets none) set none ≡ none
head-none sets set = elim (cases_lt set sets) [
  | inl lt ↦ get_or-replicate sets set none none lt
  | inr past ↦ get_or_past (replicate sets none) set none (omega (arith, past, length-replicate' sets))
]
  where
    length-replicate' : (n : ℕ) → length (replicate n none) ≡ n
    length-replicate' zero = refl
    length-replicate' (suc n) = ap suc (length-replicate' n)

module _ (l : Links) (n sets : ℕ) (few : n < none) (fresh : AreFree n l.nodes.items) (heads : l.heads.items ≡ replicate sets none) (counted : length l.heads.items ≡ sets) (within : sets ≤ 65536) (newest : l.newest ≡ none) (oldest : l.oldest ≡ none) (free : l.free ≡ number_before n) (empty : l.count ≡ 0) where
  pool : IsPool (chains_of l) (length l.nodes.items) [] (countdown n)
  unfolding chains_of
  pool =
      let f = (chains_of l).free in
      let down = length-countdown n in
      let total = fresh.count_is in
      record {
        older = newest;
        newer = oldest;
        next = λ set. ap (λ (hs : List ℕ). get_or hs set none) heads ∙ head-none sets set;
        free = path-countdown f none n free (λ i lt. sym (from-node l.free (λ j. (node_at l.nodes.items j).next) i (λ e. omega (arith, e, lt, few))) ∙ fresh.next i lt);
        apart = distinct-countdown n;
        below = λ i h. let lt = below-countdown n i h in omega (arith, lt, total);
        all = omega (arith, down, total);
        few = omega (arith, few, total);
      }

  pub fresh-sound : IsSound l
  fresh-sound = settled l [] (countdown n) pool (sym empty) (omega (arith, counted, within))

  pub fresh-rows : rows_in l ≡ record { sets = sets; limit = n; rows = [] }
  unfolding rows_in
  fresh-rows =
      let none_held : rows_of (chains_of l).item (ages_of l) ≡ [] = ap (λ (zs : List ℕ). rows_of (chains_of l).item zs) (settled-ages l [] (countdown n) pool (sym empty)) in
      λ i. record { sets = counted i; limit = fresh.count_is i; rows = none_held i }
