-- A pool in which nothing is struck.
use Rattle.std.proofs.Common.{◌≡◌, ℕ, zero, suc, ◌+◌, ◌<◌, ◌≤◌, List, [], ◌∷◌, length, get_or, replicate, inl, inr, refl, sym, ap, subst, ◌∙◌, arith}
use Rattle.std.proofs.lemmas.List.{get_or-replicate, get_or_past, length-replicate}
use Rattle.std.proofs.lemmas.Bool.{cases_lt}
use Rattle.entry_pool.specs.Chains.{IsIn, IsDistinct}
use Rattle.entry_pool.specs.StrikeChains.{Pool, walk, total, chain_of, frees_of, AreApart, IsOpened, AreSuccessors}
use Rattle.entry_pool.proofs.StrikeMoves.{marks-none}

-- this many numbers from one on
abbrev count_up : ℕ → ℕ → List ℕ
count_up from zero = []
count_up from (suc n) = from ∷ count_up (from + 1) n

up-walk : (n from places : ℕ) (links : List ℕ) → AreSuccessors places links → from + n ≤ places → walk n links from ≡ count_up from n
up-walk zero from places links next within = refl
up-walk (suc n) from places links next within =
    ap (λ (x : ℕ). from ∷ walk n links x) (next.next from (omega (arith, within))) ∙ ap (λ (rest : List ℕ). from ∷ rest) (up-walk n (from + 1) places links next (omega (arith, within)))

up-within : (n from i : ℕ) → IsIn i (count_up from n) → (from ≤ i) × (i < from + n)
up-within zero from i h = absurd h
up-within (suc n) from i (inl e) = (omega (arith, e), omega (arith, e))
up-within (suc n) from i (inr h) = let later = up-within n (from + 1) i h in let low = later.0 in let high = later.1 in (omega (arith, low), omega (arith, high))

up-once : (n from : ℕ) → IsDistinct (count_up from n)
up-once zero from = tt
up-once (suc n) from = ((λ h. let low = (up-within n (from + 1) from h).0 in absurd (omega (arith, low))), up-once n (from + 1))

total-none : (n : ℕ) → total (replicate n 0) ≡ 0
total-none zero = refl
total-none (suc n) = let later = total-none n in let t = total (replicate n 0) in let e : 0 + t ≡ 0 = omega (arith, later) in e

none-at : (sets row : ℕ) → get_or {A = ℕ} (replicate sets 0) row 0 ≡ 0
none-at sets row = elim (cases_lt row sets) [
  | inl lt ↦ get_or-replicate sets row 0 0 lt
  | inr past ↦ let all : length {A = ℕ} (replicate sets 0) ≡ sets = length-replicate sets 0 in get_or_past (replicate sets 0) row 0 (omega (arith, past, all))
]

no-chain : (p : Pool) (row : ℕ) → get_or p.counts row 0 ≡ 0 → chain_of p row ≡ []
unfolding chain_of
no-chain p row none = ap (λ (n : ℕ). walk n p.links (get_or p.firsts row 0)) none

module _ (p : Pool) (sets places : ℕ) (firsts : p.firsts ≡ replicate sets 0) (counts : p.counts ≡ replicate sets 0) (hashes : p.hashes ≡ replicate places 0) (links : AreSuccessors places p.links) (free : p.free ≡ 0) (all_free : p.free_count ≡ places) (few : places ≤ 524288) where
  count_at : (row : ℕ) → get_or p.counts row 0 ≡ 0
  count_at row = ap (λ (xs : List ℕ). get_or xs row 0) counts ∙ none-at sets row

  frees : frees_of p ≡ count_up 0 places
  unfolding frees_of
  frees = ap (λ (n : ℕ). walk n p.links p.free) all_free ∙ ap (λ (x : ℕ). walk places p.links x) free ∙ up-walk places 0 places p.links links (omega arith)

  nothing_in : (row i : ℕ) → ¬ IsIn i (chain_of p row)
  nothing_in row i h = subst (λ (k : List ℕ). IsIn i k) (no-chain p row (count_at row)) h

  chains : AreApart (chain_of p) (frees_of p) (length p.links)
  chains =
      record {
        within = λ row i h. absurd (nothing_in row i h);
        free_within = λ i h. let lt = (up-within places 0 i (subst (λ (k : List ℕ). IsIn i k) frees h)).1 in let all = links.count in omega (arith, lt, all);
        apart = λ row other i h k. absurd (nothing_in row i h);
        free_apart = λ row i h k. nothing_in row i h;
        once = λ row. subst IsDistinct (sym (no-chain p row (count_at row))) tt;
        free_once = subst IsDistinct (sym frees) (up-once places 0);
      }

  pub opened : IsOpened p sets places
  opened =
      let summed : total p.counts ≡ 0 = ap total counts ∙ total-none sets in
      let count = links.count in
      record {
        sound = record {
          rows = ap length counts ∙ sym (ap length firsts);
          nodes = ap length hashes ∙ length-replicate places 0 ∙ sym links.count;
          chains = chains;
          few = λ row. let none = count_at row in omega (arith, none);
          all = omega (arith, summed, all_free, count);
          bounded = omega (arith, count, few);
        };
        sets_are = ap length firsts ∙ length-replicate sets 0;
        places_are = links.count;
        free = all_free;
        none = λ row. marks-none p row (count_at row);
      }
