-- A search for a hash along a set's chain.
use Rattle.std.proofs.Common.{◌≡◌, ◌≢◌, ℕ, ◌-◌, ◌<◌, Bool, true, List, ◌∷◌, length, get_or, inl, inr, sym, ap, subst, ◌∙◌}
use Rattle.std.specs.Prelude.{◌||◌}
use Rattle.std.proofs.lemmas.Bool.{eq-eqb, ne_eqb}
use Rattle.entry_pool.specs.Chains.{IsIn}
use Rattle.entry_pool.specs.StrikeChains.{Pool, walk, noted, chain_of, marks_of, is_among, IsSound}
use Rattle.entry_pool.proofs.ChainMoves.{walk-first}

-- the hash is among those that are left, if it is among all; and each node that is left is one of the pool
pub record Searches (p : Pool) (row hash left at : ℕ) : Type 0 where
  pub same : is_among hash (noted p.hashes (walk left p.links at)) ≡ is_among hash (marks_of p row)
  pub within : (i : ℕ) → IsIn i (walk left p.links at) → i < length p.links

pub searches-all : (p : Pool) (row hash left at : ℕ) → IsSound p → left ≡ get_or p.counts row 0 → at ≡ get_or p.firsts row 0 → Searches p row hash left at
unfolding chain_of marks_of
searches-all p row hash left at sound left_is at_is =
    let all : walk left p.links at ≡ chain_of p row = ap (λ (n : ℕ). walk n p.links at) left_is ∙ ap (walk (get_or p.counts row 0) p.links) at_is in
    record {
      same = ap (λ (k : List ℕ). is_among hash (noted p.hashes k)) all;
      within = λ i h. sound.chains.within row i (subst (λ (k : List ℕ). IsIn i k) all h);
    }

module _ (p : Pool) (row hash left at : ℕ) (s : Searches p row hash left at) (some : 0 < left) where
  pub at-lt : at < length p.links
  at-lt = s.within at (subst (λ (k : List ℕ). IsIn at k) (sym (walk-first left p.links at some)) (inl refl'))
    where
      refl' : at ≡ at
      refl' = λ i. at

  spelled : (get_or p.hashes at 0 ∷ noted p.hashes (walk (left - 1) p.links (get_or p.links at 0))) ≡ noted p.hashes (walk left p.links at)
  spelled = ap (noted p.hashes) (sym (walk-first left p.links at some))

  pub found : hash ≡ get_or p.hashes at 0 → true ≡ is_among hash (marks_of p row)
  found is =
      let others = is_among hash (noted p.hashes (walk (left - 1) p.links (get_or p.links at 0))) in
      sym (ap (λ (b : Bool). b || others) (eq-eqb hash (get_or p.hashes at 0) is)) ∙ ap (is_among hash) spelled ∙ s.same

  pub searches-on : (next : ℕ) → hash ≢ get_or p.hashes at 0 → next ≡ get_or p.links at 0 → Searches p row hash (left - 1) next
  searches-on next differs next_is =
      let others = is_among hash (noted p.hashes (walk (left - 1) p.links (get_or p.links at 0))) in
      record {
        same = ap (λ (x : ℕ). is_among hash (noted p.hashes (walk (left - 1) p.links x))) next_is
            ∙ sym (ap (λ (b : Bool). b || others) (ne_eqb hash (get_or p.hashes at 0) differs)) ∙ ap (is_among hash) spelled ∙ s.same;
        within = λ i h. s.within i (subst (λ (k : List ℕ). IsIn i k) (sym (walk-first left p.links at some))
            (inr (subst (λ (x : ℕ). IsIn i (walk (left - 1) p.links x)) next_is h)));
      }
