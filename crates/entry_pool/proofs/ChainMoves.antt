-- Chains after a node left one for another.
use Rattle.std.proofs.Common.{◌≡◌, ◌≢◌, ℕ, zero, suc, ◌+◌, ◌-◌, ◌<◌, List, [], ◌∷◌, length, get_or, set, inl, inr, ⊎_elim, refl, sym, ap, subst, ◌∙◌, arith}
use Rattle.std.specs.Prelude.{◌⊎◌}
use Rattle.std.proofs.lemmas.Bool.{cases_eq}
use Rattle.std.proofs.lemmas.List.{get_or-set_other}
use Rattle.entry_pool.specs.Chains.{IsIn, IsDistinct}
use Rattle.entry_pool.specs.StrikeChains.{walk, noted, total, AreApart}

-- one node more of a chain
pub walk-more : (n : ℕ) (links : List ℕ) (x : ℕ) → walk (n + 1) links x ≡ x ∷ walk n links (get_or links x 0)
walk-more n links x = let e : n + 1 ≡ suc n = omega arith in ap (λ m. walk m links x) e

-- the first node of a chain that has one
pub walk-first : (n : ℕ) (links : List ℕ) (x : ℕ) → 0 < n → walk n links x ≡ x ∷ walk (n - 1) links (get_or links x 0)
walk-first n links x some = let e : n ≡ (n - 1) + 1 = omega (arith, some) in ap (λ m. walk m links x) e ∙ walk-more (n - 1) links x

-- a chain stays if another node leads elsewhere
pub walk-frame : (n : ℕ) (links : List ℕ) (first at to : ℕ) → ¬ IsIn at (walk n links first) → walk n (set links at to) first ≡ walk n links first
walk-frame zero links first at to apart = refl
walk-frame (suc n) links first at to apart =
    ap (λ (next : ℕ). first ∷ walk n (set links at to) next) (get_or-set_other links at first to 0 (λ e. apart (inl (sym e))))
    ∙ ap (λ (rest : List ℕ). first ∷ rest) (walk-frame n links (get_or links first 0) at to (λ h. apart (inr h)))

-- what nodes note stays if another node notes something else
pub noted-frame : (nodes hashes : List ℕ) (at hash : ℕ) → ¬ IsIn at nodes → noted (set hashes at hash) nodes ≡ noted hashes nodes
noted-frame [] hashes at hash apart = refl
noted-frame (x ∷ xs) hashes at hash apart =
    ap (λ (v : ℕ). v ∷ noted (set hashes at hash) xs) (get_or-set_other hashes at x hash 0 (λ e. apart (inl (sym e))))
    ∙ ap (λ (rest : List ℕ). get_or hashes x 0 ∷ rest) (noted-frame xs hashes at hash (λ h. apart (inr h)))

-- a sum with one number in place of another
pub total-set : (xs : List ℕ) (i v : ℕ) → i < length xs → total (set xs i v) + get_or xs i 0 ≡ total xs + v
total-set [] i v lt = absurd (omega (arith, lt))
total-set (x ∷ xs) zero v lt = let s = total xs in let e : (v + s) + x ≡ (x + s) + v = omega arith in e
total-set (x ∷ xs) (suc i) v lt =
    let later = total-set xs i v (omega (arith, lt)) in
    let s = total xs in
    let t = total (set xs i v) in
    let e : (x + t) + get_or xs i 0 ≡ (x + s) + v = omega (arith, later) in
    e

-- the first free node joins a set's chain
module _ (c d : ℕ → List ℕ) (f g : List ℕ) (total set x : ℕ) (frees : f ≡ x ∷ g) (own : d set ≡ x ∷ c set) (others : (t : ℕ) → t ≢ set → d t ≡ c t) (a : AreApart c f total) where
  freed : (i : ℕ) → i ≡ x → IsIn i f
  freed i e = subst (λ (k : List ℕ). IsIn i k) (sym frees) (inl e)

  free_still : (i : ℕ) → IsIn i g → IsIn i f
  free_still i h = subst (λ (k : List ℕ). IsIn i k) (sym frees) (inr h)

  first_once : IsDistinct (x ∷ g)
  first_once = subst IsDistinct frees a.free_once

  split : (t i : ℕ) → IsIn i (d t) → IsIn i (c t) ⊎ ((i ≡ x) × (t ≡ set))
  split t i h = ⊎_elim (λ same. first (subst (λ (k : List ℕ). IsIn i k) (ap d same ∙ own) h) same) (λ differs. inl (subst (λ (k : List ℕ). IsIn i k) (others t differs) h)) (cases_eq t set)
    where
      first : IsIn i (x ∷ c set) → t ≡ set → IsIn i (c t) ⊎ ((i ≡ x) × (t ≡ set))
      first (inl e) same = inr (e, same)
      first (inr old) same = inl (subst (λ (k : ℕ). IsIn i (c k)) (sym same) old)

  pub joined : AreApart d g total
  joined = record {
    within = λ t i h. ⊎_elim (λ old. a.within t i old) (λ new. a.free_within i (freed i new.0)) (split t i h);
    free_within = λ i h. a.free_within i (free_still i h);
    apart = λ t u i h k. both t u i (split t i h) (split u i k);
    free_apart = λ t i h k. ⊎_elim (λ old. a.free_apart t i old (free_still i k)) (λ new. first_once.0 (subst (λ (j : ℕ). IsIn j g) new.0 k)) (split t i h);
    once = λ t. ⊎_elim
        (λ same. let added : IsDistinct (x ∷ c set) = ((λ h. a.free_apart set x h (freed x refl)), a.once set) in subst IsDistinct (sym (ap d same ∙ own)) added)
        (λ differs. subst IsDistinct (sym (others t differs)) (a.once t))
        (cases_eq t set);
    free_once = first_once.1;
  }
    where
      both : (t u i : ℕ) → IsIn i (c t) ⊎ ((i ≡ x) × (t ≡ set)) → IsIn i (c u) ⊎ ((i ≡ x) × (u ≡ set)) → t ≡ u
      both t u i (inl p) (inl q) = a.apart t u i p q
      both t u i (inl p) (inr n) = absurd (a.free_apart t i p (freed i n.0))
      both t u i (inr n) (inl q) = absurd (a.free_apart u i q (freed i n.0))
      both t u i (inr n) (inr m) = n.1 ∙ sym m.1

-- the first node of a set's chain joins the free ones
module _ (c d : ℕ → List ℕ) (f g : List ℕ) (total set x : ℕ) (frees : g ≡ x ∷ f) (own : c set ≡ x ∷ d set) (others : (t : ℕ) → t ≢ set → d t ≡ c t) (a : AreApart c f total) where
  held : (i : ℕ) → i ≡ x → IsIn i (c set)
  held i e = subst (λ (k : List ℕ). IsIn i k) (sym own) (inl e)

  held_once : IsDistinct (x ∷ d set)
  held_once = subst IsDistinct own (a.once set)

  still : (t i : ℕ) → IsIn i (d t) → IsIn i (c t)
  still t i h = ⊎_elim
      (λ same. subst (λ (k : ℕ). IsIn i (c k)) (sym same) (subst (λ (k : List ℕ). IsIn i k) (sym own) (inr (subst (λ (k : ℕ). IsIn i (d k)) same h))))
      (λ differs. subst (λ (k : List ℕ). IsIn i k) (others t differs) h)
      (cases_eq t set)

  pub left : AreApart d g total
  left = record {
    within = λ t i h. a.within t i (still t i h);
    free_within = λ i h. ⊎_elim (λ e. a.within set i (held i e)) (λ old. a.free_within i old) (subst (λ (k : List ℕ). IsIn i k) frees h);
    apart = λ t u i h k. a.apart t u i (still t i h) (still u i k);
    free_apart = λ t i h k. ⊎_elim
        (λ e. let same : t ≡ set = a.apart t set i (still t i h) (held i e) in
        let here : IsIn i (d set) = subst (λ (j : ℕ). IsIn i (d j)) same h in
        held_once.0 (subst (λ (j : ℕ). IsIn j (d set)) e here))
        (λ old. a.free_apart t i (still t i h) old)
        (subst (λ (j : List ℕ). IsIn i j) frees k);
    once = λ t. ⊎_elim
        (λ same. subst (λ (j : ℕ). IsDistinct (d j)) (sym same) held_once.1)
        (λ differs. subst IsDistinct (sym (others t differs)) (a.once t))
        (cases_eq t set);
    free_once = let added : IsDistinct (x ∷ f) = ((λ h. a.free_apart set x (held x refl) h), a.free_once) in subst IsDistinct (sym frees) added;
  }
