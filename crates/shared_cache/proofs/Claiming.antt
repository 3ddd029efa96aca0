-- Calls that are claimed one by one.
use Rattle.std.proofs.Common.{◌≡◌, ℕ, zero, suc, ◌+◌, List, [], ◌∷◌, length, Option, Some, None, slice_get, refl, ap, ◌∙◌, arith, set, replicate}
use Rattle.std.proofs.lemmas.List.Sums.{sum_by-cons}
use Rattle.std.specs.Option.{option_map_or}
use Rattle.recorded_lane.specs.declared.noted.Noted.{Noted}
use Rattle.certificate_checker.specs.declared.done.Done.{Done}
use Rattle.shared_cache.specs.Listed.{Listed}
use Rattle.shared_cache.specs.Finished.{done_of}
use Rattle.shared_cache.specs.Claimed.{Claims, noted_of, IsEnded, AreClaimed, weigh_slots}

-- no call is claimed
pub claimed_none : (cs : List Noted) (n : ℕ) → n ≡ length cs → AreClaimed cs (replicate n None)
claimed_none [] zero e = tt
claimed_none [] (suc n) e = absurd cc
claimed_none (c ∷ cs) zero e = absurd cc
claimed_none (c ∷ cs) (suc n) e = (tt, claimed_none cs n (omega arith))

pub weigh_none : (h : Done → ℕ) (n : ℕ) → weigh_slots h (replicate n None) ≡ 0
weigh_none h zero = refl
weigh_none h (suc n) = let p = sum_by-cons (λ (s : Option Done). option_map_or h s 0) None (replicate n None) in let r = weigh_none h n in omega arith

-- the call at a position is claimed
pub claimed_set : (cs : List Noted) (ss : List (Option Done)) (i : ℕ) (d : Done) → AreClaimed cs ss → slice_get cs i ≡ Some (noted_of d) → IsEnded d → AreClaimed cs (set ss i (Some d))
claimed_set [] [] i d f at h = f
claimed_set [] (x ∷ ss) i d f at h = absurd f
claimed_set (c ∷ cs) [] i d f at h = absurd f
claimed_set (c ∷ cs) (x ∷ ss) zero d f at h = (((let same : noted_of d ≡ c = cc in same), h), f.1)
claimed_set (c ∷ cs) (x ∷ ss) (suc i) d f at h = (f.0, claimed_set cs ss i d f.1 at h)

-- it weighs more by that call
pub weigh_set : (h : Done → ℕ) (ss : List (Option Done)) (i : ℕ) (d : Done) → slice_get ss i ≡ Some None → weigh_slots h (set ss i (Some d)) ≡ weigh_slots h ss + h d
weigh_set h [] i d at = absurd cc
weigh_set h (x ∷ ss) zero d at =
    let none : x ≡ None = cc in
    let w : option_map_or h x 0 ≡ 0 = ap (λ (s : Option Done). option_map_or h s 0) none in
    let p = sum_by-cons (λ (s : Option Done). option_map_or h s 0) x ss in
    let q = sum_by-cons (λ (s : Option Done). option_map_or h s 0) (Some d) ss in
    omega arith
weigh_set h (x ∷ ss) (suc i) d at =
    let r = weigh_set h ss i d at in
    let p = sum_by-cons (λ (s : Option Done). option_map_or h s 0) x ss in
    let q = sum_by-cons (λ (s : Option Done). option_map_or h s 0) x (set ss i (Some d)) in
    omega arith

-- and so do the claims
pub weigh_claimed : (c new : Claims) (l : Listed) → new ≡ record c { slots = set c.slots l.position (Some (done_of l)) } → slice_get c.slots l.position ≡ Some None → (h : Done → ℕ) → weigh_slots h new.slots ≡ weigh_slots h c.slots + h (done_of l)
weigh_claimed c new l is free h = ap (λ (x : Claims). weigh_slots h x.slots) is ∙ weigh_set h c.slots l.position (done_of l) free
