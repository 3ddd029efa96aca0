-- The nodes turned round: the links that lead back are a path through them.
use Rattle.std.proofs.Common.{◌≡◌, ℕ, List, [], ◌∷◌, ◌++◌, map, reverse, inl, inr, refl, sym, ap, subst, ◌∙◌, append_assoc}
use Rattle.std.proofs.lemmas.Grind.{reverse_onto}
use Rattle.std.proofs.lemmas.List.{append-nil, map-append}
use Rattle.entry_pool.specs.Chains.{none, IsPath, IsBack, IsIn, IsDistinct}
use Rattle.entry_pool.proofs.ChainLaws.{in-cases}
use Rattle.entry_pool.proofs.PoolLaws.{distinct-moved}

pub map-reverse : {X Y : Type 0} (h : X → Y) (xs : List X) → map h (reverse xs) ≡ reverse (map h xs)
map-reverse h [] = refl
map-reverse h (x ∷ xs) =
    ap (λ (zs : List _). map h zs) (reverse_onto xs x [])
    ∙ map-append h (reverse xs) (x ∷ [])
    ∙ ap (λ (zs : List _). zs ++ h x ∷ []) (map-reverse h xs)
    ∙ sym (reverse_onto (map h xs) (h x) [])

path-onto : (f : ℕ → ℕ) (p : ℕ) (xs ys : List ℕ) → IsBack f p xs → IsPath f p ys → IsPath f none (reverse xs ++ p ∷ ys)
path-onto f p [] ys back path = (back, path)
path-onto f p (x ∷ xs) ys back path =
    let on : reverse (x ∷ xs) ++ p ∷ ys ≡ reverse xs ++ x ∷ p ∷ ys = ap (λ (zs : List ℕ). zs ++ p ∷ ys) (reverse_onto xs x []) ∙ append_assoc (reverse xs) (x ∷ []) (p ∷ ys) in
    subst (λ (zs : List ℕ). IsPath f none zs) (sym on) (path-onto f x xs (p ∷ ys) back.1 (back.0, path))

-- links that lead back from each node to the one before it lead through them all, the last one first
pub path-back : (f : ℕ → ℕ) (xs : List ℕ) → IsBack f none xs → IsPath f none (reverse xs)
path-back f [] back = back
path-back f (x ∷ xs) back = subst (λ (zs : List ℕ). IsPath f none zs) (sym (reverse_onto xs x [])) (path-onto f x xs [] back.1 back.0)

pub in-back : (y : ℕ) (xs : List ℕ) → IsIn y (reverse xs) → IsIn y xs
in-back y [] i = i
in-back y (x ∷ xs) i = elim (in-cases y (reverse xs) (x ∷ []) (subst (λ (zs : List ℕ). IsIn y zs) (reverse_onto xs x []) i)) [
  | inl j ↦ inr (in-back y xs j)
  | inr j ↦ elim j [
    | inl e ↦ inl e
    | inr k ↦ absurd k
  ]
]

pub apart-back : (xs : List ℕ) → IsDistinct xs → IsDistinct (reverse xs)
apart-back [] apart = apart
apart-back (x ∷ xs) apart =
    let first : IsDistinct (x ∷ reverse xs) = ((λ i. apart.0 (in-back x xs i)), apart-back xs apart.1) in
    subst (λ (zs : List ℕ). IsDistinct zs) (sym (reverse_onto xs x []))
    (distinct-moved (reverse xs) x [] (subst (λ (zs : List ℕ). IsDistinct (x ∷ zs)) (sym (append-nil (reverse xs))) first))
