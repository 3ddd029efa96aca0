-- A node taken out of the chains, and one put into them.
use Rattle.std.proofs.Common.{◌≡◌, ℕ, zero, suc, Bool, true, cond, eqb, List, [], ◌∷◌, ◌++◌, length, filter, inl, inr, refl, sym, ap, subst, ◌∙◌}
use Rattle.std.proofs.lemmas.Bool.{eq-eqb, ne_eqb, cond_both, cases_Bool, cases_eq}
use Rattle.entry_pool.specs.Chains.{IsPath, IsIn, IsDistinct, end_of, after_of, walk}
use Rattle.entry_pool.proofs.ChainLaws.{in-left, in-right, in-cases, in-same}

-- what a filter keeps was there, and passes
pub filter-in : (p : ℕ → Bool) (x : ℕ) (xs : List ℕ) → IsIn x (filter p xs) → IsIn x xs × (p x ≡ true)
filter-in p x [] h = absurd h
filter-in p x (z ∷ xs) h = elim (cases_Bool (p z)) [
  | inl e ↦
      let h' : IsIn x (z ∷ filter p xs) = subst (λ (b : Bool). IsIn x (cond b (z ∷ filter p xs) (filter p xs))) e h in
      elim h' [
        | inl q ↦ (inl q, ap p q ∙ e)
        | inr i ↦ let r = filter-in p x xs i in (inr r.0, r.1)
      ]
  | inr e ↦
      let h' : IsIn x (filter p xs) = subst (λ (b : Bool). IsIn x (cond b (z ∷ filter p xs) (filter p xs))) e h in
      let r = filter-in p x xs h' in (inr r.0, r.1)
]

pub in-filter : (p : ℕ → Bool) (x : ℕ) (xs : List ℕ) → IsIn x xs → p x ≡ true → IsIn x (filter p xs)
in-filter p x [] h e = absurd h
in-filter p x (z ∷ xs) (inl q) e = subst (λ (b : Bool). IsIn x (cond b (z ∷ filter p xs) (filter p xs))) (sym (ap p (sym q) ∙ e)) (inl q)
in-filter p x (z ∷ xs) (inr i) e =
    cond_both (p z) (z ∷ filter p xs) (filter p xs) (λ ys. IsIn x ys) (λ _. inr (in-filter p x xs i e)) (λ _. in-filter p x xs i e)

pub distinct-filter : (p : ℕ → Bool) (xs : List ℕ) → IsDistinct xs → IsDistinct (filter p xs)
distinct-filter p [] h = tt
distinct-filter p (x ∷ xs) h =
    cond_both (p x) (x ∷ filter p xs) (filter p xs) (λ ys. IsDistinct ys) (λ _. ((λ i. h.0 (filter-in p x xs i).0), distinct-filter p xs h.1)) (λ _. distinct-filter p xs h.1)

pub distinct-left : (xs ys : List ℕ) → IsDistinct (xs ++ ys) → IsDistinct xs
distinct-left [] ys h = tt
distinct-left (x ∷ xs) ys h = ((λ i. h.0 (in-left x xs ys i)), distinct-left xs ys h.1)

-- what is on the left is not on the right
pub distinct-apart : (xs ys : List ℕ) (x : ℕ) → IsDistinct (xs ++ ys) → IsIn x xs → ¬ IsIn x ys
distinct-apart [] ys x h i j = absurd i
distinct-apart (z ∷ xs) ys x h (inl e) j = h.0 (in-right z xs ys (in-same x z ys e j))
distinct-apart (z ∷ xs) ys x h (inr i) j = distinct-apart xs ys x h.1 i j

-- one that stands in the middle goes to the front of the right
pub in-moved : (xs : List ℕ) (x : ℕ) (ys : List ℕ) (y : ℕ) → IsIn y (xs ++ x ∷ ys) → IsIn y (x ∷ xs ++ ys)
in-moved [] x ys y h = h
in-moved (z ∷ xs) x ys y (inl e) = inr (inl e)
in-moved (z ∷ xs) x ys y (inr i) = elim (in-moved xs x ys y i) [
  | inl e ↦ inl e
  | inr j ↦ inr (inr j)
]

pub moved-in : (xs : List ℕ) (x : ℕ) (ys : List ℕ) (y : ℕ) → IsIn y (x ∷ xs ++ ys) → IsIn y (xs ++ x ∷ ys)
moved-in xs x ys y (inl e) = in-right y xs (x ∷ ys) (inl e)
moved-in xs x ys y (inr i) = elim (in-cases y xs ys i) [
  | inl l ↦ in-left y xs (x ∷ ys) l
  | inr r ↦ in-right y xs (x ∷ ys) (inr r)
]

pub distinct-moved : (xs : List ℕ) (x : ℕ) (ys : List ℕ) → IsDistinct (x ∷ xs ++ ys) → IsDistinct (xs ++ x ∷ ys)
distinct-moved [] x ys h = h
distinct-moved (z ∷ xs) x ys h = (
  (λ i. elim (in-moved xs x ys z i) [
    | inl e ↦ h.0 (inl (sym e))
    | inr j ↦ h.1.0 j
  ]),
  distinct-moved xs x ys ((λ i. h.0 (inr i)), h.1.1),
)

pub distinct-back : (xs : List ℕ) (x : ℕ) (ys : List ℕ) → IsDistinct (xs ++ x ∷ ys) → IsDistinct (x ∷ xs ++ ys)
distinct-back [] x ys h = h
distinct-back (z ∷ xs) x ys h =
    let r = distinct-back xs x ys h.1 in (
      (λ i. elim i [
        | inl e ↦ h.0 (in-right z xs (x ∷ ys) (inl (sym e)))
        | inr j ↦ r.0 j
      ]),
      ((λ i. h.0 (moved-in xs x ys z (inr i))), r.1),
    )

-- the walk along a path gives its nodes
pub walk-path : (f : ℕ → ℕ) (p : ℕ) (xs : List ℕ) → IsPath f p xs → walk (length xs) f p ≡ xs
walk-path f p [] h = refl
walk-path f p (x ∷ xs) h = rw (h.0) (ap (λ (ys : List ℕ). x ∷ ys) (walk-path f x xs h.1))

pub length-walk : (n : ℕ) (f : ℕ → ℕ) (p : ℕ) → length (walk n f p) ≡ n
length-walk zero f p = refl
length-walk (suc n) f p = ap suc (length-walk n f (f p))

-- two paths of one length from one place are one
pub same-path : (f : ℕ → ℕ) (p : ℕ) (xs ys : List ℕ) → length xs ≡ length ys → IsPath f p xs → IsPath f p ys → xs ≡ ys
same-path f p xs ys e h k = sym (walk-path f p xs h) ∙ ap (λ (n : ℕ). walk n f p) e ∙ walk-path f p ys k

-- what is after q was in the chain
pub after-in : (q p : ℕ) (xs : List ℕ) (w : ℕ) → IsIn w (after_of q p xs) → IsIn w xs
after-in q p [] w h = h
after-in q p (x ∷ xs) w h = elim (cases_Bool (eqb q p)) [
  | inl e ↦ subst (λ (b : Bool). IsIn w (cond b (x ∷ xs) (after_of q x xs))) e h
  | inr e ↦ inr (after-in q x xs w (subst (λ (b : Bool). IsIn w (cond b (x ∷ xs) (after_of q x xs))) e h))
]

pub after-here : (p : ℕ) (xs : List ℕ) → after_of p p xs ≡ xs
after-here p [] = refl
after-here p (x ∷ xs) = ap (λ (b : Bool). cond b (x ∷ xs) (after_of p x xs)) (eq-eqb p p refl)

pub after-later : (q p x : ℕ) (xs : List ℕ) → (q ≡ p → ⊥) → after_of q p (x ∷ xs) ≡ after_of q x xs
after-later q p x xs n = ap (λ (b : Bool). cond b (x ∷ xs) (after_of q x xs)) (ne_eqb q p n)

-- from a node of a path on, the links lead through what is after it
pub path-from : (f : ℕ → ℕ) (p q : ℕ) (xs : List ℕ) → IsPath f p xs → IsIn q (p ∷ xs) → IsPath f q (after_of q p xs)
path-from f p q [] h (inl e) = ap f e ∙ h
path-from f p q [] h (inr i) = absurd i
path-from f p q (x ∷ xs) h i = elim (cases_eq q p) [
  | inl e ↦
      let here : IsPath f p (after_of p p (x ∷ xs)) = subst (λ (ys : List ℕ). IsPath f p ys) (sym (after-here p (x ∷ xs))) h in
      subst (λ (z : ℕ). IsPath f z (after_of z p (x ∷ xs))) (sym e) here
  | inr n ↦
      let later : IsIn q (x ∷ xs) = elim i [
        | inl e ↦ absurd (n e)
        | inr j ↦ j
      ] in
      subst (λ (ys : List ℕ). IsPath f q ys) (sym (after-later q p x xs n)) (path-from f x q xs h.1 later)
]

-- after the next node lies the rest
pub after-next : (q p y : ℕ) (xs ys : List ℕ) → IsDistinct (p ∷ xs) → after_of q p xs ≡ y ∷ ys → after_of y p xs ≡ ys
after-next q p y [] ys apart e = cc
after-next q p y (x ∷ xs) ys apart e = elim (cases_eq q p) [
  | inl s ↦
      let here : x ∷ xs ≡ y ∷ ys = sym (subst (λ (z : ℕ). after_of z p (x ∷ xs) ≡ x ∷ xs) (sym s) (after-here p (x ∷ xs))) ∙ e in
      let first : x ≡ y = cc in
      let rest : xs ≡ ys = cc in
      after-later y p x xs (λ w. apart.0 (inl (sym w ∙ sym first))) ∙ subst (λ (z : ℕ). after_of z x xs ≡ ys) first (after-here x xs ∙ rest)
  | inr n ↦
      let e' : after_of q x xs ≡ y ∷ ys = sym (after-later q p x xs n) ∙ e in
      let inside : IsIn y xs = after-in q x xs y (subst (λ (zs : List ℕ). IsIn y zs) (sym e') (inl refl)) in
      after-later y p x xs (λ w. apart.0 (inr (in-same y p xs w inside))) ∙ after-next q x y xs ys apart.1 e'
]

-- if a node is what is next after q, q is the end of what is before it
pub end-found : (q p : ℕ) (bs : List ℕ) (x : ℕ) (as' ys : List ℕ) → IsDistinct (p ∷ bs ++ x ∷ as') → after_of q p (bs ++ x ∷ as') ≡ x ∷ ys → q ≡ end_of p bs
end-found q p [] x as' ys apart e = elim (cases_eq q p) [
  | inl s ↦ s
  | inr n ↦
      let e' : after_of q x as' ≡ x ∷ ys = sym (after-later q p x as' n) ∙ e in
      absurd (apart.1.0 (after-in q x as' x (subst (λ (zs : List ℕ). IsIn x zs) (sym e') (inl refl))))
]
end-found q p (z ∷ bs) x as' ys apart e = elim (cases_eq q p) [
  | inl s ↦
      let here : z ∷ bs ++ x ∷ as' ≡ x ∷ ys = sym (subst (λ (w : ℕ). after_of w p (z ∷ bs ++ x ∷ as') ≡ z ∷ bs ++ x ∷ as') (sym s) (after-here p (z ∷ bs ++ x ∷ as'))) ∙ e in
      let first : z ≡ x = cc in
      absurd (apart.1.0 (in-right z bs (x ∷ as') (inl first)))
  | inr n ↦ end-found q z bs x as' ys apart.1 (sym (after-later q p z (bs ++ x ∷ as') n) ∙ e)
]
