-- What a change of links leaves of a chain.
use Rattle.std.proofs.Common.{◌≡◌, ◌≢◌, ℕ, List, [], ◌∷◌, ◌++◌, inl, inr, ◌⊎◌, refl, sym, subst, ◌∙◌}
use Rattle.entry_pool.specs.Chains.{none, IsPath, IsBack, IsIn, IsDistinct, end_of, start_of}

-- the links of one place go over to another, and the rest stay
pub path-turn : (f g : ℕ → ℕ) (p q : ℕ) (xs : List ℕ) → IsPath f p xs → g q ≡ f p → ((y : ℕ) → IsIn y xs → g y ≡ f y) → IsPath g q xs
path-turn f g p q [] h e same = e ∙ h
path-turn f g p q (x ∷ xs) h e same = (e ∙ h.0, path-turn f g x x xs h.1 (same x (inl refl)) (λ y i. same y (inr i)))

-- one more at the front
pub path-push : (f g : ℕ → ℕ) (p x : ℕ) (xs : List ℕ) → IsPath f p xs → g p ≡ x → g x ≡ f p → ((y : ℕ) → IsIn y xs → g y ≡ f y) → IsPath g p (x ∷ xs)
path-push f g p x xs h first behind same = (first, path-turn f g p x xs h behind same)

pub path-at : (f : ℕ → ℕ) (p : ℕ) (xs : List ℕ) (x : ℕ) (ys : List ℕ) → IsPath f p (xs ++ x ∷ ys) → f (end_of p xs) ≡ x
path-at f p [] x ys h = h.0
path-at f p (z ∷ xs) x ys h = path-at f z xs x ys h.1

pub path-behind : (f : ℕ → ℕ) (p : ℕ) (xs : List ℕ) (x : ℕ) (ys : List ℕ) → IsPath f p (xs ++ x ∷ ys) → f x ≡ start_of none ys
path-behind f p [] x [] h = h.1
path-behind f p [] x (y ∷ ys) h = h.1.0
path-behind f p (z ∷ xs) x ys h = path-behind f z xs x ys h.1

pub in-left : (x : ℕ) (xs ys : List ℕ) → IsIn x xs → IsIn x (xs ++ ys)
in-left x [] ys h = absurd h
in-left x (z ∷ xs) ys (inl e) = inl e
in-left x (z ∷ xs) ys (inr i) = inr (in-left x xs ys i)

pub in-right : (x : ℕ) (xs ys : List ℕ) → IsIn x ys → IsIn x (xs ++ ys)
in-right x [] ys h = h
in-right x (z ∷ xs) ys h = inr (in-right x xs ys h)

pub in-cases : (x : ℕ) (xs ys : List ℕ) → IsIn x (xs ++ ys) → IsIn x xs ⊎ IsIn x ys
in-cases x [] ys h = inr h
in-cases x (z ∷ xs) ys (inl e) = inl (inl e)
in-cases x (z ∷ xs) ys (inr i) = elim (in-cases x xs ys i) [
  | inl l ↦ inl (inr l)
  | inr r ↦ inr r
]

pub in-same : (x y : ℕ) (xs : List ℕ) → x ≡ y → IsIn x xs → IsIn y xs
in-same x y xs e h = subst (λ (z : ℕ). IsIn z xs) e h

-- the end of a chain is among it, or where it begins
pub end-in : (p : ℕ) (xs : List ℕ) → IsIn (end_of p xs) (p ∷ xs)
end-in p [] = inl refl
end-in p (x ∷ xs) = inr (end-in x xs)

pub start-cases : (ys : List ℕ) → (start_of none ys ≡ none) ⊎ IsIn (start_of none ys) ys
start-cases [] = inl refl
start-cases (y ∷ ys) = inr (inl refl)

-- one is taken out of the middle: the link before it takes over its own
pub path-unlink : (f g : ℕ → ℕ) (p : ℕ) (xs : List ℕ) (x : ℕ) (ys : List ℕ) → IsDistinct (p ∷ xs ++ x ∷ ys) → IsPath f p (xs ++ x ∷ ys) → g (end_of p xs) ≡ f x → ((y : ℕ) → IsIn y (p ∷ xs ++ ys) → y ≢ end_of p xs → g y ≡ f y) → IsPath g p (xs ++ ys)
path-unlink f g p [] x ys apart h e same =
    path-turn f g x p ys h.1 e (λ y i. same y (inr i) (λ q. apart.0 (inr (in-same y p ys q i))))
path-unlink f g p (z ∷ xs) x ys apart h e same = (
  same p (inl refl) (λ q. apart.0 (in-same (end_of z xs) p (z ∷ xs ++ x ∷ ys) (sym q) (in-left (end_of z xs) (z ∷ xs) (x ∷ ys) (end-in z xs)))) ∙ h.0,
  path-unlink f g z xs x ys apart.1 h.1 e (λ y i n. same y (inr i) n),
)

pub back-frame : (f g : ℕ → ℕ) (p : ℕ) (xs : List ℕ) → IsBack f p xs → g none ≡ f none → ((y : ℕ) → IsIn y xs → g y ≡ f y) → IsBack g p xs
back-frame f g p [] h e same = e ∙ h
back-frame f g p (x ∷ xs) h e same = (same x (inl refl) ∙ h.0, back-frame f g x xs h.1 e (λ y i. same y (inr i)))

-- the first of these leads to another one
pub back-turn : (f g : ℕ → ℕ) (p q : ℕ) (xs : List ℕ) → ¬ IsIn none xs → IsDistinct xs → IsBack f p xs → g (start_of none xs) ≡ q → ((y : ℕ) → IsIn y (none ∷ xs) → y ≢ start_of none xs → g y ≡ f y) → IsBack g q xs
back-turn f g p q [] named apart h e same = e
back-turn f g p q (x ∷ xs) named apart h e same =
    (e, back-frame f g x xs h.1 (same none (inl refl) (λ w. named (inl w))) (λ y i. same y (inr (inr i)) (λ w. apart.0 (in-same y x xs w i))))

pub back-at : (f : ℕ → ℕ) (p : ℕ) (xs : List ℕ) (x : ℕ) (ys : List ℕ) → IsBack f p (xs ++ x ∷ ys) → f x ≡ end_of p xs
back-at f p [] x ys h = h.0
back-at f p (z ∷ xs) x ys h = back-at f z xs x ys h.1

pub distinct-right : (xs ys : List ℕ) → IsDistinct (xs ++ ys) → IsDistinct ys
distinct-right [] ys h = h
distinct-right (x ∷ xs) ys h = distinct-right xs ys h.1

pub back-unlink : (f g : ℕ → ℕ) (p : ℕ) (xs : List ℕ) (x : ℕ) (ys : List ℕ) → ¬ IsIn none (xs ++ x ∷ ys) → IsDistinct (xs ++ x ∷ ys) → IsBack f p (xs ++ x ∷ ys) → g (start_of none ys) ≡ f x → ((y : ℕ) → IsIn y (none ∷ xs ++ ys) → y ≢ start_of none ys → g y ≡ f y) → IsBack g p (xs ++ ys)
back-unlink f g p [] x ys named apart h e same =
    back-turn f g x p ys (λ i. named (inr i)) apart.1 h.1 (e ∙ h.0) same
back-unlink f g p (z ∷ xs) x ys named apart h e same = (
  same z (inr (inl refl)) (λ q. elim (start-cases ys) [
    | inl w ↦ named (inl (sym (q ∙ w)))
    | inr w ↦ apart.0 (in-right z xs (x ∷ ys) (inr (in-same (start_of none ys) z ys (sym q) w)))
  ]) ∙ h.0,
  back-unlink f g z xs x ys (λ i. named (inr i)) apart.1 h.1 e (λ y i n. same y (later y i) n),
)
  where
    later : (y : ℕ) → IsIn y (none ∷ xs ++ ys) → IsIn y (none ∷ z ∷ xs ++ ys)
    later y (inl w) = inl w
    later y (inr i) = inr (inr i)

pub path-start : (f : ℕ → ℕ) (p : ℕ) (xs : List ℕ) → IsPath f p xs → f p ≡ start_of none xs
path-start f p [] h = h
path-start f p (x ∷ xs) h = h.0
