-- Lists seen by number, and lists grouped by a number that falls along them.
use Rattle.std.proofs.Common.{◌≡◌, ℕ, zero, suc, ◌+◌, ◌<◌, ◌≤◌, Bool, cond, eqb, List, [], ◌∷◌, ◌++◌, length, get_or, set, filter, map, slice_get, Some, All, refl, sym, ap, subst, ◌∙◌, inl, inr, arith}
use Rattle.std.specs.Prelude.{reverse, AllPairs}
use Rattle.std.specs.List.{flat_map, range_with_len}
use Rattle.std.proofs.lemmas.Bool.{cases_eq, eq-eqb, ne_eqb}
use Rattle.std.proofs.lemmas.List.{append-nil, append_assoc, reverse-append, map-append}
use Rattle.std.proofs.lemmas.List.Elements.{All-head, All-tail}
use Rattle.klog.specs.Segments.{numbered}

-- ---- seen by number

pub numbered-fuse : {X Y Z : Type 0} (f : ℕ → X → Y) (g : ℕ → Y → Z) (n : ℕ) (xs : List X) → numbered g n (numbered f n xs) ≡ numbered (λ j x. g j (f j x)) n xs
numbered-fuse f g n [] = refl
numbered-fuse f g n (x ∷ xs) = ap (λ (ys : List _). g n (f n x) ∷ ys) (numbered-fuse f g (n + 1) xs)

pub map-numbered : {X Y Z : Type 0} (f : ℕ → X → Y) (g : Y → Z) (n : ℕ) (xs : List X) → map g (numbered f n xs) ≡ numbered (λ j x. g (f j x)) n xs
map-numbered f g n [] = refl
map-numbered f g n (x ∷ xs) = ap (λ (ys : List _). g (f n x) ∷ ys) (map-numbered f g (n + 1) xs)

pub numbered-same : {X Y : Type 0} (f g : ℕ → X → Y) (n : ℕ) (xs : List X) → ((j : ℕ) (x : X) → slice_get xs j ≡ Some x → f (n + j) x ≡ g (n + j) x) → numbered f n xs ≡ numbered g n xs
numbered-same f g n [] same = refl
numbered-same f g n (x ∷ xs) same =
    let here : f n x ≡ g n x = subst (λ (m : ℕ). f m x ≡ g m x) (omega arith) (same 0 x refl) in
    ap (λ (y : _). y ∷ numbered f (n + 1) xs) here
    ∙ ap (λ (ys : List _). g n x ∷ ys) (numbered-same f g (n + 1) xs (λ j y at. subst (λ (m : ℕ). f m y ≡ g m y) (omega arith) (same (suc j) y at)))

pub numbered-range : {X Y : Type 0} (f : ℕ → X) (g : ℕ → X → Y) (a n : ℕ) → numbered g a (map f (range_with_len a n)) ≡ map (λ p. g p (f p)) (range_with_len a n)
numbered-range f g a zero = refl
numbered-range f g a (suc n) = ap (λ (ys : List _). g a (f a) ∷ ys) (numbered-range f g (a + 1) n)

pub range-same : {X : Type 0} (f g : ℕ → X) (a n : ℕ) → ((i : ℕ) → a ≤ i → i < a + n → f i ≡ g i) → map f (range_with_len a n) ≡ map g (range_with_len a n)
range-same f g a zero same = refl
range-same f g a (suc n) same =
    ap (λ (y : _). y ∷ map f (range_with_len (a + 1) n)) (same a (omega arith) (omega arith))
    ∙ ap (λ (ys : List _). g a ∷ ys) (range-same f g (a + 1) n (λ i from to. same i (omega (arith, from)) (omega (arith, to))))

pub length-numbered : {X Y : Type 0} (f : ℕ → X → Y) (n : ℕ) (xs : List X) → length (numbered f n xs) ≡ length xs
length-numbered f n [] = refl
length-numbered f n (x ∷ xs) = ap suc (length-numbered f (n + 1) xs)

-- the one with a number, where past the end stands what is made of what stands there
pub numbered-get : {X Y : Type 0} (f : ℕ → X → Y) (d : X) (e : Y) → ((j : ℕ) → f j d ≡ e) → (n : ℕ) (xs : List X) (i : ℕ) → get_or (numbered f n xs) i e ≡ f (n + i) (get_or xs i d)
numbered-get f d e past n [] i = sym (past (n + i))
numbered-get f d e past n (x ∷ xs) zero = ap (λ (m : ℕ). f m x) (omega arith)
numbered-get f d e past n (x ∷ xs) (suc i) = numbered-get f d e past (n + 1) xs i ∙ ap (λ (m : ℕ). f m (get_or xs i d)) (omega arith)

pub numbered-set : {X Y : Type 0} (f : ℕ → X → Y) (n : ℕ) (xs : List X) (i : ℕ) (x : X) → numbered f n (set xs i x) ≡ set (numbered f n xs) i (f (n + i) x)
numbered-set f n [] i x = refl
numbered-set f n (y ∷ ys) zero x = ap (λ (m : ℕ). f m x ∷ numbered f (n + 1) ys) (omega arith)
numbered-set f n (y ∷ ys) (suc i) x = ap (λ (zs : List _). f n y ∷ zs) (numbered-set f (n + 1) ys i x ∙ ap (λ (m : ℕ). set (numbered f (n + 1) ys) i (f m x)) (omega arith))

pub numbered-append : {X Y : Type 0} (f : ℕ → X → Y) (n : ℕ) (xs ys : List X) → numbered f n (xs ++ ys) ≡ numbered f n xs ++ numbered f (n + length xs) ys
numbered-append f n [] ys = ap (λ (m : ℕ). numbered f m ys) (omega arith)
numbered-append f n (x ∷ xs) ys = ap (λ (zs : List _). f n x ∷ zs) (numbered-append f (n + 1) xs ys ∙ ap (λ (m : ℕ). numbered f (n + 1) xs ++ numbered f m ys) (omega arith))

-- ---- grouped by a number that falls

-- those with this number, last first
abbrev pub group : {X Y : Type 0} → (X → Y) → (X → ℕ) → List X → ℕ → List Y
group f key xs i = map f (reverse (filter (λ x. eqb (key x) i) xs))

-- the groups of these numbers
abbrev pub groups : {X Y : Type 0} → (X → Y) → (X → ℕ) → List X → ℕ → ℕ → List Y
groups f key xs a n = flat_map (group f key xs) (range_with_len a n)

pub aged-cons : {X Y : Type 0} (f : X → Y) (x : X) (xs : List X) → map f (reverse (x ∷ xs)) ≡ map f (reverse xs) ++ f x ∷ []
aged-cons f x xs = ap (map f) (reverse-append (x ∷ []) xs) ∙ map-append f (reverse xs) (x ∷ [])

-- one more at the front comes last in its group
group-in : {X Y : Type 0} (f : X → Y) (key : X → ℕ) (x : X) (xs : List X) (i : ℕ) → key x ≡ i → group f key (x ∷ xs) i ≡ group f key xs i ++ f x ∷ []
group-in f key x xs i at =
    ap (λ (b : Bool). map f (reverse (cond b (x ∷ filter (λ y. eqb (key y) i) xs) (filter (λ y. eqb (key y) i) xs)))) (eq-eqb (key x) i at)
    ∙ aged-cons f x (filter (λ y. eqb (key y) i) xs)

group-out : {X Y : Type 0} (f : X → Y) (key : X → ℕ) (x : X) (xs : List X) (i : ℕ) → (key x ≡ i → ⊥) → group f key (x ∷ xs) i ≡ group f key xs i
group-out f key x xs i away =
    ap (λ (b : Bool). map f (reverse (cond b (x ∷ filter (λ y. eqb (key y) i) xs) (filter (λ y. eqb (key y) i) xs)))) (ne_eqb (key x) i away)

-- no one has this number
filter-away : {X : Type 0} (key : X → ℕ) (xs : List X) (i : ℕ) → All (λ y. key y < i) xs → filter (λ y. eqb (key y) i) xs ≡ []
filter-away key [] i less = refl
filter-away key (x ∷ xs) i less =
    let lt : key x < i = All-head (λ y. key y < i) x xs less in
    ap (λ (b : Bool). cond b (x ∷ filter (λ y. eqb (key y) i) xs) (filter (λ y. eqb (key y) i) xs)) (ne_eqb (key x) i (λ e. omega (arith, e, lt)))
    ∙ filter-away key xs i (All-tail (λ y. key y < i) x xs less)

groups-away : {X Y : Type 0} (f : X → Y) (key : X → ℕ) (xs : List X) (a n : ℕ) → All (λ y. key y < a) xs → groups f key xs a n ≡ []
groups-away f key xs a zero less = refl
groups-away f key xs a (suc n) less =
    ap (λ (ys : List _). map f (reverse ys) ++ groups f key xs (a + 1) n) (filter-away key xs a less)
    ∙ groups-away f key xs (a + 1) n (λ i d lt. omega (arith, less i d lt))

groups-cons : {X Y : Type 0} (f : X → Y) (key : X → ℕ) (x : X) (xs : List X) (a n : ℕ) → a ≤ key x → key x < a + n → All (λ y. key y ≤ key x) xs
    → groups f key (x ∷ xs) a n ≡ groups f key xs a n ++ f x ∷ []
groups-cons f key x xs a zero from to less = absurd (omega (arith, from, to))
groups-cons f key x xs a (suc n) from to less = elim (cases_eq (key x) a) [
  | inl at ↦
      let up : All (λ y. key y < a + 1) (x ∷ xs) = λ i d lt. up_at i d lt at in
      ap (λ (ys : List _). ys ++ groups f key (x ∷ xs) (a + 1) n) (group-in f key x xs a at)
      ∙ ap (λ (ys : List _). (group f key xs a ++ f x ∷ []) ++ ys) (groups-away f key (x ∷ xs) (a + 1) n up)
      ∙ append-nil (group f key xs a ++ f x ∷ [])
      ∙ ap (λ (ys : List _). ys ++ f x ∷ []) (sym (append-nil (group f key xs a)))
      ∙ ap (λ (ys : List _). (group f key xs a ++ ys) ++ f x ∷ []) (sym (groups-away f key xs (a + 1) n (λ i d lt. omega (arith, less i d lt, at))))
  | inr away ↦
      ap (λ (ys : List _). ys ++ groups f key (x ∷ xs) (a + 1) n) (group-out f key x xs a away)
      ∙ ap (λ (ys : List _). group f key xs a ++ ys) (groups-cons f key x xs (a + 1) n (omega (arith, from, away)) (omega (arith, to)) less)
      ∙ sym (append_assoc (group f key xs a) (groups f key xs (a + 1) n) (f x ∷ []))
]
  where
    up_at : (i : ℕ) (d : _) → i < length (x ∷ xs) → key x ≡ a → key (get_or (x ∷ xs) i d) < a + 1
    up_at zero d lt at = omega (arith, at)
    up_at (suc i) d lt at = omega (arith, less i d (omega (arith, lt)), at)

-- the groups one after the other are the whole
pub grouped : {X Y : Type 0} (f : X → Y) (key : X → ℕ) (xs : List X) (a n : ℕ) → All (λ y. a ≤ key y) xs → All (λ y. key y < a + n) xs → AllPairs (λ x y. key y ≤ key x) xs
    → groups f key xs a n ≡ map f (reverse xs)
grouped f key [] a n from to falls = none a n
  where
    none : (a n : ℕ) → groups f key [] a n ≡ []
    none a zero = refl
    none a (suc n) = none (a + 1) n
grouped f key (x ∷ xs) a n from to falls =
    groups-cons f key x xs a n (All-head (λ y. a ≤ key y) x xs from) (All-head (λ y. key y < a + n) x xs to) (λ i d lt. falls 0 (suc i) d (omega arith) (omega (arith, lt)))
    ∙ ap (λ (ys : List _). ys ++ f x ∷ []) (grouped f key xs a n (All-tail (λ y. a ≤ key y) x xs from) (All-tail (λ y. key y < a + n) x xs to) (λ i j d lt lj. falls (suc i) (suc j) d (omega (arith, lt)) (omega (arith, lj))))
    ∙ sym (aged-cons f x xs)
