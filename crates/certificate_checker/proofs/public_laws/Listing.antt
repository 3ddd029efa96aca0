-- Lists by their members, and by what holds of each member and each later one.
use Rattle.std.proofs.Common.{◌≡◌, ℕ, ◌<◌, zero, suc, Bool, true, false, cond, Option, Some, None, List, [], ◌∷◌, ◌++◌, length, refl, sym, ap, ◌∙◌, subst, arith, inl, inr, ◌⊎◌}
use Rattle.std.specs.Prelude.{slice_get, All, AllPairs, Contains, map, filter}
use Rattle.std.specs.List.{filter_map, cons_option}
use Rattle.std.proofs.lemmas.List.Elements.{All-nil, All-cons}
use Rattle.std.proofs.lemmas.List.Kept.{AllPairs-cons}

-- ---- members

-- it is one of these
abbrev pub Member : {X : Type 0} → X → List X → Type 0
Member x [] = ⊥
Member x (y ∷ ys) = (x ≡ y) ⊎ Member x ys

pub member_left : {X : Type 0} (xs ys : List X) (x : X) → Member x xs → Member x (xs ++ ys)
member_left [] ys x m = absurd m
member_left (y ∷ xs) ys x m = elim m [ inl e ↦ inl e | inr later ↦ inr (member_left xs ys x later) ]

pub member_right : {X : Type 0} (xs ys : List X) (x : X) → Member x ys → Member x (xs ++ ys)
member_right [] ys x m = m
member_right (y ∷ xs) ys x m = inr (member_right xs ys x m)

pub member_either : {X : Type 0} (xs ys : List X) (x : X) → Member x (xs ++ ys) → Member x xs ⊎ Member x ys
member_either [] ys x m = inr m
member_either (y ∷ xs) ys x m = elim m [
  | inl e ↦ inl (inl e)
  | inr later ↦ elim (member_either xs ys x later) [ inl left ↦ inl (inr left) | inr right ↦ inr right ]
]

pub member_map : {X Y : Type 0} (f : X → Y) (xs : List X) (y : Y) → Member y (map f xs) → (x : X) × Member x xs × (y ≡ f x)
member_map f [] y m = absurd m
member_map f (x ∷ xs) y m = elim m [
  | inl e ↦ (x, inl refl, e)
  | inr later ↦ let found = member_map f xs y later in (found.0, inr found.1, found.2)
]

pub map_member : {X Y : Type 0} (f : X → Y) (xs : List X) (x : X) → Member x xs → Member (f x) (map f xs)
map_member f [] x m = absurd m
map_member f (y ∷ xs) x m = elim m [ inl e ↦ inl (ap f e) | inr later ↦ inr (map_member f xs x later) ]

-- a filter's members are the list's that pass
pub member_filter : {X : Type 0} (p : X → Bool) (xs : List X) (x : X) → Member x (filter p xs) → Member x xs × (p x ≡ true)
member_filter p [] x m = absurd m
member_filter p (y ∷ xs) x m =
    elim (p y) as (λ b. p y ≡ b → Member x (cond b (y ∷ filter p xs) (filter p xs)) → Member x (y ∷ xs) × (p x ≡ true)) [
      | true ↦
          λ test here. elim here [
            | inl e ↦ (inl e, ap p e ∙ test)
            | inr later ↦ let found = member_filter p xs x later in (inr found.0, found.1)
          ]
      | false ↦ λ test here. let found = member_filter p xs x here in (inr found.0, found.1)
    ] refl m

pub filter_member : {X : Type 0} (p : X → Bool) (xs : List X) (x : X) → Member x xs → p x ≡ true → Member x (filter p xs)
filter_member p [] x m passes = absurd m
filter_member p (y ∷ xs) x m passes =
    elim (p y) as (λ b. p y ≡ b → Member x (cond b (y ∷ filter p xs) (filter p xs))) [
      | true ↦ λ test. elim m [ inl e ↦ inl e | inr later ↦ inr (filter_member p xs x later passes) ]
      | false ↦ λ test. elim m [ inl e ↦ absurd (let no : p x ≡ false = ap p e ∙ test in cc) | inr later ↦ filter_member p xs x later passes ]
    ] refl

-- what is picked comes from a member
pub member_picked : {X Y : Type 0} (h : X → Option Y) (xs : List X) (y : Y) → Member y (filter_map h xs) → (x : X) × Member x xs × (h x ≡ Some y)
member_picked h [] y m = absurd m
member_picked {X} {Y} h (x ∷ xs) y m =
    elim (h x) as (λ o. h x ≡ o → Member y (cons_option o (filter_map h xs)) → (z : X) × Member z (x ∷ xs) × (h z ≡ Some y)) [
      | None ↦ λ is here. let found = member_picked h xs y here in (found.0, inr found.1, found.2)
      | Some z ↦
          λ is here. elim here [
            | inl e ↦ (x, inl refl, is ∙ ap Some (sym e))
            | inr later ↦ let found = member_picked h xs y later in (found.0, inr found.1, found.2)
          ]
    ] refl m

pub picked_member : {X Y : Type 0} (h : X → Option Y) (xs : List X) (x : X) (y : Y) → Member x xs → h x ≡ Some y → Member y (filter_map h xs)
picked_member h [] x y m is = absurd m
picked_member h (z ∷ xs) x y m is =
    elim (h z) as (λ o. h z ≡ o → Member y (cons_option o (filter_map h xs))) [
      | None ↦ λ at. elim m [ inl e ↦ absurd (let no : h x ≡ None = ap h e ∙ at in cc) | inr later ↦ picked_member h xs x y later is ]
      | Some w ↦
          λ at. elim m [
            | inl e ↦ let both : h x ≡ Some w = ap h e ∙ at in inl (let same : y ≡ w = cc in same)
            | inr later ↦ inr (picked_member h xs x y later is)
          ]
    ] refl

-- what a look-up finds is a member, and each member is found
pub member_at : {X : Type 0} (xs : List X) (i : ℕ) (x : X) → slice_get xs i ≡ Some x → Member x xs
member_at [] i x is = cc
member_at (y ∷ xs) zero x is = inl (let same : x ≡ y = cc in same)
member_at (y ∷ xs) (suc i) x is = inr (member_at xs i x is)

pub place_of : {X : Type 0} (xs : List X) (x : X) → Member x xs → (i : ℕ) × (i < length xs) × (slice_get xs i ≡ Some x)
place_of [] x m = absurd m
place_of (y ∷ xs) x m = elim m [
  | inl e ↦ (0, omega arith, ap Some (sym e))
  | inr later ↦ let found = place_of xs x later in (suc found.0, omega (arith, found.1), found.2)
]

pub member_contained : {X : Type 0} (xs : List X) (x : X) → Contains xs x → Member x xs
member_contained [] x has = absurd (omega (arith, has.1))
member_contained (y ∷ xs) x (zero, less, is) = inl (sym is)
member_contained (y ∷ xs) x (suc k, less, is) = inr (member_contained xs x (k, omega arith, is))

pub contained_member : {X : Type 0} (xs : List X) (x : X) → Member x xs → Contains xs x
contained_member [] x m = absurd m
contained_member (y ∷ xs) x m = elim m [
  | inl e ↦ (0, omega arith, sym e)
  | inr later ↦ let found = contained_member xs x later in (suc found.0, omega (arith, found.1), found.2)
]

-- what holds of all holds of each member
pub all_member : {X : Type 0} (P : X → Type 0) (xs : List X) (x : X) → All P xs → Member x xs → P x
all_member P [] x all m = absurd m
all_member P (y ∷ xs) x all m = elim m [
  | inl e ↦ subst P (sym e) (all 0 y (omega arith))
  | inr later ↦ all_member P xs x (λ k d less. all (suc k) d (omega arith)) later
]

pub member_all : {X : Type 0} (P : X → Type 0) (xs : List X) → ((x : X) → Member x xs → P x) → All P xs
member_all P [] each = All-nil P
member_all P (x ∷ xs) each = All-cons P x xs (each x (inl refl)) (member_all P xs (λ y m. each y (inr m)))

-- ---- pairs

-- it holds of each member and each later one
abbrev pub Pairs : {X : Type 0} → (X → X → Type 0) → List X → Type 0
Pairs R [] = Unit {0}
Pairs {X} R (x ∷ xs) = ((y : X) → Member y xs → R x y) × Pairs R xs

pub pairs_from : {X : Type 0} (R : X → X → Type 0) (xs : List X) → AllPairs R xs → Pairs R xs
pairs_from R [] h = tt
pairs_from R (x ∷ xs) h = (
  λ y m. all_member (R x) xs y (λ k d less. h 0 (suc k) d (omega arith) (omega arith)) m,
  pairs_from R xs (λ i j d less within. h (suc i) (suc j) d (omega arith) (omega arith)),
)

pub pairs_to : {X : Type 0} (R : X → X → Type 0) (xs : List X) → Pairs R xs → AllPairs R xs
pairs_to R [] h = λ i j d less within. absurd (let none : j < 0 = within in omega arith)
pairs_to R (x ∷ xs) h = AllPairs-cons R x xs (member_all (R x) xs h.0) (pairs_to R xs h.1)

-- with what is known of the two members too
pub pairs_weaker : {X : Type 0} (R Q : X → X → Type 0) (xs : List X) → ((x y : X) → Member x xs → Member y xs → R x y → Q x y) → Pairs R xs → Pairs Q xs
pairs_weaker R Q [] weaker h = tt
pairs_weaker R Q (x ∷ xs) weaker h = (
  λ y m. weaker x y (inl refl) (inr m) (h.0 y m),
  pairs_weaker R Q xs (λ a b l m. weaker a b (inr l) (inr m)) h.1,
)

pub pairs_both : {X : Type 0} (R Q : X → X → Type 0) (xs : List X) → Pairs R xs → Pairs Q xs → Pairs (λ x y. R x y × Q x y) xs
pairs_both R Q [] h k = tt
pairs_both R Q (x ∷ xs) h k = (λ y m. (h.0 y m, k.0 y m), pairs_both R Q xs h.1 k.1)

pub pairs_append : {X : Type 0} (R : X → X → Type 0) (xs ys : List X) → Pairs R xs → Pairs R ys → ((x y : X) → Member x xs → Member y ys → R x y) → Pairs R (xs ++ ys)
pairs_append R [] ys h k across = k
pairs_append R (x ∷ xs) ys h k across = (
  λ y m. elim (member_either xs ys y m) [ inl left ↦ h.0 y left | inr right ↦ across x y (inl refl) right ],
  pairs_append R xs ys h.1 k (λ a b l m. across a b (inr l) m),
)

pub pairs_map : {X Y : Type 0} (f : X → Y) (R : Y → Y → Type 0) (xs : List X) → Pairs (λ a b. R (f a) (f b)) xs → Pairs R (map f xs)
pairs_map f R [] h = tt
pairs_map f R (x ∷ xs) h = (
  λ y m. let found = member_map f xs y m in subst (R (f x)) (sym found.2) (h.0 found.0 found.1),
  pairs_map f R xs h.1,
)

pub map_pairs : {X Y : Type 0} (f : X → Y) (R : Y → Y → Type 0) (xs : List X) → Pairs R (map f xs) → Pairs (λ a b. R (f a) (f b)) xs
map_pairs f R [] h = tt
map_pairs f R (x ∷ xs) h = (λ y m. h.0 (f y) (map_member f xs y m), map_pairs f R xs h.1)

pub pairs_filter : {X : Type 0} (p : X → Bool) (R : X → X → Type 0) (xs : List X) → Pairs R xs → Pairs R (filter p xs)
pairs_filter p R [] h = tt
pairs_filter p R (x ∷ xs) h =
    elim (p x) as (λ b. Pairs R (cond b (x ∷ filter p xs) (filter p xs))) [
      | true ↦ (λ y m. h.0 y (member_filter p xs y m).0, pairs_filter p R xs h.1)
      | false ↦ pairs_filter p R xs h.1
    ]

-- what is picked by two members is as they are
pub pairs_picked : {X Y : Type 0} (h : X → Option Y) (Q : X → X → Type 0) (R : Y → Y → Type 0) (xs : List X) → ((a b : X) (c d : Y) → h a ≡ Some c → h b ≡ Some d → Q a b → R c d) → Pairs Q xs → Pairs R (filter_map h xs)
pairs_picked h Q R [] gives pairs = tt
pairs_picked h Q R (x ∷ xs) gives pairs =
    elim (h x) as (λ o. h x ≡ o → Pairs R (cons_option o (filter_map h xs))) [
      | None ↦ λ is. pairs_picked h Q R xs gives pairs.1
      | Some c ↦
          λ is. (
            λ d m. let found = member_picked h xs d m in gives x found.0 c d is found.2 (pairs.0 found.0 found.1),
            pairs_picked h Q R xs gives pairs.1,
          )
    ] refl

-- two look-ups at different places of pairs
pub pairs_at : {X : Type 0} (R : X → X → Type 0) (xs : List X) (i j : ℕ) (x y : X) → i < j → slice_get xs i ≡ Some x → slice_get xs j ≡ Some y → Pairs R xs → R x y
pairs_at R [] i j x y less a b pairs = cc
pairs_at R (z ∷ xs) i zero x y less a b pairs = absurd (omega arith)
pairs_at R (z ∷ xs) zero (suc j) x y less a b pairs =
    let same : z ≡ x = cc in subst (λ w. R w y) same (pairs.0 y (member_at xs j y b))
pairs_at R (z ∷ xs) (suc i) (suc j) x y less a b pairs = pairs_at R xs i j x y (omega arith) a b pairs.1

-- ---- lists in a strict order are known by their members

pub same_in_order : {X : Type 0} (R : X → X → Type 0) → ((x y : X) → R x y → ¬ R y x) → (xs ys : List X) → Pairs R xs → Pairs R ys → ((x : X) → Member x xs → Member x ys) → ((x : X) → Member x ys → Member x xs) → xs ≡ ys
same_in_order R strict [] [] p q there back = refl
same_in_order R strict [] (y ∷ ys) p q there back = absurd (back y (inl refl))
same_in_order R strict (x ∷ xs) [] p q there back = absurd (there x (inl refl))
same_in_order {X} R strict (x ∷ xs) (y ∷ ys) p q there back =
    let first : x ≡ y = elim (there x (inl refl)) [
      | inl e ↦ e
      | inr later ↦ elim (back y (inl refl)) [ inl e ↦ sym e | inr other ↦ absurd (strict x y (p.0 y other) (q.0 x later)) ]
    ] in
    let on : (z : X) → Member z xs → Member z ys = λ z m. elim (there z (inr m)) [
      | inl e ↦ let self : R x x = subst (R x) (e ∙ sym first) (p.0 z m) in absurd (strict x x self self)
      | inr later ↦ later
    ] in
    let off : (z : X) → Member z ys → Member z xs = λ z m. elim (back z (inr m)) [
      | inl e ↦ let self : R y y = subst (R y) (e ∙ first) (q.0 z m) in absurd (strict y y self self)
      | inr later ↦ later
    ] in
    let rest : xs ≡ ys = same_in_order R strict xs ys p.1 q.1 on off in
    λ i. first i ∷ rest i
