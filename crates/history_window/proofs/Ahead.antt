-- What stands ahead of what in a list.
use Rattle.std.proofs.Common.{◌≡◌, ◌≢◌, Bool, true, false, cond, List, [], ◌∷◌, ◌++◌, refl, sym, ap, ◌∙◌, subst, inl, inr, ◌⊎◌}
use Rattle.std.specs.Prelude.{filter}
use Rattle.certificate_checker.proofs.public_laws.Listing.{Member, Pairs, filter_member, member_either, member_filter, member_left, member_right}

-- the first stands in the list, and the second after it
abbrev pub Ahead : {X : Type 0} → List X → X → X → Type 0
Ahead [] x y = ⊥
Ahead (z ∷ zs) x y = ((x ≡ z) × Member y zs) ⊎ Ahead zs x y

-- no two are the same
abbrev pub Once : {X : Type 0} → List X → Type 0
Once {X} xs = Pairs (λ (x y : X). x ≢ y) xs

pub first_member : {X : Type 0} (zs : List X) (x y : X) → Ahead zs x y → Member x zs
first_member [] x y a = a
first_member (z ∷ zs) x y a = elim a [ inl here ↦ inl here.0 | inr later ↦ inr (first_member zs x y later) ]

pub second_member : {X : Type 0} (zs : List X) (x y : X) → Ahead zs x y → Member y zs
second_member [] x y a = a
second_member (z ∷ zs) x y a = elim a [ inl here ↦ inr here.1 | inr later ↦ inr (second_member zs x y later) ]

pub pairs_ahead : {X : Type 0} (R : X → X → Type 0) (zs : List X) (x y : X) → Pairs R zs → Ahead zs x y → R x y
pairs_ahead R [] x y pairs a = absurd a
pairs_ahead R (z ∷ zs) x y pairs a = elim a [ inl here ↦ subst (λ w. R w y) (sym here.0) (pairs.0 y here.1) | inr later ↦ pairs_ahead R zs x y pairs.1 later ]

pub ahead_pairs : {X : Type 0} (R : X → X → Type 0) (zs : List X) → ((x y : X) → Ahead zs x y → R x y) → Pairs R zs
ahead_pairs R [] each = tt
ahead_pairs R (z ∷ zs) each = (λ y m. each z y (inl (refl, m)), ahead_pairs R zs (λ x y a. each x y (inr a)))

-- ---- a strict order of the elements, if each stands there once

pub ahead_either : {X : Type 0} (zs : List X) (x y : X) → Member x zs → Member y zs → x ≢ y → Ahead zs x y ⊎ Ahead zs y x
ahead_either [] x y m n apart = absurd m
ahead_either (z ∷ zs) x y m n apart = elim m [
  | inl first ↦ elim n [ inl second ↦ absurd (apart (first ∙ sym second)) | inr later ↦ inl (inl (first, later)) ]
  | inr behind ↦
      elim n [
        | inl second ↦ inr (inl (second, behind))
        | inr later ↦ elim (ahead_either zs x y behind later apart) [ inl a ↦ inl (inr a) | inr a ↦ inr (inr a) ]
      ]
]

pub ahead_strict : {X : Type 0} (zs : List X) (x y : X) → Once zs → Ahead zs x y → ¬ Ahead zs y x
ahead_strict [] x y once a b = a
ahead_strict (z ∷ zs) x y once a b = elim a [
  | inl here ↦
      elim b [ inl there ↦ once.0 y here.1 (sym there.0) | inr later ↦ once.0 x (second_member zs y x later) (sym here.0) ]
  | inr behind ↦
      elim b [ inl there ↦ once.0 y (second_member zs x y behind) (sym there.0) | inr later ↦ ahead_strict zs x y once.1 behind later ]
]

pub ahead_joined : {X : Type 0} (zs : List X) (x y w : X) → Once zs → Ahead zs x y → Ahead zs y w → Ahead zs x w
ahead_joined [] x y w once a b = a
ahead_joined (z ∷ zs) x y w once a b = elim a [
  | inl here ↦
      elim b [ inl there ↦ absurd (once.0 y here.1 (sym there.0)) | inr later ↦ inl (here.0, second_member zs y w later) ]
  | inr behind ↦
      elim b [ inl there ↦ absurd (once.0 y (second_member zs x y behind) (sym there.0)) | inr later ↦ inr (ahead_joined zs x y w once.1 behind later) ]
]

-- ---- filters

pub filter_ahead : {X : Type 0} (p : X → Bool) (zs : List X) (x y : X) → Ahead zs x y → p x ≡ true → p y ≡ true → Ahead (filter p zs) x y
filter_ahead p [] x y a one other = a
filter_ahead p (z ∷ zs) x y a one other =
    elim (p z) as (λ b. p z ≡ b → Ahead (cond b (z ∷ filter p zs) (filter p zs)) x y) [
      | true ↦ λ test. elim a [ inl here ↦ inl (here.0, filter_member p zs y here.1 other) | inr later ↦ inr (filter_ahead p zs x y later one other) ]
      | false ↦
          λ test. elim a [
            | inl here ↦ absurd (let no : p x ≡ false = ap p here.0 ∙ test in let both : true ≡ false = sym one ∙ no in cc)
            | inr later ↦ filter_ahead p zs x y later one other
          ]
    ] refl

pub ahead_filter : {X : Type 0} (p : X → Bool) (zs : List X) (x y : X) → Ahead (filter p zs) x y → Ahead zs x y
ahead_filter p [] x y a = a
ahead_filter p (z ∷ zs) x y a =
    elim (p z) as (λ b. Ahead (cond b (z ∷ filter p zs) (filter p zs)) x y → Ahead (z ∷ zs) x y) [
      | true ↦ λ here. elim here [ inl first ↦ inl (first.0, (member_filter p zs y first.1).0) | inr later ↦ inr (ahead_filter p zs x y later) ]
      | false ↦ λ here. inr (ahead_filter p zs x y here)
    ] a

-- ---- two lists

pub ahead_left : {X : Type 0} (xs ys : List X) (x y : X) → Ahead xs x y → Ahead (xs ++ ys) x y
ahead_left [] ys x y a = absurd a
ahead_left (z ∷ xs) ys x y a = elim a [ inl here ↦ inl (here.0, member_left xs ys y here.1) | inr later ↦ inr (ahead_left xs ys x y later) ]

pub ahead_right : {X : Type 0} (xs ys : List X) (x y : X) → Ahead ys x y → Ahead (xs ++ ys) x y
ahead_right [] ys x y a = a
ahead_right (z ∷ xs) ys x y a = inr (ahead_right xs ys x y a)

pub ahead_across : {X : Type 0} (xs ys : List X) (x y : X) → Member x xs → Member y ys → Ahead (xs ++ ys) x y
ahead_across [] ys x y m n = absurd m
ahead_across (z ∷ xs) ys x y m n = elim m [ inl here ↦ inl (here, member_right xs ys y n) | inr later ↦ inr (ahead_across xs ys x y later n) ]

pub ahead_append : {X : Type 0} (xs ys : List X) (x y : X) → Ahead (xs ++ ys) x y → Ahead xs x y ⊎ ((Member x xs × Member y ys) ⊎ Ahead ys x y)
ahead_append [] ys x y a = inr (inr a)
ahead_append (z ∷ xs) ys x y a = elim a [
  | inl here ↦ elim (member_either xs ys y here.1) [ inl left ↦ inl (inl (here.0, left)) | inr right ↦ inr (inl (inl here.0, right)) ]
  | inr later ↦
      elim (ahead_append xs ys x y later) [
        | inl left ↦ inl (inr left)
        | inr rest ↦ elim rest [ inl across ↦ inr (inl (inr across.0, across.1)) | inr right ↦ inr (inr right) ]
      ]
]

-- what stands ahead of an element stands in the front of the list, up to it
pub ahead_split : {X : Type 0} (zs front back : List X) (x y : X) → zs ≡ front ++ y ∷ back → Once zs → Ahead zs x y → Member x front
ahead_split {X} zs front back x y split once a =
    let whole : Once (front ++ y ∷ back) = subst (λ l. Once l) split once in
    elim (ahead_append front (y ∷ back) x y (subst (λ l. Ahead l x y) split a)) [
      | inl left ↦ first_member front x y left
      | inr rest ↦ elim rest [ inl across ↦ across.0 | inr right ↦ absurd (pairs_ahead (λ (v w : X). v ≢ w) (front ++ y ∷ back) y y whole (ahead_right front (y ∷ back) y y (inl (refl, behind y back x right))) refl) ]
    ]
  where
    behind : {X : Type 0} (y : X) (back : List X) (x : X) → Ahead (y ∷ back) x y → Member y back
    behind y back x right = elim right [ inl first ↦ first.1 | inr later ↦ second_member back x y later ]

pub member_cut : {X : Type 0} (xs : List X) (x : X) → Member x xs → (front : List X) × (back : List X) × (xs ≡ front ++ x ∷ back)
member_cut [] x m = absurd m
member_cut (y ∷ xs) x m = elim m [
  | inl same ↦ ([], xs, ap (λ z. z ∷ xs) (sym same))
  | inr later ↦ let cut = member_cut xs x later in (y ∷ cut.0, cut.1, ap (λ zs. y ∷ zs) cut.2)
]
