-- Spots sorted by their points: those at one point stay in their order.
use Rattle.std.proofs.Common.{◌≡◌, ◌≤◌, Bool, true, false, cond, ltb, List, [], ◌∷◌, refl, sym, ap, ◌∙◌, arith, inl, inr, ◌⊎◌}
use Rattle.std.specs.Prelude.{filter}
use Rattle.std.specs.List.Sorted.{IsPermutation}
use Rattle.std.proofs.lemmas.Bool.{ltb-true, ltb-false, cases_Bool}
use Rattle.std.proofs.lemmas.List.Sorted.{IsPermutation-refl, IsPermutation-cons, IsPermutation-middle, IsPermutation-sym, IsPermutation-trans}
use Rattle.certificate_checker.proofs.public_laws.Listing.{Member, Pairs}
use Rattle.certificate_finder.specs.Spots.{Spotted}

-- a spot before the first one of a sorted list that has no lesser point
abbrev pub put_in : Spotted → List Spotted → List Spotted
put_in x [] = x ∷ []
put_in x (y ∷ ys) = cond (ltb y.point x.point) (y ∷ put_in x ys) (x ∷ y ∷ ys)

abbrev pub by_points : List Spotted → List Spotted
by_points [] = []
by_points (x ∷ xs) = put_in x (by_points xs)

-- ---- the same spots

put_moves : (x : Spotted) (ys : List Spotted) → IsPermutation (x ∷ ys) (put_in x ys)
put_moves x [] = IsPermutation-refl (x ∷ [])
put_moves x (y ∷ ys) = elim (ltb y.point x.point) as (λ b. IsPermutation (x ∷ y ∷ ys) (cond b (y ∷ put_in x ys) (x ∷ y ∷ ys))) [
  | true ↦
      IsPermutation-trans (x ∷ y ∷ ys) (y ∷ x ∷ ys) (y ∷ put_in x ys) (IsPermutation-sym (y ∷ x ∷ ys) (x ∷ y ∷ ys) (IsPermutation-middle (y ∷ []) x ys))
      (IsPermutation-cons y (x ∷ ys) (put_in x ys) (put_moves x ys))
  | false ↦ IsPermutation-refl (x ∷ y ∷ ys)
]

pub points_permuted : (xs : List Spotted) → IsPermutation xs (by_points xs)
points_permuted [] = IsPermutation-refl []
points_permuted (x ∷ xs) =
    IsPermutation-trans (x ∷ xs) (x ∷ by_points xs) (by_points (x ∷ xs)) (IsPermutation-cons x xs (by_points xs) (points_permuted xs)) (put_moves x (by_points xs))

put_members : (x : Spotted) (ys : List Spotted) (z : Spotted) → Member z (put_in x ys) → (z ≡ x) ⊎ Member z ys
put_members x [] z m = m
put_members x (y ∷ ys) z m = elim (ltb y.point x.point) as (λ b. Member z (cond b (y ∷ put_in x ys) (x ∷ y ∷ ys)) → (z ≡ x) ⊎ Member z (y ∷ ys)) [
  | true ↦ λ here. elim here [ inl e ↦ inr (inl e) | inr later ↦ elim (put_members x ys z later) [ inl e ↦ inl e | inr old ↦ inr (inr old) ] ]
  | false ↦ λ here. here
] m

pub points_members : (xs : List Spotted) (z : Spotted) → Member z (by_points xs) → Member z xs
points_members [] z m = m
points_members (x ∷ xs) z m = elim (put_members x (by_points xs) z m) [ inl e ↦ inl e | inr old ↦ inr (points_members xs z old) ]

-- ---- in order

put_rises : (x : Spotted) (ys : List Spotted) → Pairs (λ a b. a.point ≤ b.point) ys → Pairs (λ a b. a.point ≤ b.point) (put_in x ys)
put_rises x [] up = (λ z m. absurd m, tt)
put_rises x (y ∷ ys) up = elim (ltb y.point x.point) as (λ b. ltb y.point x.point ≡ b → Pairs (λ a b. a.point ≤ b.point) (cond b (y ∷ put_in x ys) (x ∷ y ∷ ys))) [
  | true ↦
      λ test. (
        λ z m. elim (put_members x ys z m) [
          | inl e ↦ let less = ltb-true y.point x.point test in let same = ap (λ (s : Spotted). s.point) e in omega (arith, less, same)
          | inr old ↦ up.0 z old
        ],
        put_rises x ys up.1,
      )
  | false ↦
      λ test.
      let le = ltb-false y.point x.point test in (
        λ z m. elim m [
          | inl e ↦ let same = ap (λ (s : Spotted). s.point) e in omega (arith, le, same)
          | inr old ↦ let more = up.0 z old in omega (arith, le, more)
        ],
        up,
      )
] refl

pub points_in_order : (xs : List Spotted) → Pairs (λ a b. a.point ≤ b.point) (by_points xs)
points_in_order [] = tt
points_in_order (x ∷ xs) = put_rises x (by_points xs) (points_in_order xs)

-- ---- spots that pass a test and whose points rise keep their order

module _ (test : Spotted → Bool) where
  put_keeps : (x : Spotted) (ys : List Spotted) → ((y : Spotted) → Member y ys → test x ≡ true → test y ≡ true → x.point ≤ y.point) → filter test (put_in x ys) ≡ filter test (x ∷ ys)
  put_keeps x [] up = refl
  put_keeps x (y ∷ ys) up = elim (ltb y.point x.point) as (λ b. ltb y.point x.point ≡ b → filter test (cond b (y ∷ put_in x ys) (x ∷ y ∷ ys)) ≡ filter test (x ∷ y ∷ ys)) [
    | true ↦
        λ less.
        let rest = put_keeps x ys (λ z m. up z (inr m)) in
        let lower = ltb-true y.point x.point less in
        elim (cases_Bool (test y)) [
          | inl passes ↦ elim (cases_Bool (test x)) [
            | inl both ↦ absurd (let le = up y (inl refl) both passes in omega (arith, le, lower))
            | inr fails ↦
                let old : filter test (x ∷ ys) ≡ filter test ys = rw fails refl in
                let more : filter test (x ∷ y ∷ ys) ≡ y ∷ filter test ys = rw (fails, passes) refl in
                let here : filter test (y ∷ put_in x ys) ≡ y ∷ filter test (put_in x ys) = rw passes refl in
                here ∙ ap (λ l. y ∷ l) (rest ∙ old) ∙ sym more
          ]
          | inr fails ↦
              let here : filter test (y ∷ put_in x ys) ≡ filter test (put_in x ys) = rw fails refl in
              let more : filter test (x ∷ y ∷ ys) ≡ filter test (x ∷ ys) = rw fails refl in
              here ∙ rest ∙ sym more
        ]
    | false ↦ λ le. refl
  ] refl

  pub points_keep : (xs : List Spotted) → Pairs (λ a b. test a ≡ true → test b ≡ true → a.point ≤ b.point) xs → filter test (by_points xs) ≡ filter test xs
  points_keep [] up = refl
  points_keep (x ∷ xs) up =
      put_keeps x (by_points xs) (λ y m. up.0 y (points_members xs y m))
      ∙ elim (test x) as (λ b. cond b (x ∷ filter test (by_points xs)) (filter test (by_points xs)) ≡ cond b (x ∷ filter test xs) (filter test xs)) [
        | true ↦ ap (λ l. x ∷ l) (points_keep xs up.1)
        | false ↦ points_keep xs up.1
      ]
