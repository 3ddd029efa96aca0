-- The points of a line's calls: they rise along each key, and are within their calls.
use Rattle.std.proofs.Common.{◌≡◌, ℕ, ◌<◌, ◌≤◌, max, List, [], ◌∷◌, ◌++◌, length, map, take, get_or, refl, sym, ap, ◌∙◌, subst, arith, inl, inr}
use Rattle.std.specs.Prelude.{All, AllPairs, Contains}
use Rattle.std.proofs.lemmas.Bool.{cases_lt}
use Rattle.std.proofs.lemmas.List.{get_or-take, length-take, length-map, get_or-map, get_or_default, take-append-le, take_all, get_or_append_left, get_or_push, map-append, length_push}
use Rattle.std.proofs.lemmas.List.Elements.{Contains-append_left, Contains-push, Contains-push_cases}
use Rattle.certificate_finder.specs.Points.{IsPoint, ArePoints}

-- what stands at an earlier place of a list is in its front
in_front : (xs : List ℕ) (i j d : ℕ) → i < j → j ≤ length xs → Contains (take j xs) (get_or xs i d)
in_front xs i j d less within = (i, omega (arith, length-take j xs), get_or-take j xs i (get_or xs i d) less ∙ get_or_default xs i (get_or xs i d) d (omega arith))

further_front : (xs : List ℕ) (i j p : ℕ) → i ≤ j → Contains (take i xs) p → Contains (take j xs) p
further_front xs i j p le has =
    let k = has.0 in
    let within = has.1 in
    let len = length-take i xs in
    let other = length-take j xs in
    (k, omega (arith, within, len, other, le), get_or-take j xs k p (omega (arith, within, len, le)) ∙ sym (get_or-take i xs k p (omega (arith, within, len))) ∙ has.2)

module _ (OfOne : ℕ → ℕ → Type 0) (start : ℕ → ℕ) where
  -- nothing of its key stands before it
  pub point_alone : (before : List ℕ) (p : ℕ) → ((q : ℕ) → Contains before q → ¬ OfOne q p) → IsPoint OfOne start before p (start p)
  point_alone before p none = record { own = omega arith; above = λ q has one. absurd (none q has one); reached = inl refl }

  -- the last before it is of its key
  pub point_next : (turn : (a b : ℕ) → OfOne a b → OfOne b a) (join : (a b c : ℕ) → OfOne a b → OfOne b c → OfOne a c) (before : List ℕ) (last p point : ℕ) → IsPoint OfOne start before last point → OfOne last p → IsPoint OfOne start (before ++ last ∷ []) p (max (start p) point)
  point_next turn join before last p point is one = record {
    own = omega arith;
    above = λ q has of_one. elim (Contains-push_cases before last q has) [
      | inl earlier ↦ let le = is.above q earlier (join q p last of_one (turn last p one)) in omega (arith, le)
      | inr same ↦ let own = is.own in let e = ap start same in omega (arith, own, e)
    ];
    reached = elim (cases_lt (start p) point) [
      | inl less ↦
          let most : point ≡ max (start p) point = omega (arith, less) in
          inr (elim is.reached [
            | inl own ↦ (last, Contains-push before last, one, own ∙ most)
            | inr found ↦ (found.0, Contains-append_left before (last ∷ []) found.0 found.1, join found.0 last p found.2 one, found.3 ∙ most)
          ])
      | inr enough ↦ inl (omega (arith, enough))
    ];
  }

  -- a point is no later than what none of the starts is later than
  pub point_until : (before : List ℕ) (p point end : ℕ) → IsPoint OfOne start before p point → start p ≤ end → ((q : ℕ) → Contains before q → OfOne q p → start q ≤ end) → point ≤ end
  point_until before p point end is own others = elim is.reached [
    | inl same ↦ omega (arith, same, own)
    | inr found ↦ let le = others found.0 found.1 found.2 in let e = found.3 in omega (arith, le, e)
  ]

  module _ {X : Type 0} (position point : X → ℕ) where
    -- one call more
    pub points_more : (line : List X) (x : X) → ArePoints position point OfOne start line → IsPoint OfOne start (map position line) (position x) (point x) → ArePoints position point OfOne start (line ++ x ∷ [])
    points_more line x points is = λ place d less. elim (cases_lt place (length line)) [
      | inl under ↦
          let here : get_or (line ++ x ∷ []) place d ≡ get_or line place d = get_or_append_left line (x ∷ []) d place under in
          let so_far : take place (map position (line ++ x ∷ [])) ≡ take place (map position line) = ap (take place) (map-append position line (x ∷ [])) ∙ take-append-le place (map position line) (position x ∷ []) (let len = length-map line position in omega (arith, len, under)) in
          subst (λ before. IsPoint OfOne start before (position (get_or (line ++ x ∷ []) place d)) (point (get_or (line ++ x ∷ []) place d))) (sym so_far) (subst (λ y. IsPoint OfOne start (take place (map position line)) (position y) (point y)) (sym here) (points place d under))
      | inr enough ↦
          let long = length_push line x in
          let last : length line ≡ place = omega (arith, less, enough, long) in
          let len = length-map line position in
          let here : get_or (line ++ x ∷ []) place d ≡ x = get_or_push line x d place last in
          let so_far : take place (map position (line ++ x ∷ [])) ≡ map position line = ap (take place) (map-append position line (x ∷ [])) ∙ take-append-le place (map position line) (position x ∷ []) (omega (arith, len, last)) ∙ take_all place (map position line) (omega (arith, len, last)) in
          subst (λ before. IsPoint OfOne start before (position (get_or (line ++ x ∷ []) place d)) (point (get_or (line ++ x ∷ []) place d))) (sym so_far) (subst (λ y. IsPoint OfOne start (map position line) (position y) (point y)) (sym here) is)
    ]

    position_at : (line : List X) (i : ℕ) (d : X) → i < length line → get_or (map position line) i (position d) ≡ position (get_or line i d)
    position_at line i d less = get_or-map position line i d (position d) less

    -- points rise along each key
    pub points_rise : (join : (a b c : ℕ) → OfOne a b → OfOne b c → OfOne a c) (line : List X) → ArePoints position point OfOne start line → AllPairs (λ a b. OfOne (position a) (position b) → point a ≤ point b) line
    points_rise join line points = λ i j d less within one.
        let first = points i d (omega arith) in
        let second = points j d within in
        let len = length-map line position in
        let there : Contains (take j (map position line)) (position (get_or line i d)) = subst (Contains (take j (map position line))) (position_at line i d (omega arith)) (in_front (map position line) i j (position d) less (omega (arith, len, within))) in
        point_until (take i (map position line)) (position (get_or line i d)) (point (get_or line i d)) (point (get_or line j d)) first (second.above (position (get_or line i d)) there one)
        (λ q has of_one. second.above q (further_front (map position line) i j q (omega arith) has) (join q (position (get_or line i d)) (position (get_or line j d)) of_one one))

    -- and each is between the start and the end of its call, if none of its key before it starts later than it ends
    pub points_within : (end : ℕ → ℕ) (line : List X) → ArePoints position point OfOne start line → All (λ x. start (position x) ≤ end (position x)) line → AllPairs (λ a b. OfOne (position a) (position b) → start (position a) ≤ end (position b)) line → All (λ x. (start (position x) ≤ point x) × (point x ≤ end (position x))) line
    points_within end line points intervals fits = λ k d less.
        let is = points k d less in
        let len = length-map line position in (
          is.own,
          point_until (take k (map position line)) (position (get_or line k d)) (point (get_or line k d)) (end (position (get_or line k d))) is (intervals k d less) (λ q has one.
              let i = has.0 in
              let short = length-take k (map position line) in
              let inside = has.1 in
              let under : i < k = omega (arith, short, inside) in
              let it : position (get_or line i d) ≡ q = sym (position_at line i d (omega (arith, under, less))) ∙ get_or_default (map position line) i (position d) q (omega (arith, under, less, len)) ∙ sym (get_or-take k (map position line) i q under) ∙ has.2 in
              subst (λ p. start p ≤ end (position (get_or line k d))) it (fits i k d under less (subst (λ p. OfOne p (position (get_or line k d))) (sym it) one))),
        )
