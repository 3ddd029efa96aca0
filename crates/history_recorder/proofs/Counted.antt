-- Whether one of the numbers of a list is below another.
use Rattle.std.proofs.Common.{◌≡◌, ◌<◌, ◌≤◌, ◌+◌, ℕ, List, length, get_or, map, Some, sym, ap, ◌∙◌, subst, inl, inr, arith}
use Rattle.std.specs.Prelude.{Any}
use Rattle.std.proofs.lemmas.Bool.{cases_eq}
use Rattle.std.proofs.lemmas.List.{length-map, get_or-map, get_or_default}
use Rattle.std.proofs.lemmas.Option.{slice_get-get_or, slice_get_within, get_or_from_slice_get}
use Rattle.history_recorder.proofs.public_laws.Indexing.{map_has}

module _ {X : Type 0} (f : X → ℕ) (n : ℕ) (xs : List X) where
  -- one more of the first is not below
  pub none_more : (i : ℕ) (x : X) → i < length xs → x ≡ get_or xs i x → n ≤ f x → ((k : ℕ) (d : X) → k < i → n ≤ f (get_or xs k d)) → (k : ℕ) (d : X) → k < i + 1 → n ≤ f (get_or xs k d)
  none_more i x within is large none k d less = elim (cases_eq k i) [
    | inl same ↦ subst (λ m. n ≤ f m) (is ∙ get_or_default xs i x d within ∙ ap (λ j. get_or xs j d) (sym same)) large
    | inr other ↦ none k d (omega (arith, less, other))
  ]

  -- one is below
  pub one_below : (i : ℕ) (x : X) → i < length xs → x ≡ get_or xs i x → f x < n → Any (λ m. m < n) (map f xs)
  one_below i x within is less =
      let lengths = length-map xs f in
      (i, f x, omega (arith, lengths, within), get_or-map f xs i x (f x) within ∙ ap f (sym is), less)

  -- none is below
  pub none_below : (i : ℕ) → length xs ≤ i → ((k : ℕ) (d : X) → k < i → n ≤ f (get_or xs k d)) → Any (λ m. m < n) (map f xs) → ⊥
  none_below i past none any =
      let k = any.0 in
      let lengths = length-map xs f in
      let less = any.2 in
      let found = map_has f xs k any.1 (slice_get-get_or (map f xs) k any.1 less ∙ ap Some any.3) in
      let within = slice_get_within xs k found.0 found.1 in
      let large = subst (λ m. n ≤ f m) (get_or_from_slice_get xs k found.0 found.0 found.1) (none k found.0 (omega (arith, within, past))) in
      let is = found.2 in
      let small = any.4 in
      absurd (omega (arith, large, is, small))
