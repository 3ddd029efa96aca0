-- A text that is warmed has as many lines as calls.
use Rattle.std.proofs.Common.{◌≡◌, ◌∙◌, ◌<◌, ℕ, List, [], ◌∷◌, ◌++◌, Some, All, ap, arith, length, refl, slice_get, suc, sym, zero, filter_map}
use Rattle.std.proofs.lemmas.List.{length-append, length-map}
use Rattle.std.proofs.lemmas.Option.{slice_get-get_or}
use Rattle.trace_file.specs.declared.call.Call.{Call}
use Rattle.certificate_finder.specs.declared.warmed.Warmed.{Warmed}
use Rattle.certificate_finder.specs.Warming.{IsWarmed, warm_put, warm_puts}
use Rattle.judge_run.specs.Telling.{lines_at}

-- each of these positions has an element
abbrev AreThere : {A : Type 0} → List A → List ℕ → Type 0
AreThere {A} xs positions = All (λ p. (x : A) × (slice_get xs p ≡ Some x)) positions

as_many_there : {A : Type 0} (xs : List A) (positions : List ℕ) → AreThere xs positions → length (filter_map (slice_get xs) positions) ≡ length positions
as_many_there xs [] all = refl
as_many_there xs (p ∷ ps) all =
    let at = (all 0 p (omega arith)).1 in
    rw at (ap suc (as_many_there xs ps (λ k d lt. all (suc k) d (omega (arith, lt)))))

module _ (history : List Call) (warm : Warmed) (lines : List ℕ) (is : IsWarmed history warm) (many : length lines ≡ length history) where
  calls_there : AreThere history warm.hits.items
  calls_there = λ k d lt. let unput = (is.hits.each k d lt).unput in (unput.call, unput.at)

  -- the hits stand on lines
  pub hits_within : All (λ position. position < length lines) warm.hits.items
  hits_within = λ k d lt.
      let less = is.hits.below k d lt in
      omega (arith, many, less)

  lines_there : AreThere lines warm.hits.items
  lines_there = λ k d lt. (_, slice_get-get_or lines _ 0 (hits_within k d lt))

  pub as_many : (new : List ℕ) → new ≡ lines ++ lines_at lines warm.hits.items → length new ≡ length warm.history
  as_many new new_is =
      let l = ap length new_is ∙ length-append lines (lines_at lines warm.hits.items) in
      let a = as_many_there lines warm.hits.items lines_there in
      let b = as_many_there history warm.hits.items calls_there in
      let m = length-map (filter_map (slice_get history) warm.hits.items) warm_put in
      let h = ap length is.calls ∙ length-append history (warm_puts history warm.hits.items) in
      omega (arith, many, l, a, b, m, h)

-- there are as many puts as hits whose values they put
pub puts_count : (history : List Call) (warm : Warmed) → IsWarmed history warm → length (warm_puts history warm.hits.items) ≡ length warm.hits.items
puts_count history warm is =
    length-map (filter_map (slice_get history) warm.hits.items) warm_put
    ∙ as_many_there history warm.hits.items (λ k d lt. let unput = (is.hits.each k d lt).unput in (unput.call, unput.at))

-- ---- calls at positions have as many lines

there : {A : Type 0} (xs : List A) (i : ℕ) → i < length xs → (x : A) × (slice_get xs i ≡ Some x)
there [] i less = absurd (omega (arith, less))
there (x ∷ xs) zero less = (x, refl)
there (x ∷ xs) (suc i) less = there xs i (omega (arith, less))

pub picked_many : {A B : Type 0} (xs : List A) (ys : List B) (positions : List ℕ) → length xs ≡ length ys → All (λ p. p < length ys) positions → length (filter_map (slice_get xs) positions) ≡ length (filter_map (slice_get ys) positions)
picked_many xs ys positions same below =
    as_many_there xs positions (λ k d lt. let less = below k d lt in there xs _ (omega (arith, same, less)))
    ∙ sym (as_many_there ys positions (λ k d lt. there ys _ (below k d lt)))
