-- Laws on the sums of a table.
use Rattle.std.proofs.Common.{◌≡◌, ℕ, zero, suc, ◌+◌, ◌*◌, ◌-◌, ◌<◌, ◌≤◌, List, ◌∷◌, [], ◌++◌, length, ap, arith, inl, inr, ◌∙◌}
use Rattle.std.proofs.lemmas.Bool.{cases_lt}
use Rattle.std.proofs.lemmas.List.{length-append, get_or_push}
use Rattle.std.proofs.Math.ListN.{get_or-append}
use Rattle.zipf.specs.Holding.{AreSums}
use Rattle.zipf.specs.Weights.{ahead_of}

times_more : (more less step : ℕ) → less * step ≤ (less + more) * step
times_more zero less step = let same : less + 0 ≡ less = omega arith in let equal : (less + 0) * step ≡ less * step = ap (λ n. n * step) same in omega (arith, equal)
times_more (suc more) less step =
    let before = times_more more less step in
    let next : (less + suc more) * step ≡ (less + more) * step + step = grind arith in
    omega (arith, before, next)

times_le : (less more step : ℕ) → less ≤ more → less * step ≤ more * step
times_le less more step order =
    let same : more ≡ less + (more - less) = omega arith in
    let equal : more * step ≡ (less + (more - less)) * step = ap (λ n. n * step) same in
    let below = times_more (more - less) less step in
    omega (arith, equal, below)

-- fewer steps lead less far
pub fewer : (less more step : ℕ) → less * step < more * step → less < more
fewer less more step far = elim (cases_lt less more) [
  | inl is ↦ is
  | inr other ↦ let order = times_le more less step (omega (arith, other)) in absurd (omega (arith, order, far))
]

pub times_next : (count step : ℕ) → (count + 1) * step ≡ count * step + step
times_next count step = grind arith

-- one sum more
pub are_more : (sums : List ℕ) (sum step : ℕ) → AreSums sums step → sum ≡ ahead_of (length sums * step) → AreSums (sums ++ sum ∷ []) step
are_more sums sum step are is = λ place inside.
    let size = length-append sums (sum ∷ []) in
    elim (cases_lt place (length sums)) [
      | inl before ↦ get_or-append sums (sum ∷ []) 0 place before ∙ are place before
      | inr last ↦
          let at : length sums ≡ place = omega (arith, size, inside, last) in
          get_or_push sums sum 0 place at ∙ is ∙ ap (λ n. ahead_of (n * step)) at
    ]
