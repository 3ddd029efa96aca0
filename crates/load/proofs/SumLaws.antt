-- Laws on sums of the first counts.
use Rattle.std.proofs.Common.{◌≡◌, ℕ, ◌+◌, ◌<◌, ◌≤◌, List, length, get_or, take, min, ap, arith, inl, inr}
use Rattle.std.proofs.lemmas.Bool.{cases_lt}
use Rattle.std.specs.List.{sum}
use Rattle.std.proofs.Math.ListN.{set}
use Rattle.std.proofs.lemmas.List.{take-set-le, get_or-take, length-set, length-take}
use Rattle.std.proofs.Math.Seq.{take-set-lt}
use Rattle.std.proofs.lemmas.List.Sums.{sum_by-set, sum_by_more}

-- the sum up to a raised count is raised
pub sum-raised : (xs : List ℕ) (at more cells : ℕ) → at < length xs → at < cells → cells ≤ length xs → sum (take cells (set xs at (get_or xs at 0 + more))) ≡ sum (take cells xs) + more
sum-raised xs at more cells inside order within =
    let value : ℕ = get_or xs at 0 in
    let moved : take cells (set xs at (value + more)) ≡ set (take cells xs) at (value + more) = take-set-lt cells xs at (value + more) order in
    let long : length (take cells xs) ≡ min cells (length xs) = length-take cells xs in
    let raised = sum_by-set (λ x. x) (take cells xs) at (value + more) 0 (omega arith) in
    let same : get_or (take cells xs) at 0 ≡ value = get_or-take cells xs at 0 order in
    let sums : sum (take cells (set xs at (value + more))) ≡ sum (set (take cells xs) at (value + more)) = ap sum moved in
    omega arith

-- the sum before a raised count is the same
pub sum-same : (xs : List ℕ) (at value cells : ℕ) → cells ≤ at → sum (take cells (set xs at value)) ≡ sum (take cells xs)
sum-same xs at value cells order = ap sum (take-set-le cells xs at value order)

-- the counts of the first cells are added, and the others are as at the start
pub record Adds (counts start more : List ℕ) (at : ℕ) : Type 0 where
  pub size : length counts ≡ length start
  pub first : (cells : ℕ) → cells ≤ at → sum (take cells counts) ≡ sum (take cells start) + sum (take cells more)
  pub later : (cells : ℕ) → at ≤ cells → cells ≤ length counts → sum (take cells counts) ≡ sum (take cells start) + sum (take at more)

pub adds-more : (counts start more : List ℕ) (at : ℕ) → at < length counts → length more ≡ length start → Adds counts start more at → Adds (set counts at (get_or counts at 0 + get_or more at 0)) start more (at + 1)
adds-more counts start more at inside alike adds =
    let value : ℕ = get_or counts at 0 + get_or more at 0 in
    let size = length-set counts at value in
    let old = adds.size in
    let step = sum_by_more (λ x. x) more at 0 (omega arith) in
    let raised = sum-raised counts at (get_or more at 0) in
    record {
      size = omega arith;
      first = λ cells order. elim (cases_lt at cells) [
        | inl last ↦
            let same : cells ≡ at + 1 = omega arith in
            let taken : sum (take cells more) ≡ sum (take (at + 1) more) = ap (λ n. sum (take n more)) same in
            omega (arith, raised cells inside last (omega arith), adds.later cells (omega arith) (omega arith))
        | inr before ↦ omega (arith, sum-same counts at value cells before, adds.first cells before)
      ];
      later = λ cells order within. omega (arith, raised cells inside (omega arith) (omega arith), adds.later cells (omega arith) (omega arith));
    }
