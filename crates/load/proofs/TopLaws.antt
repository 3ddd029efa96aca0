-- Laws on the tops of cells.
use Rattle.std.proofs.Common.{◌≡◌, ℕ, zero, suc, ◌+◌, ◌-◌, ◌<◌, ◌≤◌, List, ◌∷◌, [], ◌++◌, length, get_or, ap, add-one, arith, refl, inl, inr}
use Rattle.std.proofs.lemmas.Bool.{cases_lt}
use Rattle.std.proofs.lemmas.List.{length-append, get_or_push}
use Rattle.std.proofs.Math.ListN.{get_or-append}
use Rattle.load.specs.Cells.{longest, next_top, top_of, AreTops}

-- the top after a top
pub top_of-more : (cell : ℕ) → top_of (cell + 1) ≡ next_top (top_of cell)
unfolding top_of
top_of-more cell = ap top_of (add-one cell)

-- a top is within the longest time
pub top_of-short : (cell : ℕ) → top_of cell ≤ longest
unfolding top_of
top_of-short zero = omega arith
top_of-short (suc cell) = omega arith

-- the next top is no less, and more below the longest time
pub next_top-rises : (top : ℕ) → top ≤ longest → top ≤ next_top top
next_top-rises top short = omega arith

-- a later top is no less
pub top_of-add : (cell more : ℕ) → top_of cell ≤ top_of (cell + more)
top_of-add cell zero =
    let same : top_of (cell + 0) ≡ top_of cell = ap top_of (omega arith) in
    omega arith
top_of-add cell (suc more) =
    let before = top_of-add cell more in
    let rises = next_top-rises (top_of (cell + more)) (top_of-short (cell + more)) in
    let same : cell + suc more ≡ (cell + more) + 1 = omega arith in
    let next = top_of-more (cell + more) in
    let equal : top_of (cell + suc more) ≡ top_of ((cell + more) + 1) = ap top_of same in
    omega arith

pub top_of-le : (low high : ℕ) → low ≤ high → top_of low ≤ top_of high
top_of-le low high order =
    let same : high ≡ low + (high - low) = omega arith in
    let below = top_of-add low (high - low) in
    let equal : top_of high ≡ top_of (low + (high - low)) = ap top_of same in
    omega arith

-- two lists of tops are as long
pub same_length : (tops more : List ℕ) → AreTops tops → AreTops more → length tops ≡ length more
same_length tops more a b =
    let some = a.some in
    let more_some = b.some in
    let ends = a.ends in
    let more_ends = b.ends in
    elim (cases_lt (length tops) (length more)) [
      | inl less ↦ omega (arith, b.below (length tops - 1) (omega arith))
      | inr rest ↦ elim (cases_lt (length more) (length tops)) [
        | inl less ↦ omega (arith, a.below (length more - 1) (omega arith))
        | inr same ↦ omega arith
      ]
    ]

-- the tops so far, and the one after them
pub record Grows (tops : List ℕ) (top : ℕ) : Type 0 where
  pub reached : top ≡ top_of (length tops)
  pub some : 1 ≤ top
  pub short : top ≤ longest
  pub each : (cell : ℕ) → cell < length tops → get_or tops cell 0 ≡ top_of cell
  pub below : (cell : ℕ) → cell < length tops → top_of cell < longest

pub grows-begun : Grows [] 1
unfolding top_of
grows-begun = record { reached = refl; some = omega arith; short = omega arith; each = λ cell none. omega arith; below = λ cell none. omega arith }

each-more : (tops : List ℕ) (top : ℕ) → Grows tops top → (cell : ℕ) → cell < length (tops ++ top ∷ []) → get_or (tops ++ top ∷ []) cell 0 ≡ top_of cell
each-more tops top grows cell inside =
    let size = length-append tops (top ∷ []) in
    elim (cases_lt cell (length tops)) [
      | inl before ↦ omega (arith, get_or-append tops (top ∷ []) 0 cell before, grows.each cell before)
      | inr last ↦
          let at : length tops ≡ cell = omega arith in
          let same : top_of (length tops) ≡ top_of cell = ap top_of at in
          omega (arith, get_or_push tops top 0 cell at, grows.reached)
    ]

pub grows-more : (tops : List ℕ) (top : ℕ) → Grows tops top → top < longest → Grows (tops ++ top ∷ []) (next_top top)
grows-more tops top grows less =
    let size = length-append tops (top ∷ []) in
    let long : length (tops ++ top ∷ []) ≡ length tops + 1 = omega arith in
    let next : top_of (length (tops ++ top ∷ [])) ≡ top_of (length tops + 1) = ap top_of long in
    let step = top_of-more (length tops) in
    let same : next_top top ≡ next_top (top_of (length tops)) = ap next_top grows.reached in
    record {
      reached = omega arith;
      some = omega (arith, grows.some);
      short = omega arith;
      each = each-more tops top grows;
      below = λ cell inside. elim (cases_lt cell (length tops)) [
        | inl before ↦ grows.below cell before
        | inr last ↦
            let at : length tops ≡ cell = omega arith in
            let same : top_of (length tops) ≡ top_of cell = ap top_of at in
            omega (arith, grows.reached)
      ];
    }

-- with the longest time they are whole
pub grows-ends : (tops : List ℕ) (top : ℕ) → Grows tops top → longest ≤ top → AreTops (tops ++ top ∷ [])
grows-ends tops top grows ends =
    let size = length-append tops (top ∷ []) in
    let last : length (tops ++ top ∷ []) - 1 ≡ length tops = omega arith in
    let same : top_of (length (tops ++ top ∷ []) - 1) ≡ top_of (length tops) = ap top_of last in
    record {
      some = omega arith;
      each = each-more tops top grows;
      ends = omega (arith, grows.reached, grows.short);
      below = λ cell inside. grows.below cell (omega arith);
    }
