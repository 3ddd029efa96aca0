-- What a histogram holds stays so.
use Rattle.std.proofs.Common.{◌≡◌, ℕ, ◌+◌, ◌-◌, ◌*◌, ◌<◌, ◌≤◌, List, [], ◌∷◌, ◌++◌, length, get_or, take, drop, max, min, ap, arith, inl, inr}
use Rattle.std.specs.List.{sum}
use Rattle.std.proofs.lemmas.Bool.{cases_lt}
use Rattle.std.proofs.lemmas.Grind.{common_steps}
use Rattle.std.proofs.lemmas.Nat.{mul-le}
use Rattle.std.proofs.lemmas.List.{length-append, length-set}
use Rattle.std.proofs.lemmas.List.Sums.{count_by-le-length}
use Rattle.std.proofs.Math.ListN.{set}
use Rattle.std.proofs.Math.Seq.{take-length}
use Rattle.load.specs.Cells.{longest, top_of}
use Rattle.load.specs.Quantile.{count_within, IsQuantile}
use Rattle.load.specs.Holding.{most_times, Counts, Holds}
use Rattle.load.proofs.TopLaws.{top_of-le, same_length}
use Rattle.load.proofs.SumLaws.{sum-raised, sum-same}
use Rattle.load.proofs.CountLaws.{greatest-append, count-append, count-within, count-above, count-all}

-- an item that is there is read alike, whatever stands for one that is not
read_alike : (xs : List ℕ) (at value : ℕ) → at < length xs → value ≡ get_or xs at value → value ≡ get_or xs at 0
read_alike xs at value inside read = grind (arith, common_steps)

-- a list that is written back over as many items is the list
pub written_back : (old now : List ℕ) (len : ℕ) → length now ≡ length old → len ≡ length old → take len (now ++ drop (length now) old) ≡ now
written_back old now len size is = grind (arith, common_steps)

module _ {tops counts : List ℕ} {len most : ℕ} {times : List ℕ} (held : Holds tops counts len most times) where
  -- the counts sum to the number of times
  pub sum-is : sum counts ≡ len
  sum-is =
      let last : ℕ = length tops - 1 in
      let tops_are = held.tops_are in
      let some = tops_are.some in
      let upto = held.counted last (omega (arith, held.cells)) in
      let all = count-all longest times (omega (arith, held.most_is, held.short)) in
      let same : count_within (top_of last) times ≡ count_within longest times = ap (λ b. count_within b times) tops_are.ends in
      let e : last + 1 ≡ length counts = omega (arith, held.cells) in
      let taken : sum (take (last + 1) counts) ≡ sum (take (length counts) counts) = ap (λ n. sum (take n counts)) e in
      let whole : sum (take (length counts) counts) ≡ sum counts = ap sum (take-length counts) in
      omega (arith, held.len_is)

  -- one count is at most the number of times
  module _ (time cell : ℕ) (room : len < most_times) (short : time ≤ longest) (inside : cell < length tops) (reached : time ≤ top_of cell) (below : (before : ℕ) → before < cell → top_of before < time) where
    counted-added : Counts (set counts cell (get_or counts cell 0 + 1)) (times ++ time ∷ [])
    counted-added at within =
        let size = length-set counts cell (get_or counts cell 0 + 1) in
        let old = held.counted at (omega arith) in
        elim (cases_lt at cell) [
          | inl order ↦ omega (arith, count-above (top_of at) time times (below at order), sum-same counts cell (get_or counts cell 0 + 1) (at + 1) (omega arith))
          | inr order ↦ omega (arith, count-within (top_of at) time times (omega (arith, top_of-le cell at order)), sum-raised counts cell 1 (at + 1) (omega (arith, held.cells)) (omega arith) (omega arith))
        ]

    -- it holds one time more
    pub holds-added : Holds tops (set counts cell (get_or counts cell 0 + 1)) (len + 1) (max most time) (times ++ time ∷ [])
    holds-added = record {
      tops_are = held.tops_are;
      cells = omega (arith, length-set counts cell (get_or counts cell 0 + 1), held.cells);
      counted = counted-added;
      len_is = omega (arith, length-append times (time ∷ []), held.len_is);
      few = omega arith;
      most_is = omega (arith, greatest-append times (time ∷ []), held.most_is);
      short = omega (arith, held.short);
    }

    -- so it does once the count was read
    pub holds_read : (value : ℕ) → value ≡ get_or counts cell value → Holds tops (set counts cell (value + 1)) (len + 1) (max most time) (times ++ time ∷ [])
    holds_read value read = rw (read_alike counts cell value (omega (arith, held.cells)) read) holds-added

  -- it holds the times of another one too
  module _ {more : List ℕ} {more_len more_most : ℕ} {more_tops more_times : List ℕ} (other : Holds more_tops more more_len more_most more_times) where
    -- both have the same cells
    pub alike : length more ≡ length counts
    alike = omega (arith, same_length _ _ held.tops_are other.tops_are, held.cells, other.cells)

    -- the times of both
    pub holds-merged : (sums : List ℕ) → len + more_len ≤ most_times → length sums ≡ length counts → ((cell : ℕ) → cell ≤ length counts → sum (take cell sums) ≡ sum (take cell counts) + sum (take cell more)) → Holds tops sums (len + more_len) (max most more_most) (times ++ more_times)
    holds-merged sums room size added = record {
      tops_are = held.tops_are;
      cells = omega (arith, held.cells);
      counted = λ cell within. omega (arith, added (cell + 1) (omega arith), held.counted cell (omega arith), other.counted cell (omega (arith, alike)), count-append (top_of cell) times more_times);
      len_is = omega (arith, length-append times more_times, held.len_is, other.len_is);
      few = room;
      most_is = omega (arith, greatest-append times more_times, held.most_is, other.most_is);
      short = omega (arith, held.short, other.short);
    }

  -- the top of the first cell with enough times, or the longest time, is the quantile
  pub is_quantile : (thousandths cell : ℕ) → cell < length counts → thousandths * length times ≤ 1000 * sum (take (cell + 1) counts) → ((before : ℕ) → before < cell → 1000 * sum (take (before + 1) counts) < thousandths * length times) → IsQuantile times thousandths (min (top_of cell) most)
  is_quantile thousandths cell inside reached below = record {
    enough = elim (cases_lt (top_of cell) most) [
      | inl order ↦
          let e : min (top_of cell) most ≡ top_of cell = omega arith in
          let same : count_within (min (top_of cell) most) times ≡ count_within (top_of cell) times = ap (λ b. count_within b times) e in
          omega (arith, held.counted cell inside)
      | inr order ↦
          let e : min (top_of cell) most ≡ most = omega arith in
          let same : count_within (min (top_of cell) most) times ≡ count_within most times = ap (λ b. count_within b times) e in
          let all = count-all most times (omega (arith, held.most_is)) in
          let some : count_within (top_of cell) times ≤ length times = count_by-le-length _ times in
          omega (arith, held.counted cell inside)
    ];
    least = λ at order. elim (cases_lt at cell) [
      | inl before ↦ omega (arith, below at before, held.counted at (omega arith))
      | inr later ↦ omega (arith, top_of-le cell at later)
    ];
    within = omega (arith, held.most_is);
  }

  -- of all times there are enough
  pub share_is_within : (thousandths : ℕ) → thousandths ≤ 1000 → thousandths * len ≤ 1000 * sum counts
  share_is_within thousandths within = let all = sum-is in rw all (mul-le thousandths len 1000 len within (omega arith))

  -- so it is once the top was read
  pub quantile_read : (thousandths cell value : ℕ) → cell < length counts → thousandths * len ≤ 1000 * sum (take (cell + 1) counts) → ((before : ℕ) → before < cell → 1000 * sum (take (before + 1) counts) < thousandths * len) → value ≡ get_or tops cell value → IsQuantile times thousandths (min value most)
  quantile_read thousandths cell value inside reached below read =
      let within : cell < length tops = omega (arith, held.cells) in
      let tops_are = held.tops_are in
      let is : value ≡ top_of cell = omega (arith, read_alike tops cell value within read, tops_are.each cell within) in
      rw is (is_quantile thousandths cell inside (rw (← held.len_is) reached) (λ before order. rw (← held.len_is) (below before order)))
