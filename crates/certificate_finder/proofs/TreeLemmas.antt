-- A binary tree over leaves, each node of which has the two puts under it that expire last.
use Rattle.std.proofs.Common.{◌≡◌, ◌≢◌, ℕ, zero, suc, ◌+◌, ◌-◌, ◌*◌, ◌/◌, ◌%◌, ◌^◌, ◌<◌, ◌≤◌, ◌⊎◌, Some, List, set, sym, ap, ◌∙◌, subst, arith, inl, inr, add-one}
use Rattle.std.specs.Prelude.{All, slice_get, slice_index}
use Rattle.std.proofs.Math.Pow.{pow_mono}
use Rattle.std.proofs.lemmas.Bool.{cases_eq}
use Rattle.std.proofs.lemmas.Grind.{pow_more}
use Rattle.certificate_checker.proofs.public_laws.Laying.{cases_before}
use Rattle.certificate_finder.specs.declared.best.Best.{Best}
use Rattle.certificate_finder.specs.declared.best.Best.TheVariants.{Empty}
use Rattle.certificate_finder.specs.declared.put.Put.{Put}
use Rattle.certificate_finder.specs.declared.readable.Readable.{Readable}
use Rattle.certificate_finder.specs.declared.tree_shape.TreeShape.{TreeShape}
use Rattle.certificate_finder.specs.Bests.{IsBestOf, IsLiveAt, IsWith, SaysLive}
use Rattle.certificate_finder.specs.Putting.{expiry_at}
use Rattle.certificate_finder.specs.Readings.{IsJoined, Says}
use Rattle.certificate_finder.specs.Trees.{AreRows, HasEntered, IsBeside, IsCounted, IsFrom, IsInRow, IsTree, IsUnder, node_over}
use Rattle.certificate_finder.proofs.BestLemmas.{best_same, best_with, live_best}
use Rattle.certificate_finder.proofs.EndLemmas.{at_set_other, at_set_same}
use Rattle.certificate_finder.proofs.Listing.{all_at, all_from_at}
use Rattle.certificate_finder.proofs.ReadingLemmas.{says_joined, says_same}

-- ---- nodes over others

pub over_more : (rows node : ℕ) → node_over (rows + 1) node ≡ node_over rows node / 2
over_more rows node = ap (λ r. node_over r node) (add-one rows)

-- a node that is not before another one has no node over it that is before
pub over_mono : (rows one other : ℕ) → one ≤ other → node_over rows one ≤ node_over rows other
over_mono zero one other le = le
over_mono (suc rows) one other le = let h = over_mono rows one other le in omega arith

-- and none is after the node
pub over_le : (rows node : ℕ) → node_over rows node ≤ node
over_le zero node = omega arith
over_le (suc rows) node = let h = over_le rows node in omega arith

-- the nodes over a leaf are nodes of the tree
pub over_within : (rows width leaf at : ℕ) → leaf < width → at ≡ node_over rows (width + leaf) → at < 2 * width
over_within rows width leaf at less over = let h = over_le rows (width + leaf) in omega arith

halved : (high low node : ℕ) → high ≡ low * 2 → high ≤ node → node < high * 2 → (low ≤ node / 2) × (node / 2 < low * 2)
halved high low node is le less = (omega arith, omega arith)

-- a row up
row_up : (row node : ℕ) → IsInRow (row + 1) node → IsInRow row (node / 2)
row_up row node is =
    let more : 2 ^ (row + 1) ≡ 2 ^ row * 2 = pow_more 2 row in
    let h = halved (2 ^ (row + 1)) (2 ^ row) node more is.low is.high in
    record { low = h.0; high = h.1 }

pub over_in_row : (rows depth node : ℕ) → rows ≤ depth → IsInRow depth node → IsInRow (depth - rows) (node_over rows node)
over_in_row zero depth node le is = subst (λ r. IsInRow r node) (let e : depth ≡ depth - 0 = omega arith in e) is
over_in_row (suc rows) depth node le is =
    let h = over_in_row rows depth node (omega arith) is in
    let e : depth - rows ≡ depth - suc rows + 1 = omega arith in
    row_up (depth - suc rows) (node_over rows node) (subst (λ r. IsInRow r (node_over rows node)) e h)

not_above : (low high node : ℕ) → low < high → IsInRow low node → ¬ IsInRow high node
not_above low high node less one other =
    let le : 2 ^ (low + 1) ≤ 2 ^ high = pow_mono (let l : low + 1 ≤ high = omega arith in l) in
    let more : 2 ^ (low + 1) ≡ 2 ^ low * 2 = pow_more 2 low in
    let a = one.high in
    let b = other.low in
    omega arith

-- a node is in one row
pub one_row : (row other node : ℕ) → IsInRow row node → IsInRow other node → row ≡ other
one_row row other node one two = elim (cases_before row other) [
  | inl less ↦ absurd (not_above row other node less one two)
  | inr rest ↦ elim rest [ inl same ↦ same | inr less ↦ absurd (not_above other row node less two one) ]
]

-- the leaves are in the lowest row
pub leaf_in_row : (width depth leaf : ℕ) → width ≡ 2 ^ depth → leaf < width → IsInRow depth (width + leaf)
leaf_in_row width depth leaf power less = record { low = omega arith; high = omega arith }

-- the root alone is in the first row
pub root_alone : (node : ℕ) → IsInRow 0 node → node ≡ 1
root_alone node is =
    let low : 1 ≤ node = is.low in
    let high : node < 1 * 2 = is.high in
    omega arith

-- ---- rows that count the same

pub rows_same : (puts : List Put) (leaves : List ℕ) (shape : TreeShape) (counted other : ℕ → ℕ → Type 0) (nodes : List Best) → ((rows k : ℕ) → rows ≤ shape.depth → counted rows k → other rows k) → ((rows k : ℕ) → rows ≤ shape.depth → other rows k → counted rows k) → AreRows puts leaves shape counted nodes → AreRows puts leaves shape other nodes
rows_same puts leaves shape counted other nodes to from are = record {
  each = λ rows node best le row at. best_same puts (IsCounted leaves shape.width counted rows node) (IsCounted leaves shape.width other rows node) best (λ k c. (to rows k le c.0, c.1)) (λ k c. (from rows k le c.0, c.1)) (are.each rows node best le row at);
}

-- an empty tree
pub tree_begins : (puts : List Put) (leaves : List ℕ) (shape : TreeShape) (nodes : List Best) → ((k : ℕ) (best : Best) → slice_get nodes k ≡ Some best → best ≡ Empty) → IsTree puts leaves shape 0 nodes
tree_begins puts leaves shape nodes empty = record {
  each = λ rows node best le row at. subst (λ b. IsBestOf puts (IsCounted leaves shape.width (λ r k. k < 0) rows node) b) (sym (empty node best at)) (λ k c. let less : k < 0 = c.0 in omega arith);
}

-- ---- a put enters

pub all_set : {X : Type 0} (P : X → Type 0) (xs : List X) (i : ℕ) (v : X) → All P xs → P v → All P (set xs i v)
all_set P xs i v all is = all_from_at P (set xs i v) (λ k x at. elim (cases_eq k i) [
  | inl same ↦ subst P (sym (at_set_same xs i v k x same at)) is
  | inr other ↦ all_at P xs k x all (at_set_other xs i v k x other at)
])

pub entering : (puts : List Put) (leaves : List ℕ) (shape : TreeShape) (taken : ℕ) (nodes : List Best) → IsTree puts leaves shape taken nodes → AreRows puts leaves shape (HasEntered taken 0) nodes
entering puts leaves shape taken nodes is = rows_same puts leaves shape (λ rows k. k < taken) (HasEntered taken 0) nodes (λ rows k le less. inl less) (λ rows k le h. elim h [ inl less ↦ less | inr more ↦ let l : rows < 0 = more.1 in absurd (omega arith) ]) is

pub entered : (puts : List Put) (leaves : List ℕ) (shape : TreeShape) (taken upto : ℕ) (nodes : List Best) → shape.depth < upto → AreRows puts leaves shape (HasEntered taken upto) nodes → IsTree puts leaves shape (taken + 1) nodes
entered puts leaves shape taken upto nodes all is = rows_same puts leaves shape (HasEntered taken upto) (λ rows k. k < taken + 1) nodes (λ rows k le h. elim h [ inl less ↦ omega arith | inr more ↦ let e = more.0 in omega arith ]) (λ rows k le less. elim (cases_eq k taken) [
  | inl same ↦ inr (same, omega arith)
  | inr other ↦ inl (omega arith)
]) is

module _ (puts : List Put) (leaves : List ℕ) (shape : TreeShape) (power : shape.width ≡ 2 ^ shape.depth) (taken level at : ℕ) (old new : Best) (nodes : List Best) (within : slice_index leaves taken < shape.width) (below : level ≤ shape.depth) (over : at ≡ node_over level (shape.width + slice_index leaves taken)) (are : AreRows puts leaves shape (HasEntered taken level) nodes) (had : slice_get nodes at ≡ Some old) (with : IsWith puts old taken new) where
  at_in_row : IsInRow (shape.depth - level) at
  at_in_row = subst (λ n. IsInRow (shape.depth - level) n) (sym over) (over_in_row level shape.depth (shape.width + slice_index leaves taken) below (leaf_in_row shape.width shape.depth (slice_index leaves taken) power within))

  -- the node that is written
  written : IsBestOf puts (IsCounted leaves shape.width (HasEntered taken (level + 1)) level at) new
  written =
      let P : ℕ → Type 0 = IsCounted leaves shape.width (HasEntered taken level) level at in
      let fresh : ¬ P taken = λ c. elim c.0 [ inl less ↦ omega arith | inr more ↦ let l : level < level = more.1 in omega arith ] in
      best_same puts (λ k. P k ⊎ (k ≡ taken)) (IsCounted leaves shape.width (HasEntered taken (level + 1)) level at) new
      (λ k either. elim either [
        | inl c ↦ (elim c.0 [ inl less ↦ inl less | inr more ↦ inr (more.0, omega arith) ], c.1)
        | inr same ↦ (inr (same, omega arith), ap (λ j. node_over level (shape.width + slice_index leaves j)) same ∙ sym over)
      ])
      (λ k c. elim c.0 [ inl less ↦ inl (inl less, c.1) | inr more ↦ inr more.0 ])
      (best_with puts P taken fresh old new (are.each level at old below at_in_row had) with)

  -- the other nodes
  kept : (rows node : ℕ) (best : Best) → rows ≤ shape.depth → IsInRow (shape.depth - rows) node → node ≢ at → slice_get nodes node ≡ Some best → IsBestOf puts (IsCounted leaves shape.width (HasEntered taken (level + 1)) rows node) best
  kept rows node best le row other there = best_same puts (IsCounted leaves shape.width (HasEntered taken level) rows node) (IsCounted leaves shape.width (HasEntered taken (level + 1)) rows node) best
      (λ k c. (elim c.0 [ inl less ↦ inl less | inr more ↦ inr (more.0, let l = more.1 in omega arith) ], c.1))
      (λ k c. (
        elim c.0 [
          | inl less ↦ inl less
          | inr more ↦ elim (cases_eq rows level) [
            | inl same ↦ absurd (other (sym c.1 ∙ ap (λ j. node_over rows (shape.width + slice_index leaves j)) more.0 ∙ ap (λ r. node_over r (shape.width + slice_index leaves taken)) same ∙ sym over))
            | inr apart ↦ inr (more.0, let l = more.1 in omega arith)
          ]
        ],
        c.1,
      ))
      (are.each rows node best le row there)

  pub rows_more : AreRows puts leaves shape (HasEntered taken (level + 1)) (set nodes at new)
  rows_more = record {
    each = λ rows node best le row there. elim (cases_eq node at) [
      | inl same ↦
          let is : best ≡ new = at_set_same nodes at new node best same there in
          let here : IsInRow (shape.depth - rows) at = subst (λ n. IsInRow (shape.depth - rows) n) same row in
          let equal : shape.depth - rows ≡ shape.depth - level = one_row (shape.depth - rows) (shape.depth - level) at here at_in_row in
          let one : rows ≡ level = omega arith in
          subst (λ b. IsBestOf puts (IsCounted leaves shape.width (HasEntered taken (level + 1)) rows node) b) (sym is) (subst (λ n. IsBestOf puts (IsCounted leaves shape.width (HasEntered taken (level + 1)) rows n) new) (sym same) (subst (λ r. IsBestOf puts (IsCounted leaves shape.width (HasEntered taken (level + 1)) r at) new) (sym one) written))
      | inr other ↦ kept rows node best le row other (at_set_other nodes at new node best other there)
    ];
  }

  pub over_next : at / 2 ≡ node_over (level + 1) (shape.width + slice_index leaves taken)
  over_next = ap (λ n. n / 2) over ∙ sym (over_more level (shape.width + slice_index leaves taken))

-- ---- the leaves from one on

-- of the puts of the leaves from one on those under a node over it
pub record IsReached (puts : List Put) (leaves : List ℕ) (taken leaf moment width rows at index : ℕ) : Type 0 where
  pub from : IsFrom puts leaves taken leaf moment index
  pub under : IsUnder leaves width rows at index

module _ (puts : List Put) (leaves : List ℕ) (shape : TreeShape) (power : shape.width ≡ 2 ^ shape.depth) (taken leaf moment : ℕ) (nodes : List Best) (inside : leaf < shape.width) (small : (k : ℕ) → expiry_at puts k < 2 ^ 64) (is : IsTree puts leaves shape taken nodes) where
  abbrev Reached : ℕ → ℕ → ℕ → Type 0
  Reached rows at index = IsReached puts leaves taken leaf moment shape.width rows at index

  pub own_leaf : (own : Best) (reading : Readable) → slice_get nodes (shape.width + leaf) ≡ Some own → SaysLive puts moment own reading → Says (IsReached puts leaves taken leaf moment shape.width 0 (shape.width + leaf)) reading
  own_leaf own reading at says =
      let row : IsInRow (shape.depth - 0) (shape.width + leaf) = over_in_row 0 shape.depth (shape.width + leaf) (omega arith) (leaf_in_row shape.width shape.depth leaf power inside) in
      let best = is.each 0 (shape.width + leaf) own (omega arith) row at in
      let P : ℕ → Type 0 = IsCounted leaves shape.width (λ rows k. k < taken) 0 (shape.width + leaf) in
      says_same (λ k. P k × IsLiveAt puts moment k) (Reached 0 (shape.width + leaf)) reading
      (λ k c. let e : shape.width + slice_index leaves k ≡ shape.width + leaf = c.0.1 in record { from = record { entered = c.0.0; from = omega arith; live = c.1 }; under = c.0.1 })
      (λ k r. ((r.from.entered, r.under), r.from.live))
      (live_best puts P moment small own reading best says)

  module _ (level at : ℕ) (below : level < shape.depth) (over : at ≡ node_over level (shape.width + leaf)) where
    -- of the puts under the node beside a left one those that are live
    abbrev Beside : ℕ → Type 0
    Beside k = (at % 2 ≡ 0) × (k < taken) × (node_over level (shape.width + slice_index leaves k) ≡ at + 1) × IsLiveAt puts moment k

    at_row : IsInRow (shape.depth - level) at
    at_row = subst (λ n. IsInRow (shape.depth - level) n) (sym over) (over_in_row level shape.depth (shape.width + leaf) (omega arith) (leaf_in_row shape.width shape.depth leaf power inside))

    beside_row : at % 2 ≡ 0 → IsInRow (shape.depth - level) (at + 1)
    beside_row even = let a = at_row.low in let b = at_row.high in record { low = omega arith; high = omega arith }

    beside_right : (beside : Best) (reading : Readable) → at % 2 ≡ 0 → slice_get nodes (at + 1) ≡ Some beside → SaysLive puts moment beside reading → Says Beside reading
    beside_right beside reading even there says =
        let best = is.each level (at + 1) beside (omega arith) (beside_row even) there in
        let P : ℕ → Type 0 = IsCounted leaves shape.width (λ rows k. k < taken) level (at + 1) in
        says_same (λ k. P k × IsLiveAt puts moment k) Beside reading
        (λ k c. (even, c.0.0, c.0.1, c.1))
        (λ k b. ((b.1, b.2), b.3))
        (live_best puts P moment small beside reading best says)

    says_beside : (reading : Readable) → IsBeside puts nodes at moment reading → Says Beside reading
    says_beside reading beside = elim beside [
      | inl odd ↦ subst (λ r. Says Beside r) (sym odd.1) (λ k b. let o = odd.0 in let e = b.0 in omega arith)
      | inr even ↦ beside_right even.1.0 reading even.0 even.1.1 even.1.2
    ]

    -- a leaf under a node that is not before another one's is not before its leaf
    not_before : (k : ℕ) → at ≤ node_over level (shape.width + slice_index leaves k) → at ≢ node_over level (shape.width + slice_index leaves k) → leaf ≤ slice_index leaves k
    not_before k le apart = elim (cases_before leaf (slice_index leaves k)) [
      | inl less ↦ omega arith
      | inr rest ↦ elim rest [
        | inl same ↦ omega arith
        | inr less ↦
            let mono : node_over level (shape.width + slice_index leaves k) ≤ node_over level (shape.width + leaf) = over_mono level (shape.width + slice_index leaves k) (shape.width + leaf) (omega arith) in
            absurd (omega arith)
      ]
    ]

    -- a put under the node over one is under the node or beside it
    under_next : (k : ℕ) → Reached (level + 1) (at / 2) k → Reached level at k ⊎ Beside k
    under_next k r =
        let half : node_over level (shape.width + slice_index leaves k) / 2 ≡ at / 2 = sym (over_more level (shape.width + slice_index leaves k)) ∙ r.under in
        let from = r.from.from in
        let mono : node_over level (shape.width + leaf) ≤ node_over level (shape.width + slice_index leaves k) = over_mono level (shape.width + leaf) (shape.width + slice_index leaves k) (omega arith) in
        elim (cases_eq (node_over level (shape.width + slice_index leaves k)) at) [
          | inl same ↦ inl (record { from = r.from; under = same })
          | inr other ↦ inr (omega arith, r.from.entered, omega arith, r.from.live)
        ]

    next_under : (k : ℕ) → Reached level at k ⊎ Beside k → Reached (level + 1) (at / 2) k
    next_under k either = elim either [
      | inl r ↦ record { from = r.from; under = over_more level (shape.width + slice_index leaves k) ∙ ap (λ n. n / 2) r.under }
      | inr b ↦
          let even = b.0 in
          let right : node_over level (shape.width + slice_index leaves k) ≡ at + 1 = b.2 in
          let half : node_over level (shape.width + slice_index leaves k) / 2 ≡ at / 2 = omega arith in
          record {
            from = record { entered = b.1; from = not_before k (omega arith) (λ same. omega arith); live = b.3 };
            under = over_more level (shape.width + slice_index leaves k) ∙ half;
          }
    ]

    -- a row up
    pub reached_more : (found beside joined : Readable) → Says (IsReached puts leaves taken leaf moment shape.width level at) found → IsBeside puts nodes at moment beside → IsJoined found beside joined → Says (IsReached puts leaves taken leaf moment shape.width (level + 1) (at / 2)) joined
    reached_more found beside joined had is_beside is_joined = says_same (λ k. Reached level at k ⊎ Beside k) (Reached (level + 1) (at / 2)) joined next_under under_next (says_joined (Reached level at) Beside found beside joined had (says_beside beside is_beside) is_joined)

  -- at the root all have been reached
  pub all_reached : (at : ℕ) (found : Readable) → at ≡ node_over shape.depth (shape.width + leaf) → ((k : ℕ) → k < taken → slice_index leaves k < shape.width) → Says (IsReached puts leaves taken leaf moment shape.width shape.depth at) found → Says (IsFrom puts leaves taken leaf moment) found
  all_reached at found over lie says =
      let root : (place : ℕ) → place < shape.width → node_over shape.depth (shape.width + place) ≡ 1
      = λ place less. root_alone (node_over shape.depth (shape.width + place)) (subst (λ r. IsInRow r (node_over shape.depth (shape.width + place))) (let e : shape.depth - shape.depth ≡ 0 = omega arith in e) (over_in_row shape.depth shape.depth (shape.width + place) (omega arith) (leaf_in_row shape.width shape.depth place power less))) in
      says_same (IsReached puts leaves taken leaf moment shape.width shape.depth at) (IsFrom puts leaves taken leaf moment) found (λ k r. r.from) (λ k f. record { from = f; under = root (slice_index leaves k) (lie k f.entered) ∙ sym (root leaf inside) ∙ sym over }) says
