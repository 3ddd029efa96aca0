-- A walk along rows, in which some are dropped: those before the mark are not of the kind.
use Rattle.std.proofs.Common.{◌≡◌, ℕ, zero, suc, ◌<◌, ◌≤◌, Bool, true, false, cond, not, eqb, Some, None, Option, List, [], ◌∷◌, length, filter, inl, inr, refl, sym, ap, subst, ◌∙◌, arith}
use Rattle.std.specs.Prelude.{slice_get, ◌&&◌}
use Rattle.std.proofs.lemmas.Bool.{cases_Bool, cases_eq, cond_both, eq-eqb, ne_eqb, eqb-true}
use Rattle.entry_pool.specs.declared.row.Row.{Row}
use Rattle.entry_pool.specs.Chains.{none, IsIn, IsDistinct}
use Rattle.entry_pool.specs.Rows.{numbers, in_set, without_at, rows_after, IsMark, IsNext, IsHeld}
use Rattle.klog_index.specs.declared.entry.Entry.{Entry}
use Rattle.klog_index.specs.Entries.{is_of}
use Rattle.klog_index.specs.Rows.{entry_of, row_of}
use Rattle.klog_index.proofs.public_laws.RowLaws.{IsRow, of_kind, filter-both, fewer}

-- ---- rows after a mark

after-here : (q p : ℕ) (rows : List Row) → eqb q p ≡ true → rows_after q p rows ≡ rows
after-here q p [] is = refl
after-here q p (x ∷ xs) is = ap (λ (b : Bool). cond b (x ∷ xs) (rows_after q x.at xs)) is

after-later : (q p : ℕ) (x : Row) (xs : List Row) → eqb q p ≡ false → rows_after q p (x ∷ xs) ≡ rows_after q x.at xs
after-later q p x xs is = ap (λ (b : Bool). cond b (x ∷ xs) (rows_after q x.at xs)) is

-- what is after a mark is among the rows
pub after-in : (q p k : ℕ) (rows : List Row) → IsIn k (numbers (rows_after q p rows)) → IsIn k (numbers rows)
after-in q p k [] h = h
after-in q p k (x ∷ xs) h = elim (cases_Bool (eqb q p)) [
  | inl is ↦ subst (λ (rs : List Row). IsIn k (numbers rs)) (after-here q p (x ∷ xs) is) h
  | inr is ↦ inr (after-in q x.at k xs (subst (λ (rs : List Row). IsIn k (numbers rs)) (after-later q p x xs is) h))
]

-- the first after a mark is among the rows
next-in : (q p : ℕ) (rows tail : List Row) (r : Row) → rows_after q p rows ≡ r ∷ tail → IsIn r.at (numbers rows)
next-in q p rows tail r is = after-in q p r.at rows (subst (λ (rs : List Row). IsIn r.at (numbers rs)) (sym is) (inl refl))

-- without the next row, what is after the mark is without it too
pub after-without : (q p : ℕ) (rows tail : List Row) (r : Row) → IsDistinct (numbers rows) → rows_after q p rows ≡ r ∷ tail → rows_after q p (without_at r.at rows) ≡ without_at r.at (rows_after q p rows)
after-without q p [] tail r apart is = cc
after-without q p (x ∷ xs) tail r apart is = elim (cases_Bool (eqb q p)) [
  | inl here ↦ after-here q p (without_at r.at (x ∷ xs)) here ∙ ap (without_at r.at) (sym (after-here q p (x ∷ xs) here))
  | inr later ↦
      let is' : rows_after q x.at xs ≡ r ∷ tail = sym (after-later q p x xs later) ∙ is in
      let inside = next-in q x.at xs tail r is' in
      let stays : without_at r.at (x ∷ xs) ≡ x ∷ without_at r.at xs =
      ap (λ (b : Bool). cond (not b) (x ∷ without_at r.at xs) (without_at r.at xs)) (ne_eqb x.at r.at (λ same. apart.0 (subst (λ (k : ℕ). IsIn k (numbers xs)) (sym same) inside))) in
      ap (rows_after q p) stays
      ∙ after-later q p x (without_at r.at xs) later
      ∙ after-without q x.at xs tail r apart.1 is'
      ∙ ap (without_at r.at) (sym (after-later q p x xs later))
]

-- a row that is left is among those that are
in-without : (k at : ℕ) (rows : List Row) → (k ≡ at → ⊥) → IsIn k (numbers rows) → IsIn k (numbers (without_at at rows))
in-without k at [] other h = h
in-without k at (x ∷ xs) other (inl same) =
    subst (λ (rs : List Row). IsIn k (numbers rs)) (sym (ap (λ (b : Bool). cond (not b) (x ∷ without_at at xs) (without_at at xs)) (ne_eqb x.at at (λ e. other (same ∙ e))))) (inl same)
in-without k at (x ∷ xs) other (inr i) =
    cond_both (not (eqb x.at at)) (x ∷ without_at at xs) (without_at at xs) (λ rs. IsIn k (numbers rs)) (λ _. inr (in-without k at xs other i)) (λ _. in-without k at xs other i)

-- rows of a set stand apart as all rows do
in-some : (p : Row → Bool) (k : ℕ) (rows : List Row) → IsIn k (numbers (filter p rows)) → IsIn k (numbers rows)
in-some p k [] h = h
in-some p k (x ∷ xs) h = elim (cases_Bool (p x)) [
  | inl is ↦ elim (subst (λ (b : Bool). IsIn k (numbers (cond b (x ∷ filter p xs) (filter p xs)))) is h) [
    | inl same ↦ inl same
    | inr i ↦ inr (in-some p k xs i)
  ]
  | inr is ↦ inr (in-some p k xs (subst (λ (b : Bool). IsIn k (numbers (cond b (x ∷ filter p xs) (filter p xs)))) is h))
]

pub distinct-some : (p : Row → Bool) (rows : List Row) → IsDistinct (numbers rows) → IsDistinct (numbers (filter p rows))
distinct-some p [] h = h
distinct-some p (x ∷ xs) h =
    cond_both (p x) (x ∷ filter p xs) (filter p xs) (λ rs. IsDistinct (numbers rs)) (λ _. ((λ i. h.0 (in-some p x.at xs i)), distinct-some p xs h.1)) (λ _. distinct-some p xs h.1)

-- two tests keep the same in either order
pub filter-swap : {X : Type 0} (p q : X → Bool) (xs : List X) → filter p (filter q xs) ≡ filter q (filter p xs)
filter-swap p q [] = refl
filter-swap p q (x ∷ xs) = step (p x) (q x) refl refl (filter-swap p q xs)
  where
    step : (a b : Bool) → p x ≡ a → q x ≡ b → filter p (filter q xs) ≡ filter q (filter p xs) → filter p (filter q (x ∷ xs)) ≡ filter q (filter p (x ∷ xs))
    step true true is at rest = simp (is, at) (ap (λ (ys : List _). x ∷ ys) rest)
    step true false is at rest = simp (is, at) rest
    step false true is at rest = simp (is, at) rest
    step false false is at rest = simp (is, at) rest

-- the next row of a set is of the set
pub next-set : (q p set : ℕ) (rows tail : List Row) (r : Row) → rows_after q p (in_set set rows) ≡ r ∷ tail → r.item.set ≡ set
next-set q p set [] tail r is = cc
next-set q p set (x ∷ xs) tail r is = elim (cases_Bool (eqb x.item.set set)) [
  | inl own ↦
      let is' : rows_after q p (x ∷ in_set set xs) ≡ r ∷ tail = sym (ap (λ (b : Bool). rows_after q p (cond b (x ∷ in_set set xs) (in_set set xs))) own) ∙ is in
      elim (cases_Bool (eqb q p)) [
        | inl here ↦
            let both : x ∷ in_set set xs ≡ r ∷ tail = sym (after-here q p (x ∷ in_set set xs) here) ∙ is' in
            let same : x ≡ r = cc in
            ap (λ (y : Row). y.item.set) (sym same) ∙ eqb-true x.item.set set own
        | inr later ↦ next-set q x.at set xs tail r (sym (after-later q p x (in_set set xs) later) ∙ is')
      ]
  | inr other ↦ next-set q p set xs tail r (sym (ap (λ (b : Bool). rows_after q p (cond b (x ∷ in_set set xs) (in_set set xs))) other) ∙ is)
]

-- the next row is held
pub next-held : (mark : ℕ) (rows : List Row) (r : Row) → IsNext mark rows (Some r) → IsHeld r.at rows
next-held mark rows r next = next-in mark none rows (rows_after r.at none rows) r next.0

-- the next row of a set is held
pub next-held-in : (mark set : ℕ) (rows : List Row) (r : Row) → IsNext mark (in_set set rows) (Some r) → IsHeld r.at rows
next-held-in mark set rows r next = in-some (λ x. eqb x.item.set set) r.at rows (next-held mark (in_set set rows) r next)

-- the next row is one of the rows
pub next-row : (q p : ℕ) (rows tail : List Row) (r : Row) → rows_after q p rows ≡ r ∷ tail → IsRow r rows
next-row q p [] tail r is = cc
next-row q p (x ∷ xs) tail r is = elim (cases_Bool (eqb q p)) [
  | inl here ↦
      let both : x ∷ xs ≡ r ∷ tail = sym (after-here q p (x ∷ xs) here) ∙ is in
      let same : r ≡ x = cc in
      inl same
  | inr later ↦ inr (next-row q x.at xs tail r (sym (after-later q p x xs later) ∙ is))
]

-- a row of a set is one of all rows
pub row-of-set : (p : Row → Bool) (r : Row) (rows : List Row) → IsRow r (filter p rows) → IsRow r rows
row-of-set p r [] h = h
row-of-set p r (x ∷ xs) h = elim (cases_Bool (p x)) [
  | inl is ↦ elim (subst (λ (b : Bool). IsRow r (cond b (x ∷ filter p xs) (filter p xs))) is h) [
    | inl same ↦ inl same
    | inr i ↦ inr (row-of-set p r xs i)
  ]
  | inr is ↦ inr (row-of-set p r xs (subst (λ (b : Bool). IsRow r (cond b (x ∷ filter p xs) (filter p xs))) is h))
]

-- ---- the walk

-- those before the mark are not of the kind
pub record IsWalked (kind : Entry → Bool) (rows : List Row) (mark : ℕ) : Type 0 where
  pub mark_is : IsMark mark rows
  pub seen : of_kind kind rows ≡ of_kind kind (rows_after mark none rows)

pub walk-start : (kind : Entry → Bool) (rows : List Row) → IsWalked kind rows none
walk-start kind rows = record { mark_is = inl refl; seen = ap (of_kind kind) (sym (after-here none none rows (eq-eqb none none refl))) }

-- the next row is not of the kind
pub walk-on : (kind : Entry → Bool) (rows : List Row) (mark : ℕ) (r : Row) → IsWalked kind rows mark → IsNext mark rows (Some r) → kind (entry_of r.item) ≡ false → IsWalked kind rows r.at
walk-on kind rows mark r now next is = record {
  mark_is = next.1;
  seen =
      now.seen ∙ ap (of_kind kind) next.0
      ∙ ap (λ (b : Bool). cond b (r ∷ of_kind kind (rows_after r.at none rows)) (of_kind kind (rows_after r.at none rows))) is;
}

-- the next row is dropped
pub walk-drop : (kind : Entry → Bool) (rows : List Row) (mark : ℕ) (r : Row) → IsWalked kind rows mark → IsNext mark rows (Some r) → IsDistinct (numbers rows) → IsWalked kind (without_at r.at rows) mark
walk-drop kind rows mark r now next apart = record {
  mark_is = left now.mark_is;
  seen =
      filter-swap (λ x. kind (entry_of x.item)) (λ x. not (eqb x.at r.at)) rows
      ∙ ap (without_at r.at) now.seen
      ∙ sym (filter-swap (λ x. kind (entry_of x.item)) (λ x. not (eqb x.at r.at)) (rows_after mark none rows))
      ∙ ap (of_kind kind) (sym (after-without mark none rows (rows_after r.at none rows) r apart next.0));
}
  where
    -- the mark is another row
    other : mark ≡ r.at → ⊥
    other same =
        let again : rows_after r.at none rows ≡ r ∷ rows_after r.at none rows = subst (λ (k : ℕ). rows_after k none rows ≡ r ∷ rows_after r.at none rows) same next.0 in
        let longer : length (rows_after r.at none rows) ≡ suc (length (rows_after r.at none rows)) = ap length again in
        omega (arith, longer)

    left : IsMark mark rows → IsMark mark (without_at r.at rows)
    left (inl is) = inl is
    left (inr i) = inr (in-without mark r.at rows other i)

-- less is to be walked
pub on-fewer : (rows : List Row) (mark : ℕ) (r : Row) → IsNext mark rows (Some r) → length (rows_after r.at none rows) < length (rows_after mark none rows)
on-fewer rows mark r next = let more : length (rows_after mark none rows) ≡ suc (length (rows_after r.at none rows)) = ap length next.0 in omega (arith, more)

pub drop-fewer : (rows : List Row) (mark : ℕ) (r : Row) → IsNext mark rows (Some r) → IsDistinct (numbers rows) → length (rows_after mark none (without_at r.at rows)) < length (rows_after mark none rows)
drop-fewer rows mark r next apart =
    subst (λ (rs : List Row). length rs < length (rows_after mark none rows)) (sym (after-without mark none rows (rows_after r.at none rows) r apart next.0))
    (fewer r.at (rows_after mark none rows) (subst (λ (rs : List Row). IsIn r.at (numbers rs)) (sym next.0) (inl refl)))

-- at the end none is of the kind
pub walk-end : (kind : Entry → Bool) (rows : List Row) (mark : ℕ) → IsWalked kind rows mark → IsNext mark rows None → row_of kind rows ≡ None
walk-end kind rows mark now next = ap (λ (rs : List Row). slice_get rs 0) (now.seen ∙ ap (of_kind kind) next)

-- the same of the rows of a set
pub set-end : (set : ℕ) (kind : Entry → Bool) (rows : List Row) (mark : ℕ) → IsWalked kind (in_set set rows) mark → IsNext mark (in_set set rows) None → row_of (λ e. is_of set e && kind e) rows ≡ None
set-end set kind rows mark now next =
    ap (λ (rs : List Row). slice_get rs 0) (sym (filter-both (λ (r : Row). eqb r.item.set set) (λ r. kind (entry_of r.item)) rows) ∙ now.seen ∙ ap (of_kind kind) next)

pub set-drop : (set : ℕ) (kind : Entry → Bool) (rows : List Row) (mark : ℕ) (r : Row) → IsWalked kind (in_set set rows) mark → IsNext mark (in_set set rows) (Some r) → IsDistinct (numbers rows) → IsWalked kind (in_set set (without_at r.at rows)) mark
set-drop set kind rows mark r now next apart =
    subst (λ (rs : List Row). IsWalked kind rs mark) (filter-swap (λ (x : Row). not (eqb x.at r.at)) (λ x. eqb x.item.set set) rows)
    (walk-drop kind (in_set set rows) mark r now next (distinct-some (λ x. eqb x.item.set set) rows apart))

pub set-fewer : (set : ℕ) (rows : List Row) (mark : ℕ) (r : Row) → IsNext mark (in_set set rows) (Some r) → IsDistinct (numbers rows) → length (rows_after mark none (in_set set (without_at r.at rows))) < length (rows_after mark none (in_set set rows))
set-fewer set rows mark r next apart =
    subst (λ (rs : List Row). length (rows_after mark none rs) < length (rows_after mark none (in_set set rows))) (filter-swap (λ (x : Row). not (eqb x.at r.at)) (λ x. eqb x.item.set set) rows)
    (drop-fewer (in_set set rows) mark r next (distinct-some (λ x. eqb x.item.set set) rows apart))
