-- Rows and their entries: found, dropped, lowered.
use Rattle.std.proofs.Common.{◌≡◌, ◌≢◌, ℕ, zero, suc, ◌<◌, ◌≤◌, ◌-◌, Bool, true, false, cond, not, eqb, Some, None, Option, List, [], ◌∷◌, ◌++◌, length, get_or, filter, map, All, inl, inr, refl, sym, ap, subst, ◌∙◌, arith}
use Rattle.std.specs.Prelude.{◌&&◌, slice_get, ◌⊎◌}
use Rattle.std.specs.List.{last_or}
use Rattle.std.specs.Option.{option_map}
use Rattle.std.proofs.lemmas.Bool.{cases_Bool, cond_both, eq-eqb, ne_eqb}
use Rattle.std.proofs.lemmas.List.{append-nil}
use Rattle.std.proofs.lemmas.List.Elements.{All-tail, All-head, filter-append}
use Rattle.entry_pool.specs.declared.row.Row.{Row}
use Rattle.entry_pool.specs.Chains.{IsIn, IsDistinct}
use Rattle.entry_pool.specs.Rows.{numbers, in_set, without_at, with_prediction_at, repredicted}
use Rattle.klog_index.specs.declared.entry.Entry.{Entry}
use Rattle.klog_index.specs.declared.place.Place.{Place}
use Rattle.klog_index.specs.Entries.{without, AreApart, IsFree, lowered, with_lowered, of_set}
use Rattle.klog_index.specs.Rows.{entry_of, entries_of, RowsApart, row_of}

-- two rows lie at two places
abbrev pub LieApart : Row → Row → Type 0
LieApart a b = (entry_of a.item).place ≢ (entry_of b.item).place

blank : Row
blank = record { at = 0; item = record { set = 0; tag = 0; segment = 0; page = 0; slot = 0; prediction = 0 } }

pub length-entries : (rows : List Row) → length (entries_of rows) ≡ length rows
length-entries [] = refl
length-entries (r ∷ rs) = ap suc (length-entries rs)

got-entry : (rows : List Row) (k : ℕ) (d : Entry) (r : Row) → k < length rows → get_or (entries_of rows) k d ≡ entry_of (get_or rows k r).item
got-entry [] k d r lt = absurd (omega (arith, lt))
got-entry (x ∷ xs) zero d r lt = refl
got-entry (x ∷ xs) (suc k) d r lt = got-entry xs k d r (omega (arith, lt))

pub apart-entries : (rows : List Row) → RowsApart rows → AreApart (entries_of rows)
apart-entries rows apart = λ i j d lt lj same.
    let n = length-entries rows in
    let lj' : j < length rows = omega (arith, lj, n) in
    let li' : i < length rows = omega (arith, lt, lj') in
    apart i j blank lt lj' (ap (λ (e : Entry). e.place) (sym (got-entry rows i d blank li')) ∙ same ∙ ap (λ (e : Entry). e.place) (got-entry rows j d blank lj'))

-- a free place is apart from those of the rows
pub apart-free : (r : Row) (rows : List Row) → IsFree (entry_of r.item).place (entries_of rows) → All (LieApart r) rows
apart-free r rows free = λ k d lt same.
    let n = length-entries rows in
    free k (entry_of d.item) (omega (arith, lt, n)) (ap (λ (e : Entry). e.place) (got-entry rows k (entry_of d.item) d lt) ∙ sym same)

apart-head : (r : Row) (rows : List Row) → RowsApart (r ∷ rows) → All (LieApart r) rows
apart-head r rows apart = λ k d lt. apart 0 (suc k) d (omega arith) (omega (arith, lt))

apart-tail : (r : Row) (rows : List Row) → RowsApart (r ∷ rows) → RowsApart rows
apart-tail r rows apart = λ i j d lt lj. apart (suc i) (suc j) d (omega (arith, lt)) (omega (arith, lj))

-- what one test and then another keep, both keep at once
pub filter-both : {X : Type 0} (p q : X → Bool) (xs : List X) → filter q (filter p xs) ≡ filter (λ x. p x && q x) xs
filter-both p q [] = refl
filter-both p q (x ∷ xs) = elim (cases_Bool (p x)) [
  | inl e ↦
      ap (λ (b : Bool). filter q (cond b (x ∷ filter p xs) (filter p xs))) e
      ∙ ap (λ (ys : List _). cond (q x) (x ∷ ys) ys) (filter-both p q xs)
      ∙ sym (ap (λ (b : Bool). cond (b && q x) (x ∷ filter (λ y. p y && q y) xs) (filter (λ y. p y && q y) xs)) e)
  | inr e ↦
      ap (λ (b : Bool). filter q (cond b (x ∷ filter p xs) (filter p xs))) e
      ∙ filter-both p q xs
      ∙ sym (ap (λ (b : Bool). cond (b && q x) (x ∷ filter (λ y. p y && q y) xs) (filter (λ y. p y && q y) xs)) e)
]

pub entries-in-set : (set : ℕ) (rows : List Row) → entries_of (in_set set rows) ≡ of_set set (entries_of rows)
entries-in-set set [] = refl
entries-in-set set (r ∷ rs) = elim (cases_Bool (eqb r.item.set set)) [
  | inl e ↦
      ap (λ (b : Bool). entries_of (cond b (r ∷ in_set set rs) (in_set set rs))) e
      ∙ ap (λ (es : List Entry). entry_of r.item ∷ es) (entries-in-set set rs)
      ∙ sym (ap (λ (b : Bool). cond b (entry_of r.item ∷ of_set set (entries_of rs)) (of_set set (entries_of rs))) e)
  | inr e ↦
      ap (λ (b : Bool). entries_of (cond b (r ∷ in_set set rs) (in_set set rs))) e
      ∙ entries-in-set set rs
      ∙ sym (ap (λ (b : Bool). cond b (entry_of r.item ∷ of_set set (entries_of rs)) (of_set set (entries_of rs))) e)
]

-- the last entry is that of the last row
pub last-of-some : (r x : Row) (rs : List Row) → last_or (Some r) rs ≡ Some x → last_or (Some (entry_of r.item)) (entries_of rs) ≡ Some (entry_of x.item)
last-of-some r x [] e = let same : r ≡ x = cc in ap (λ (y : Row). Some (entry_of y.item)) same
last-of-some r x (y ∷ ys) e = last-of-some y x ys e

pub last-entry : (x : Row) (rs : List Row) → last_or None rs ≡ Some x → last_or None (entries_of rs) ≡ Some (entry_of x.item)
last-entry x [] e = cc
last-entry x (y ∷ ys) e = last-of-some y x ys e

last-is : (r : Row) (rs : List Row) → last_or (Some r) rs ≡ None → ⊥
last-is r [] e = cc
last-is r (y ∷ ys) e = last-is y ys e

pub last-no-entry : (rs : List Row) → last_or None rs ≡ None → last_or None (entries_of rs) ≡ None
last-no-entry [] e = refl
last-no-entry (y ∷ ys) e = absurd (last-is y ys e)

-- rows of a kind of entry
abbrev pub of_kind : (Entry → Bool) → List Row → List Row
of_kind p rows = filter (λ r. p (entry_of r.item)) rows

first-here : (p : Entry → Bool) (x : Row) (xs : List Row) → p (entry_of x.item) ≡ true → row_of p (x ∷ xs) ≡ Some x
first-here p x xs e = ap (λ (b : Bool). slice_get (cond b (x ∷ of_kind p xs) (of_kind p xs)) 0) e

first-later : (p : Entry → Bool) (x : Row) (xs : List Row) → p (entry_of x.item) ≡ false → row_of p (x ∷ xs) ≡ row_of p xs
first-later p x xs e = ap (λ (b : Bool). slice_get (cond b (x ∷ of_kind p xs) (of_kind p xs)) 0) e

-- what is found is of the kind, and is held
pub found-row : (p : Entry → Bool) (rows : List Row) (r : Row) → row_of p rows ≡ Some r → (p (entry_of r.item) ≡ true) × IsIn r.at (numbers rows)
found-row p [] r h = cc
found-row p (x ∷ xs) r h = elim (cases_Bool (p (entry_of x.item))) [
  | inl e ↦
      let w : Some x ≡ Some r = sym (first-here p x xs e) ∙ h in
      let same : x ≡ r = cc in
      (subst (λ (y : Row). p (entry_of y.item) ≡ true) same e, inl (ap (λ (y : Row). y.at) (sym same)))
  | inr e ↦
      let rest = found-row p xs r (sym (first-later p x xs e) ∙ h) in
      (rest.0, inr rest.1)
]

skip-none : (at : ℕ) (rows : List Row) → ¬ IsIn at (numbers rows) → without_at at rows ≡ rows
skip-none at [] n = refl
skip-none at (x ∷ xs) n =
    ap (λ (b : Bool). cond (not b) (x ∷ without_at at xs) (without_at at xs)) (ne_eqb x.at at (λ e. n (inl (sym e))))
    ∙ ap (λ (rs : List Row). x ∷ rs) (skip-none at xs (λ i. n (inr i)))

-- without the row that was found, the entries that are not of the kind are the same
pub drop-found : (p : Entry → Bool) (rows : List Row) (r : Row) → IsDistinct (numbers rows) → row_of p rows ≡ Some r → without p (entries_of (without_at r.at rows)) ≡ without p (entries_of rows)
drop-found p [] r apart h = cc
drop-found p (x ∷ xs) r apart h = elim (cases_Bool (p (entry_of x.item))) [
  | inl e ↦
      let w : Some x ≡ Some r = sym (first-here p x xs e) ∙ h in
      let same : x ≡ r = cc in
      let skipped : without_at r.at (x ∷ xs) ≡ xs =
      ap (λ (b : Bool). cond (not b) (x ∷ without_at r.at xs) (without_at r.at xs)) (eq-eqb x.at r.at (ap (λ (y : Row). y.at) same))
      ∙ skip-none r.at xs (subst (λ (k : ℕ). ¬ IsIn k (numbers xs)) (ap (λ (y : Row). y.at) same) apart.0) in
      ap (λ (rs : List Row). without p (entries_of rs)) skipped
      ∙ sym (ap (λ (b : Bool). cond (not b) (entry_of x.item ∷ without p (entries_of xs)) (without p (entries_of xs))) e)
  | inr e ↦
      let h' = sym (first-later p x xs e) ∙ h in
      let there = (found-row p xs r h').1 in
      let differs : x.at ≡ r.at → ⊥ = λ q. apart.0 (subst (λ (k : ℕ). IsIn k (numbers xs)) (sym q) there) in
      ap (λ (b : Bool). without p (entries_of (cond (not b) (x ∷ without_at r.at xs) (without_at r.at xs)))) (ne_eqb x.at r.at differs)
      ∙ ap (λ (es : List Entry). cond (not (p (entry_of x.item))) (entry_of x.item ∷ es) es) (drop-found p xs r apart.1 h')
]

-- this very row is among these
abbrev pub IsRow : Row → List Row → Type 0
IsRow r [] = ⊥
IsRow r (x ∷ xs) = (r ≡ x) ⊎ IsRow r xs

row-number : (r : Row) (rows : List Row) → IsRow r rows → IsIn r.at (numbers rows)
row-number r [] h = h
row-number r (x ∷ xs) (inl same) = inl (ap (λ (y : Row). y.at) same)
row-number r (x ∷ xs) (inr i) = inr (row-number r xs i)

-- without a row of the kind, the entries that are not of the kind are the same
pub drop-row : (p : Entry → Bool) (rows : List Row) (r : Row) → IsDistinct (numbers rows) → IsRow r rows → p (entry_of r.item) ≡ true → without p (entries_of (without_at r.at rows)) ≡ without p (entries_of rows)
drop-row p [] r apart h its = absurd h
drop-row p (x ∷ xs) r apart (inl same) its =
    let e : p (entry_of x.item) ≡ true = ap (λ (y : Row). p (entry_of y.item)) (sym same) ∙ its in
    let skipped : without_at r.at (x ∷ xs) ≡ xs =
    ap (λ (b : Bool). cond (not b) (x ∷ without_at r.at xs) (without_at r.at xs)) (eq-eqb x.at r.at (ap (λ (y : Row). y.at) (sym same)))
    ∙ skip-none r.at xs (subst (λ (k : ℕ). ¬ IsIn k (numbers xs)) (ap (λ (y : Row). y.at) (sym same)) apart.0) in
    ap (λ (rs : List Row). without p (entries_of rs)) skipped
    ∙ sym (ap (λ (b : Bool). cond (not b) (entry_of x.item ∷ without p (entries_of xs)) (without p (entries_of xs))) e)
drop-row p (x ∷ xs) r apart (inr i) its =
    let differs : x.at ≡ r.at → ⊥ = λ q. apart.0 (subst (λ (k : ℕ). IsIn k (numbers xs)) (sym q) (row-number r xs i)) in
    ap (λ (b : Bool). without p (entries_of (cond (not b) (x ∷ without_at r.at xs) (without_at r.at xs)))) (ne_eqb x.at r.at differs)
    ∙ ap (λ (es : List Entry). cond (not (p (entry_of x.item))) (entry_of x.item ∷ es) es) (drop-row p xs r apart.1 i its)

-- if none is of the kind, all stay
pub keep-all : (p : Entry → Bool) (rows : List Row) → row_of p rows ≡ None → without p (entries_of rows) ≡ entries_of rows
keep-all p [] h = refl
keep-all p (x ∷ xs) h = elim (cases_Bool (p (entry_of x.item))) [
  | inl e ↦ let w : Some x ≡ None = sym (first-here p x xs e) ∙ h in absurd (cc)
  | inr e ↦
      ap (λ (b : Bool). cond (not b) (entry_of x.item ∷ without p (entries_of xs)) (without p (entries_of xs))) e
      ∙ ap (λ (es : List Entry). entry_of x.item ∷ es) (keep-all p xs (sym (first-later p x xs e) ∙ h))
]

length-skip : (at : ℕ) (rows : List Row) → length (without_at at rows) ≤ length rows
length-skip at [] = omega arith
length-skip at (x ∷ xs) =
    let rest = length-skip at xs in
    cond_both (not (eqb x.at at)) (x ∷ without_at at xs) (without_at at xs) (λ ys. length ys ≤ length (x ∷ xs)) (λ _. omega (arith, rest)) (λ _. omega (arith, rest))

-- a row less
pub fewer : (at : ℕ) (rows : List Row) → IsIn at (numbers rows) → length (without_at at rows) < length rows
fewer at [] h = absurd h
fewer at (x ∷ xs) (inl e) =
    let skipped : without_at at (x ∷ xs) ≡ without_at at xs = ap (λ (b : Bool). cond (not b) (x ∷ without_at at xs) (without_at at xs)) (eq-eqb x.at at (sym e)) in
    let rest = length-skip at xs in
    omega (arith, ap (λ (ys : List Row). length ys) skipped, rest)
fewer at (x ∷ xs) (inr i) =
    let rest = fewer at xs i in
    cond_both (not (eqb x.at at)) (x ∷ without_at at xs) (without_at at xs) (λ ys. length ys < length (x ∷ xs)) (λ _. omega (arith, rest)) (λ _. omega (arith, rest))

-- a kind that stands for one place
abbrev pub IsKindOfPlace : (Entry → Bool) → Place → Type 0
IsKindOfPlace p place = (e : Entry) → p e ≡ true → e.place ≡ place

pub lower-none : (p : Entry → Bool) (rows : List Row) → row_of p rows ≡ None → with_lowered p (entries_of rows) ≡ entries_of rows
lower-none p [] h = refl
lower-none p (x ∷ xs) h = elim (cases_Bool (p (entry_of x.item))) [
  | inl e ↦ let w : Some x ≡ None = sym (first-here p x xs e) ∙ h in absurd (cc)
  | inr e ↦
      ap (λ (b : Bool). cond b (lowered (entry_of x.item)) (entry_of x.item) ∷ with_lowered p (entries_of xs)) e
      ∙ ap (λ (es : List Entry). entry_of x.item ∷ es) (lower-none p xs (sym (first-later p x xs e) ∙ h))
]

others-stay : (p : Entry → Bool) (place : Place) (x : Row) (xs : List Row) → IsKindOfPlace p place → (entry_of x.item).place ≡ place → All (LieApart x) xs → with_lowered p (entries_of xs) ≡ entries_of xs
others-stay p place x [] of here apart = refl
others-stay p place x (y ∷ ys) of here apart = elim (cases_Bool (p (entry_of y.item))) [
  | inl e ↦ absurd (All-head (LieApart x) y ys apart (here ∙ sym (of (entry_of y.item) e)))
  | inr e ↦
      ap (λ (b : Bool). cond b (lowered (entry_of y.item)) (entry_of y.item) ∷ with_lowered p (entries_of ys)) e
      ∙ ap (λ (es : List Entry). entry_of y.item ∷ es) (others-stay p place x ys of here (All-tail (LieApart x) y ys apart))
]

numbers-stay : (at n : ℕ) (rows : List Row) → ¬ IsIn at (numbers rows) → with_prediction_at at n rows ≡ rows
numbers-stay at n [] out = refl
numbers-stay at n (x ∷ xs) out =
    ap (λ (b : Bool). cond b (repredicted n x) x ∷ with_prediction_at at n xs) (ne_eqb x.at at (λ e. out (inl (sym e))))
    ∙ ap (λ (rs : List Row). x ∷ rs) (numbers-stay at n xs (λ i. out (inr i)))

-- the row that was found is lowered, and it alone
pub lower-found : (p : Entry → Bool) (place : Place) (rows : List Row) (r : Row) → IsKindOfPlace p place → IsDistinct (numbers rows) → RowsApart rows → row_of p rows ≡ Some r →
    entries_of (with_prediction_at r.at (r.item.prediction - 1) rows) ≡ with_lowered p (entries_of rows)
lower-found p place [] r of apart places h = cc
lower-found p place (x ∷ xs) r of apart places h = elim (cases_Bool (p (entry_of x.item))) [
  | inl e ↦
      let w : Some x ≡ Some r = sym (first-here p x xs e) ∙ h in
      let same : x ≡ r = cc in
      let here : entries_of (with_prediction_at x.at (x.item.prediction - 1) (x ∷ xs)) ≡ with_lowered p (entries_of (x ∷ xs)) =
      ap (λ (b : Bool). entry_of (cond b (repredicted (x.item.prediction - 1) x) x).item ∷ entries_of (with_prediction_at x.at (x.item.prediction - 1) xs)) (eq-eqb x.at x.at refl)
      ∙ ap (λ (rs : List Row). lowered (entry_of x.item) ∷ entries_of rs) (numbers-stay x.at (x.item.prediction - 1) xs apart.0)
      ∙ ap (λ (es : List Entry). lowered (entry_of x.item) ∷ es) (sym (others-stay p place x xs of (of (entry_of x.item) e) (apart-head x xs places)))
      ∙ sym (ap (λ (b : Bool). cond b (lowered (entry_of x.item)) (entry_of x.item) ∷ with_lowered p (entries_of xs)) e) in
      subst (λ (y : Row). entries_of (with_prediction_at y.at (y.item.prediction - 1) (x ∷ xs)) ≡ with_lowered p (entries_of (x ∷ xs))) same here
  | inr e ↦
      let h' = sym (first-later p x xs e) ∙ h in
      let there = (found-row p xs r h').1 in
      let differs : x.at ≡ r.at → ⊥ = λ q. apart.0 (subst (λ (k : ℕ). IsIn k (numbers xs)) (sym q) there) in
      ap (λ (b : Bool). entry_of (cond b (repredicted (r.item.prediction - 1) x) x).item ∷ entries_of (with_prediction_at r.at (r.item.prediction - 1) xs)) (ne_eqb x.at r.at differs)
      ∙ ap (λ (es : List Entry). entry_of x.item ∷ es) (lower-found p place xs r of apart.1 (apart-tail x xs places) h')
      ∙ sym (ap (λ (b : Bool). cond b (lowered (entry_of x.item)) (entry_of x.item) ∷ with_lowered p (entries_of xs)) e)
]

places-stay : (at n : ℕ) (rows : List Row) (k : ℕ) (d : Row) → (entry_of (get_or (with_prediction_at at n rows) k d).item).place ≡ (entry_of (get_or rows k d).item).place
places-stay at n [] k d = refl
places-stay at n (x ∷ xs) zero d = cond_both (eqb x.at at) (repredicted n x) x (λ y. (entry_of y.item).place ≡ (entry_of x.item).place) (λ _. refl) (λ _. refl)
places-stay at n (x ∷ xs) (suc k) d = places-stay at n xs k d

length-repredicted : (at n : ℕ) (rows : List Row) → length (with_prediction_at at n rows) ≡ length rows
length-repredicted at n [] = refl
length-repredicted at n (x ∷ xs) = ap suc (length-repredicted at n xs)

pub apart-repredicted : (at n : ℕ) (rows : List Row) → RowsApart rows → RowsApart (with_prediction_at at n rows)
apart-repredicted at n rows apart = λ i j d lt lj same.
    apart i j d lt (omega (arith, lj, length-repredicted at n rows)) (sym (places-stay at n rows i d) ∙ same ∙ places-stay at n rows j d)

pub same-option : {X : Type 0} (o : Option X) → option_map (λ (x : X). x) o ≡ o
same-option None = refl
same-option (Some x) = refl

pub length-kept : (p : Entry → Bool) (es : List Entry) → length (filter p es) ≤ length es
length-kept p [] = omega arith
length-kept p (e ∷ es) =
    let rest = length-kept p es in
    cond_both (p e) (e ∷ filter p es) (filter p es) (λ ys. length ys ≤ length (e ∷ es)) (λ _. omega (arith, rest)) (λ _. omega (arith, rest))

-- the entries of one row more
entries-push : (rows : List Row) (r : Row) → entries_of (rows ++ r ∷ []) ≡ entries_of rows ++ entry_of r.item ∷ []
entries-push [] r = refl
entries-push (x ∷ xs) r = ap (λ (es : List Entry). entry_of x.item ∷ es) (entries-push xs r)

-- one row more that is not of the kind stays
pub without-kept : (p : Entry → Bool) (rows : List Row) (r : Row) → p (entry_of r.item) ≡ false → without p (entries_of (rows ++ r ∷ [])) ≡ without p (entries_of rows) ++ entry_of r.item ∷ []
without-kept p rows r is =
    ap (without p) (entries-push rows r)
    ∙ filter-append (λ e. not (p e)) (entries_of rows) (entry_of r.item ∷ [])
    ∙ ap (λ (b : Bool). without p (entries_of rows) ++ cond (not b) (entry_of r.item ∷ []) []) is

-- and one that is does not
pub without-gone : (p : Entry → Bool) (rows : List Row) (r : Row) → p (entry_of r.item) ≡ true → without p (entries_of (rows ++ r ∷ [])) ≡ without p (entries_of rows)
without-gone p rows r is =
    ap (without p) (entries-push rows r)
    ∙ filter-append (λ e. not (p e)) (entries_of rows) (entry_of r.item ∷ [])
    ∙ ap (λ (b : Bool). without p (entries_of rows) ++ cond (not b) (entry_of r.item ∷ []) []) is
    ∙ append-nil (without p (entries_of rows))

pub same-map : {X : Type 0} (xs : List X) → map (λ (x : X). x) xs ≡ xs
same-map [] = refl
same-map (x ∷ xs) = ap (λ (ys : List _). x ∷ ys) (same-map xs)
