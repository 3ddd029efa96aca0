-- What a push leaves in a segment in the making.
use Rattle.std.proofs.Common.{◌≡◌, ℕ, zero, suc, Some, None, slice_get, slice_set, inl, inr, ◌+◌, ◌-◌, ◌<◌, ◌≤◌, Bool, true, false, ◌||◌, cond, ltb, List, [], ◌∷◌, ◌++◌, length, take, get_or, set, refl, sym, ap, ◌∙◌, arith}
use Rattle.std.proofs.lemmas.Bool.{ltb-true, and_parts, cases_lt, cases_eq, cond_both}
use Rattle.std.proofs.lemmas.List.{length-take-le, length-set, get_or-take, take_more_set, set_at, get_or_default, take_more, get_or_past, get_or-set_same, get_or-set_other, get_or_append_left, get_or_at, length_push}
use Rattle.record_pages.specs.Recs.{Rec, fit_log}
use Rattle.klog.specs.Buffer.{Buffer, page_of, record_in, pages_with, fits_here, can_add, page_for, slot_for}

-- a record was pushed
pub record Pushed (size : ℕ) (old : Buffer) (r : Rec) (new : Buffer) (page slot : ℕ) : Type 0 where
  pub can : can_add size old r ≡ true
  pub buffer : new ≡ record { room = old.room; pages = pages_with size old.pages r }
  pub page_is : page ≡ page_for size old.pages r
  pub slot_is : slot ≡ slot_for size old.pages r

same_buffer : (a b : Buffer) → a.room ≡ b.room → a.pages ≡ b.pages → a ≡ b
same_buffer a b p q = λ i. record { room = p i; pages = q i }

take_set_last : (items : List (List Rec)) (used : ℕ) (new : List Rec) → 0 < used → used ≤ length items → take used (set items (used - 1) new) ≡ set (take used items) (used - 1) new
take_set_last items used new some le =
    let k : used ≡ (used - 1) + 1 = omega arith in
    let lt : used - 1 < length items = omega arith in
    let one : take used (set items (used - 1) new) ≡ take (used - 1) items ++ new ∷ [] = ap (λ (n : ℕ). take n (set items (used - 1) new)) k ∙ take_more_set items (used - 1) new lt in
    let two : take used items ≡ take (used - 1) items ++ get_or items (used - 1) [] ∷ [] = ap (λ (n : ℕ). take n items) k ∙ take_more items (used - 1) [] lt in
    one ∙ sym (ap (λ (t : List (List Rec)). set t (used - 1) new) two ∙ set_at (take (used - 1) items) (get_or items (used - 1) []) [] new (used - 1) (length-take-le (used - 1) items (omega arith)))

-- on the last page that is in use
pub pushed_here : (size : ℕ) (items : List (List Rec)) (used : ℕ) (b : Buffer) (r : Rec) (page new : List Rec) (slot : ℕ) → record { room = length items; pages = take used items } ≡ b → 0 < used → used ≤ length items
    → page ≡ get_or items (used - 1) page → fits_here size b.pages r ≡ true → new ≡ page ++ r ∷ [] → slot ≡ length page
    → Pushed size b r (record { room = length (set items (used - 1) new); pages = take used (set items (used - 1) new) }) (used - 1) slot
pushed_here size items used b r page new slot is some le page-is here new-is slot-is =
    let pages-is : b.pages ≡ take used items = ap (λ (x : Buffer). x.pages) (sym is) in
    let room-is : b.room ≡ length items = ap (λ (x : Buffer). x.room) (sym is) in
    let len : length b.pages ≡ used = ap length pages-is ∙ length-take-le used items le in
    let at : length b.pages - 1 ≡ used - 1 = ap (λ (n : ℕ). n - 1) len in
    let lt : used - 1 < length items = omega arith in
    let current : page_of b.pages (length b.pages - 1) ≡ page =
    ap (λ (n : ℕ). page_of b.pages n) at ∙ ap (λ (ps : List (List Rec)). page_of ps (used - 1)) pages-is ∙ get_or-take used items (used - 1) [] (omega arith) ∙ get_or_default items (used - 1) [] page lt ∙ sym page-is in
    let pages' : take used (set items (used - 1) new) ≡ set b.pages (length b.pages - 1) (page_of b.pages (length b.pages - 1) ++ r ∷ []) =
    take_set_last items used new some le ∙ rw (← pages-is, ← at, current) (ap (set b.pages (length b.pages - 1)) new-is) in
    record {
      can = ap (λ (t : Bool). t || ltb (length b.pages) b.room) here;
      buffer = same_buffer _ _ (length-set items (used - 1) new ∙ sym room-is) (pages' ∙ sym (ap (λ (t : Bool). cond t (set b.pages (length b.pages - 1) (page_of b.pages (length b.pages - 1) ++ r ∷ [])) (b.pages ++ (r ∷ []) ∷ [])) here));
      page_is = sym (ap (λ (t : Bool). cond t (length b.pages - 1) (length b.pages)) here ∙ at);
      slot_is = slot-is ∙ sym (ap (λ (t : Bool). cond t (length (page_of b.pages (length b.pages - 1))) 0) here ∙ ap length current);
    }

-- ---- what lay in a segment lies there still, and the new record lies at its place

get_more : (xs : List Rec) (r x : Rec) (n : ℕ) → slice_get xs n ≡ Some x → slice_get (xs ++ r ∷ []) n ≡ Some x
get_more [] r x n e = absurd cc
get_more (y ∷ xs) r x zero e = e
get_more (y ∷ xs) r x (suc n) e = get_more xs r x n e

get_last : (xs : List Rec) (r : Rec) → slice_get (xs ++ r ∷ []) (length xs) ≡ Some r
get_last [] r = refl
get_last (y ∷ xs) r = get_last xs r

get_past : (xs : List Rec) → slice_get xs (length xs) ≡ None
get_past [] = refl
get_past (y ∷ xs) = get_past xs

-- a place that has a record is on a page
pub page_within : (pages : List (List Rec)) (page slot : ℕ) (x : Rec) → record_in pages page slot ≡ Some x → page < length pages
page_within pages page slot x e =
    elim (cases_lt page (length pages)) [
      | inl lt ↦ lt
      | inr le ↦ let none : slice_get {X = Rec} [] slot ≡ Some x = ap (λ (p : List Rec). slice_get p slot) (sym (get_or_past pages page [] le)) ∙ e in absurd cc
    ]

set_page : (pages : List (List Rec)) (at page slot : ℕ) (r x : Rec) → at < length pages → record_in pages page slot ≡ Some x → record_in (set pages at (page_of pages at ++ r ∷ [])) page slot ≡ Some x
set_page pages at page slot r x lt e =
    elim (cases_eq page at) [
      | inl same ↦
          ap (λ (n : ℕ). record_in (set pages at (page_of pages at ++ r ∷ [])) n slot) same
          ∙ ap (λ (p : List Rec). slice_get p slot) (get_or-set_same pages at (page_of pages at ++ r ∷ []) [] lt)
          ∙ get_more (page_of pages at) r x slot (ap (λ (n : ℕ). record_in pages n slot) (sym same) ∙ e)
      | inr other ↦ ap (λ (p : List Rec). slice_get p slot) (get_or-set_other pages at page (page_of pages at ++ r ∷ []) [] other) ∙ e
    ]

more_pages : (pages : List (List Rec)) (page slot : ℕ) (p : List Rec) (x : Rec) → record_in pages page slot ≡ Some x → record_in (pages ++ p ∷ []) page slot ≡ Some x
more_pages pages page slot p x e = ap (λ (q : List Rec). slice_get q slot) (get_or_append_left pages (p ∷ []) [] page (page_within pages page slot x e)) ∙ e

-- a record stays where it is
pub still_in : (size : ℕ) (pages : List (List Rec)) (r : Rec) (page slot : ℕ) (x : Rec) → record_in pages page slot ≡ Some x → record_in (pages_with size pages r) page slot ≡ Some x
still_in size pages r page slot x e =
    cond_both (fits_here size pages r) (slice_set pages (length pages - 1) (page_of pages (length pages - 1) ++ r ∷ [])) (pages ++ (r ∷ []) ∷ []) (λ ps. record_in ps page slot ≡ Some x)
    (λ here. let lt : page < length pages = page_within pages page slot x e in set_page pages (length pages - 1) page slot r x (omega arith) e)
    (λ _. more_pages pages page slot (r ∷ []) x e)

-- the new record lies at its place
pub added_at : (size : ℕ) (pages : List (List Rec)) (r : Rec) → record_in (pages_with size pages r) (page_for size pages r) (slot_for size pages r) ≡ Some r
added_at size pages r = by_cases (fits_here size pages r) refl
  where
    by_cases : (t : Bool) → fits_here size pages r ≡ t → record_in (pages_with size pages r) (page_for size pages r) (slot_for size pages r) ≡ Some r
    by_cases true e =
        let some = and_parts (ltb 0 (length pages)) (fit_log size (page_of pages (length pages - 1) ++ r ∷ [])) e in
        let lt : length pages - 1 < length pages = omega (arith, ltb-true 0 (length pages) some.0) in
        let at = length pages - 1 in
        let p = page_of pages at in
        ap (λ (t : Bool). record_in (cond t (set pages at (p ++ r ∷ [])) (pages ++ (r ∷ []) ∷ [])) (cond t at (length pages)) (cond t (length p) 0)) e
        ∙ ap (λ (q : List Rec). slice_get q (length p)) (get_or-set_same pages at (p ++ r ∷ []) [] lt) ∙ get_last p r
    by_cases false e =
        let at = length pages - 1 in
        let p = page_of pages at in
        ap (λ (t : Bool). record_in (cond t (set pages at (p ++ r ∷ [])) (pages ++ (r ∷ []) ∷ [])) (cond t at (length pages)) (cond t (length p) 0)) e
        ∙ ap (λ (q : List Rec). slice_get q 0) (get_or_at pages (r ∷ []) [] [] (length pages) refl)

-- no record lay there before
pub free_at : (size : ℕ) (pages : List (List Rec)) (r : Rec) → record_in pages (page_for size pages r) (slot_for size pages r) ≡ None
free_at size pages r = by_cases (fits_here size pages r) refl
  where
    at : ℕ
    at = length pages - 1

    by_cases : (t : Bool) → fits_here size pages r ≡ t → record_in pages (page_for size pages r) (slot_for size pages r) ≡ None
    by_cases true e = ap (λ (t : Bool). record_in pages (cond t at (length pages)) (cond t (length (page_of pages at)) 0)) e ∙ get_past (page_of pages at)
    by_cases false e =
        ap (λ (t : Bool). record_in pages (cond t at (length pages)) (cond t (length (page_of pages at)) 0)) e
        ∙ ap (λ (p : List Rec). slice_get p 0) (get_or_past pages (length pages) [] (omega arith))

-- there are no more pages than there may be, and some
pub length-pages_with : (size room : ℕ) (pages : List (List Rec)) (r : Rec) → length pages ≤ room → page_for size pages r < room → length (pages_with size pages r) ≤ room
length-pages_with size room pages r le lt = by_cases (fits_here size pages r) refl
  where
    at : ℕ
    at = length pages - 1

    by_cases : (t : Bool) → fits_here size pages r ≡ t → length (pages_with size pages r) ≤ room
    by_cases true e =
        let same : length (pages_with size pages r) ≡ length pages = ap (λ (t : Bool). length (cond t (set pages at (page_of pages at ++ r ∷ [])) (pages ++ (r ∷ []) ∷ []))) e ∙ length-set pages at (page_of pages at ++ r ∷ []) in
        omega (arith, same, le)
    by_cases false e =
        let more : length (pages_with size pages r) ≡ length pages + 1 = ap (λ (t : Bool). length (cond t (set pages at (page_of pages at ++ r ∷ [])) (pages ++ (r ∷ []) ∷ []))) e ∙ length_push pages (r ∷ []) in
        let next : page_for size pages r ≡ length pages = ap (λ (t : Bool). cond t at (length pages)) e in
        omega (arith, more, next, lt)
