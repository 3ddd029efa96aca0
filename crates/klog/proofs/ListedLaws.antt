-- The live records of the list of segments are those of the log.
use Rattle.std.proofs.Common.{◌≡◌, ℕ, zero, suc, ◌+◌, ◌<◌, ◌≤◌, Bool, true, false, cond, eqb, ◌&&◌, List, [], ◌∷◌, ◌++◌, length, get_or, filter, map, Option, Some, None, All, slice_get, refl, sym, ap, subst, ◌∙◌, inl, inr, arith}
use Rattle.std.specs.Prelude.{find, AllPairs, reverse}
use Rattle.std.specs.List.{cons_option, flat_map, range_with_len}
use Rattle.std.specs.Option.{option_map}
use Rattle.std.proofs.lemmas.Bool.{cases_eq, eq-eqb, eqb-true, ne_eqb, and_parts, cond_both}
use Rattle.std.proofs.lemmas.List.{append-nil, append_assoc}
use Rattle.std.proofs.lemmas.List.Elements.{All-cons, All-nil, All-filter, filter-append, filter_passes}
use Rattle.std.proofs.lemmas.List.Kept.{AllPairs-filter}
use Rattle.std.proofs.lemmas.Option.{slice_get_within, get_or_from_slice_get}
use Rattle.std.proofs.lemmas.Grind.{flat_map-append}
use Rattle.record_pages.specs.Recs.{Rec}
use Rattle.klog_index.specs.declared.entry.Entry.{Entry}
use Rattle.klog_index.specs.declared.place.Place.{Place}
use Rattle.klog_index.specs.Entries.{is_at, is_on}
use Rattle.klog_index.proofs.public_laws.EntryLaws.{of_place}
use Rattle.klog_index.proofs.public_laws.RowLaws.{filter-both}
use Rattle.klog.specs.Buffer.{page_of, record_in}
use Rattle.klog.specs.Log.{LogState}
use Rattle.klog.specs.Names.{names, name_of, number_of, segment_of, flushed_number, filled_number}
use Rattle.klog.specs.Shown.{shown_on, live_on}
use Rattle.klog.specs.Keeps.{IsHeld, IsBehind, IsLog}
use Rattle.klog.specs.Segments.{LogRecord, Segment, numbered, live_record, live_page, stored_segment, buffered_record, buffered_page, buffered_segment, segments_of, flushed_ones, is_live, live_in, live_records}
use Rattle.klog.proofs.LiveLaws.{live_by}
use Rattle.klog.proofs.RingLaws.{number_again, name_again, number_from}
use Rattle.klog.proofs.BufferLaws.{page_within}
use Rattle.klog.proofs.ShownLaws.{shown_filled, shown_flushed}
use Rattle.klog.proofs.Numbered.{group, groups, grouped}
use Rattle.klog.proofs.PlaceLaws.{IsOne, found-is, live-of-none, live-of-one, All-live, AllPairs-live, filter-same}

-- the place of a page and slot of the segment with this number
abbrev pub place_at : LogState → ℕ → ℕ → ℕ → Place
place_at k n page slot = record { segment = name_of k n; page = page; slot = slot }

-- ---- one entry at a place

behind_self : (k : LogState) (p : Place) → IsBehind k p p → ⊥
behind_self k p h = elim h [
  | inl less ↦ omega (arith, less)
  | inr on ↦ elim on.1 [ inl less ↦ omega (arith, less) | inr at ↦ omega (arith, at.1) ]
]

pub one_at : (k : LogState) (place : Place) → IsLog k → IsOne (is_at place) k.entries
one_at k place log = λ i j d lt lj a b.
    let p : (get_or k.entries i d).place ≡ place = of_place place (get_or k.entries i d) a in
    let q : (get_or k.entries j d).place ≡ place = of_place place (get_or k.entries j d) b in
    behind_self k place (subst (λ (x : Place). IsBehind k x place) p (subst (λ (y : Place). IsBehind k (get_or k.entries i d).place y) q (log.ordered i j d lt lj)))

-- ---- names and numbers

-- the numbers that are held have names of their own
pub filled_near : (k : LogState) → IsLog k → filled_number k < k.first + names k
filled_near k log = cond_both k.is_flushing (flushed_number k + 1) (flushed_number k) (λ m. m < k.first + names k) (λ _. omega (arith, log.stored_fits)) (λ _. omega (arith, log.stored_fits))

pub name_test : (k : LogState) (e : Entry) (n : ℕ) → e.place.segment < names k → k.first ≤ n → n < k.first + names k → eqb e.place.segment (name_of k n) ≡ eqb (segment_of k e) n
name_test k e n named from to = elim (cases_eq (segment_of k e) n) [
  | inl at ↦ eq-eqb e.place.segment (name_of k n) (sym (name_again k e.place.segment named) ∙ ap (name_of k) at) ∙ sym (eq-eqb (segment_of k e) n at)
  | inr away ↦ ne_eqb e.place.segment (name_of k n) (λ same. away (ap (number_of k) same ∙ number_again k n from to)) ∙ sym (ne_eqb (segment_of k e) n away)
]

-- ---- a page in a buffer

-- the entries of the segment with this number show what lies on these pages
abbrev pub LieOn : (ℕ → Option (List ℕ)) → LogState → ℕ → List (List Rec) → Type 0
LieOn held k n pages = (e : Entry) → segment_of k e ≡ n → shown_on held k e ≡ record_in pages e.place.page e.place.slot

-- each live record is what its entry shows
pub live_shows : (shows : Entry → Option Rec) (es : List Entry) → All (λ x. shows x.0 ≡ Some x.1) (live_by shows es)
live_shows shows [] = All-nil (λ x. shows x.0 ≡ Some x.1)
live_shows shows (e ∷ es) = step (shows e) refl (live_shows shows es)
  where
    step : (o : Option Rec) → shows e ≡ o → All (λ x. shows x.0 ≡ Some x.1) (live_by shows es) → All (λ x. shows x.0 ≡ Some x.1) (live_by shows (e ∷ es))
    step (Some r) at rest = subst (λ (o : Option Rec). All (λ x. shows x.0 ≡ Some x.1) (cons_option (option_map (λ r. (e, r)) o) (live_by shows es))) (sym at) (All-cons (λ x. shows x.0 ≡ Some x.1) (e, r) (live_by shows es) at rest)
    step None at rest = subst (λ (o : Option Rec). All (λ x. shows x.0 ≡ Some x.1) (cons_option (option_map (λ r. (e, r)) o) (live_by shows es))) (sym at) rest

-- an entry that is found at a place of a buffer shows the record there
pub found_shows : (held : ℕ → Option (List ℕ)) (k : LogState) (n : ℕ) (pages : List (List Rec)) (page slot : ℕ) (r : Rec) (e : Entry) → k.first ≤ n → n < k.first + names k → LieOn held k n pages → record_in pages page slot ≡ Some r
    → is_at (place_at k n page slot) e ≡ true → shown_on held k e ≡ Some r
found_shows held k n pages page slot r e from to lie there at =
    let p : e.place ≡ place_at k n page slot = of_place (place_at k n page slot) e at in
    let own : segment_of k e ≡ n = ap (λ (x : Place). number_of k x.segment) p ∙ number_again k n from to in
    lie e own ∙ ap (λ (x : Place). record_in pages x.page x.slot) p ∙ there

-- the live records of a page, by their slots
abbrev pub on_page_by : (ℕ → Option (List ℕ)) → LogState → ℕ → ℕ → List (Entry × Rec)
on_page_by held k n page = filter (λ x. is_on (name_of k n) page x.0) (live_on held k)

one_slot : (held : ℕ → Option (List ℕ)) (k : LogState) (n : ℕ) (pages : List (List Rec)) (page slot : ℕ) (r : Rec) → IsLog k → k.first ≤ n → n < k.first + names k → LieOn held k n pages → record_in pages page slot ≡ Some r
    → filter is_live (buffered_record k.entries (place_at k n page slot) r ∷ []) ≡ group live_record (λ x. x.0.place.slot) (on_page_by held k n page) slot
one_slot held k n pages page slot r log from to lie there = by_found (find (is_at place) k.entries) refl
  where
    place : Place
    place = place_at k n page slot

    both : group live_record (λ x. x.0.place.slot) (on_page_by held k n page) slot ≡ map live_record (reverse (filter (λ x. is_at place x.0) (live_on held k)))
    both = ap (λ (xs : List (Entry × Rec)). map live_record (reverse xs)) (filter-both (λ (x : Entry × Rec). is_on (name_of k n) page x.0) (λ x. eqb x.0.place.slot slot) (live_on held k))

    made : Option ℕ → LogRecord
    made o = record { slot = slot; key = r.key; value = r.value; prediction = o }

    by_found : (o : Option Entry) → find (is_at place) k.entries ≡ o → filter is_live (buffered_record k.entries place r ∷ []) ≡ group live_record (λ x. x.0.place.slot) (on_page_by held k n page) slot
    by_found None none =
        ap (λ (o : Option Entry). filter is_live (made (option_map (λ (e : Entry). e.prediction) o) ∷ [])) none
        ∙ sym (both ∙ ap (λ (xs : List (Entry × Rec)). map live_record (reverse xs)) (live-of-none (is_at place) (shown_on held k) k.entries none))
    by_found (Some e) found =
        let is = (found-is (is_at place) k.entries e found).1 in
        let at : e.place ≡ place = of_place place e is in
        let shows : shown_on held k e ≡ Some r = found_shows held k n pages page slot r e from to lie there is in
        ap (λ (o : Option Entry). filter is_live (made (option_map (λ (e : Entry). e.prediction) o) ∷ [])) found
        ∙ ap (λ (s : ℕ). let x : LogRecord = record { slot = s; key = r.key; value = r.value; prediction = Some e.prediction } in x ∷ []) (sym (ap (λ (p : Place). p.slot) at))
        ∙ sym (both ∙ ap (λ (xs : List (Entry × Rec)). map live_record (reverse xs)) (live-of-one (is_at place) (shown_on held k) k.entries e r (one_at k place log) found shows))

slots : (held : ℕ → Option (List ℕ)) (k : LogState) (n : ℕ) (pages : List (List Rec)) (page : ℕ) → IsLog k → k.first ≤ n → n < k.first + names k → LieOn held k n pages
    → (m : ℕ) (rs : List Rec) → ((j : ℕ) (x : Rec) → slice_get rs j ≡ Some x → record_in pages page (m + j) ≡ Some x)
    → filter is_live (numbered (λ slot r. buffered_record k.entries (place_at k n page slot) r) m rs) ≡ groups live_record (λ x. x.0.place.slot) (on_page_by held k n page) m (length rs)
slots held k n pages page log from to lie m [] there = refl
slots held k n pages page log from to lie m (r ∷ rs) there =
    let F : ℕ → Rec → LogRecord = λ slot r. buffered_record k.entries (place_at k n page slot) r in
    let here : record_in pages page m ≡ Some r = subst (λ (j : ℕ). record_in pages page j ≡ Some r) (omega arith) (there 0 r refl) in
    let rest = slots held k n pages page log from to lie (m + 1) rs (λ j x at. subst (λ (i : ℕ). record_in pages page i ≡ Some x) (omega arith) (there (suc j) x at)) in
    filter-append is_live (F m r ∷ []) (numbered F (m + 1) rs)
    ∙ ap (λ (ys : List LogRecord). ys ++ filter is_live (numbered F (m + 1) rs)) (one_slot held k n pages page m r log from to lie here)
    ∙ ap (λ (ys : List LogRecord). group live_record (λ x. x.0.place.slot) (on_page_by held k n page) m ++ ys) rest

-- what comes later on the same page has the greater slot
slot_falls : (k : LogState) (a b : Place) → IsBehind k a b → a.segment ≡ b.segment → a.page ≡ b.page → b.slot ≤ a.slot
slot_falls k a b h same page = elim h [
  | inl less ↦ let e : number_of k a.segment ≡ number_of k b.segment = ap (number_of k) same in absurd (omega (arith, less, e))
  | inr on ↦ elim on.1 [ inl less ↦ absurd (omega (arith, less, page)) | inr at ↦ omega (arith, at.1) ]
]

page_falls : (k : LogState) (a b : Place) → IsBehind k a b → number_of k a.segment ≡ number_of k b.segment → b.page ≤ a.page
page_falls k a b h same = elim h [
  | inl less ↦ absurd (omega (arith, less, same))
  | inr on ↦ elim on.1 [ inl less ↦ omega (arith, less) | inr at ↦ omega (arith, at.0) ]
]

number_falls : (k : LogState) (a b : Place) → IsBehind k a b → number_of k b.segment ≤ number_of k a.segment
number_falls k a b h = elim h [ inl less ↦ omega (arith, less) | inr on ↦ omega (arith, on.0) ]

-- the live records stand in order
pub live_ordered : (held : ℕ → Option (List ℕ)) (k : LogState) → IsLog k → AllPairs (λ x y. IsBehind k x.0.place y.0.place) (live_on held k)
live_ordered held k log = AllPairs-live (λ a b. IsBehind k a.place b.place) (shown_on held k) k.entries log.ordered

pub live_held : (held : ℕ → Option (List ℕ)) (k : LogState) → IsLog k → All (λ x. IsHeld k x.0) (live_on held k)
live_held held k log = All-live (IsHeld k) (shown_on held k) k.entries log.held

-- the live records of a page in a buffer are those of the page
pub page_listed : (held : ℕ → Option (List ℕ)) (k : LogState) (n : ℕ) (pages : List (List Rec)) (page : ℕ) → IsLog k → k.first ≤ n → n < k.first + names k → LieOn held k n pages
    → filter is_live (buffered_page k.entries (name_of k n) page (page_of pages page)) ≡ live_page (live_on held k) (name_of k n) page
page_listed held k n pages page log from to lie =
    slots held k n pages page log from to lie 0 (page_of pages page) (λ j x at. subst (λ (i : ℕ). record_in pages page i ≡ Some x) (omega arith) at)
    ∙ grouped live_record (λ x. x.0.place.slot) ys 0 (length (page_of pages page)) (λ i d lt. omega arith) within falls
  where
    ys : List (Entry × Rec)
    ys = on_page_by held k n page

    on : All (λ x. is_on (name_of k n) page x.0 ≡ true) ys
    on = filter_passes (λ x. is_on (name_of k n) page x.0) (live_on held k)

    on_parts : (e : Entry) → is_on (name_of k n) page e ≡ true → (e.place.segment ≡ name_of k n) × (e.place.page ≡ page)
    on_parts e is = let both = and_parts (eqb e.place.segment (name_of k n)) (eqb e.place.page page) is in (eqb-true e.place.segment (name_of k n) both.0, eqb-true e.place.page page both.1)

    shows : All (λ x. shown_on held k x.0 ≡ Some x.1) ys
    shows = All-filter (λ x. is_on (name_of k n) page x.0) (λ x. shown_on held k x.0 ≡ Some x.1) (live_on held k) (live_shows (shown_on held k) k.entries)

    within : All (λ x. x.0.place.slot < 0 + length (page_of pages page)) ys
    within i d lt =
        let x : Entry × Rec = get_or ys i d in
        let its = on_parts x.0 (on i d lt) in
        let own : segment_of k x.0 ≡ n = ap (number_of k) its.0 ∙ number_again k n from to in
        let there : record_in pages page x.0.place.slot ≡ Some x.1 = ap (λ (p : ℕ). record_in pages p x.0.place.slot) (sym its.1) ∙ sym (lie x.0 own) ∙ shows i d lt in
        omega (arith, slice_get_within (page_of pages page) x.0.place.slot x.1 there)

    falls : AllPairs (λ x y. y.0.place.slot ≤ x.0.place.slot) ys
    falls i j d lt lj =
        let x : Entry × Rec = get_or ys i d in
        let y : Entry × Rec = get_or ys j d in
        let a = on_parts x.0 (on i d (omega (arith, lt, lj))) in
        let b = on_parts y.0 (on j d lj) in
        slot_falls k x.0.place y.0.place (AllPairs-filter (λ x y. IsBehind k x.0.place y.0.place) (λ x. is_on (name_of k n) page x.0) (live_on held k) (live_ordered held k log) i j d lt lj) (a.0 ∙ sym b.0) (a.1 ∙ sym b.1)

-- ---- the pages of a segment

-- the live records of a segment
abbrev pub of_segment : (ℕ → Option (List ℕ)) → LogState → ℕ → List LogRecord
of_segment held k n = group live_record (λ x. segment_of k x.0) (live_on held k) n

flat-same : {X Y : Type 0} (f g : X → List Y) (xs : List X) → ((x : X) → f x ≡ g x) → flat_map f xs ≡ flat_map g xs
flat-same f g [] same = refl
flat-same f g (x ∷ xs) same = ap (λ (ys : List _). ys ++ flat_map f xs) (same x) ∙ ap (λ (ys : List _). g x ++ ys) (flat-same f g xs same)

flat-map : {X Y Z : Type 0} (f : X → Y) (g : Y → List Z) (xs : List X) → flat_map g (map f xs) ≡ flat_map (λ x. g (f x)) xs
flat-map f g [] = refl
flat-map f g (x ∷ xs) = ap (λ (ys : List _). g (f x) ++ ys) (flat-map f g xs)

-- this many pages, one after the other, if none of its live records lies on a later one
pages_tell : (held : ℕ → Option (List ℕ)) (k : LogState) (n count : ℕ) → IsLog k → k.first ≤ n → n < k.first + names k → All (λ x. segment_of k x.0 ≡ n → x.0.place.page < count) (live_on held k)
    → flat_map (live_page (live_on held k) (name_of k n)) (range_with_len 0 count) ≡ of_segment held k n
pages_tell held k n count log from to below =
    flat-same (live_page live (name_of k n)) (group live_record (λ x. x.0.place.page) ys) (range_with_len 0 count) same
    ∙ grouped live_record (λ x. x.0.place.page) ys 0 count (λ i d lt. omega arith) within falls
  where
    live : List (Entry × Rec)
    live = live_on held k

    ys : List (Entry × Rec)
    ys = filter (λ x. eqb (segment_of k x.0) n) live

    same : (page : ℕ) → live_page live (name_of k n) page ≡ group live_record (λ x. x.0.place.page) ys page
    same page =
        ap (λ (xs : List (Entry × Rec)). map live_record (reverse xs))
        (filter-same (λ x. is_on (name_of k n) page x.0) (λ x. eqb (segment_of k x.0) n && eqb x.0.place.page page) live
        (λ i d lt. ap (λ (b : Bool). b && eqb (get_or live i d).0.place.page page) (name_test k (get_or live i d).0 n (live_held held k log i d lt).name from to))
        ∙ sym (filter-both (λ (x : Entry × Rec). eqb (segment_of k x.0) n) (λ x. eqb x.0.place.page page) live))

    its : All (λ x. segment_of k x.0 ≡ n) ys
    its i d lt = eqb-true (segment_of k (get_or ys i d).0) n (filter_passes (λ (x : Entry × Rec). eqb (segment_of k x.0) n) live i d lt)

    within : All (λ x. x.0.place.page < 0 + count) ys
    within i d lt = omega (arith, All-filter (λ x. eqb (segment_of k x.0) n) (λ x. segment_of k x.0 ≡ n → x.0.place.page < count) live below i d lt (its i d lt))

    falls : AllPairs (λ x y. y.0.place.page ≤ x.0.place.page) ys
    falls i j d lt lj =
        page_falls k (get_or ys i d).0.place (get_or ys j d).0.place (AllPairs-filter (λ x y. IsBehind k x.0.place y.0.place) (λ x. eqb (segment_of k x.0) n) live (live_ordered held k log) i j d lt lj)
        (its i d (omega (arith, lt, lj)) ∙ sym (its j d lj))

all_live : (xs : List (Entry × Rec)) → filter is_live (map live_record xs) ≡ map live_record xs
all_live [] = refl
all_live (x ∷ xs) = ap (λ (ys : List LogRecord). live_record x ∷ ys) (all_live xs)

-- a segment on the device
stored_tells : (held : ℕ → Option (List ℕ)) (k : LogState) (n : ℕ) → IsLog k → k.first ≤ n → n < k.first + names k → live_in (stored_segment held k n) ≡ of_segment held k n
stored_tells held k n log from to =
    ap (filter is_live) (flat-map (live_page (live_on held k) (name_of k n)) (λ page. page) (range_with_len 0 k.shape.segment_pages)
    ∙ pages_tell held k n k.shape.segment_pages log from to (λ i d lt own. (live_held held k log i d lt).page))
    ∙ all_live (reverse (filter (λ x. eqb (segment_of k x.0) n) (live_on held k)))

-- a segment in a buffer
pages_marked : (held : ℕ → Option (List ℕ)) (k : LogState) (n : ℕ) (pages : List (List Rec)) → IsLog k → k.first ≤ n → n < k.first + names k → LieOn held k n pages
    → (m : ℕ) (ps : List (List Rec)) → ((j : ℕ) (rs : List Rec) → slice_get ps j ≡ Some rs → page_of pages (m + j) ≡ rs)
    → filter is_live (flat_map (λ page. page) (numbered (buffered_page k.entries (name_of k n)) m ps)) ≡ flat_map (live_page (live_on held k) (name_of k n)) (range_with_len m (length ps))
pages_marked held k n pages log from to lie m [] there = refl
pages_marked held k n pages log from to lie m (rs ∷ ps) there =
    let F = buffered_page k.entries (name_of k n) in
    let here : page_of pages m ≡ rs = subst (λ (j : ℕ). page_of pages j ≡ rs) (omega arith) (there 0 rs refl) in
    let rest = pages_marked held k n pages log from to lie (m + 1) ps (λ j x at. subst (λ (i : ℕ). page_of pages i ≡ x) (omega arith) (there (suc j) x at)) in
    filter-append is_live (F m rs) (flat_map (λ page. page) (numbered F (m + 1) ps))
    ∙ ap (λ (ys : List LogRecord). ys ++ filter is_live (flat_map (λ page. page) (numbered F (m + 1) ps)))
    (ap (λ (xs : List Rec). filter is_live (F m xs)) (sym here) ∙ page_listed held k n pages m log from to lie)
    ∙ ap (λ (ys : List LogRecord). live_page (live_on held k) (name_of k n) m ++ ys) rest

buffered_tells : (held : ℕ → Option (List ℕ)) (k : LogState) (n : ℕ) (pages : List (List Rec)) → IsLog k → k.first ≤ n → n < k.first + names k → LieOn held k n pages → live_in (buffered_segment k n pages) ≡ of_segment held k n
buffered_tells held k n pages log from to lie =
    pages_marked held k n pages log from to lie 0 pages (λ j rs at. subst (λ (i : ℕ). page_of pages i ≡ rs) (omega arith) (get_or_from_slice_get pages j rs [] at))
    ∙ pages_tell held k n (length pages) log from to
    (λ i d lt own.
    let x : Entry × Rec = get_or (live_on held k) i d in
    page_within pages x.0.place.page x.0.place.slot x.1 (sym (lie x.0 own) ∙ live_shows (shown_on held k) k.entries i d lt))

-- ---- all segments

pub filled_lie : (held : ℕ → Option (List ℕ)) (k : LogState) → LieOn held k (filled_number k) k.filling
filled_lie held k e at = shown_filled _ k e at

pub flushed_lie : (held : ℕ → Option (List ℕ)) (k : LogState) → k.is_flushing ≡ true → LieOn held k (flushed_number k) k.flushing
flushed_lie held k is e at =
    let up : filled_number k ≡ flushed_number k + 1 = ap (λ (t : Bool). cond t (flushed_number k + 1) (flushed_number k)) is in
    shown_flushed _ k e (λ same. omega (arith, same, at, up)) is at

groups_more : (held : ℕ → Option (List ℕ)) (k : LogState) (a n : ℕ) → flat_map (of_segment held k) (range_with_len a (suc n)) ≡ flat_map (of_segment held k) (range_with_len a n) ++ of_segment held k (a + n)
groups_more held k a zero = append-nil (of_segment held k a) ∙ ap (of_segment held k) (omega arith)
groups_more held k a (suc n) =
    ap (λ (ys : List LogRecord). of_segment held k a ++ ys) (groups_more held k (a + 1) n)
    ∙ sym (append_assoc (of_segment held k a) (flat_map (of_segment held k) (range_with_len (a + 1) n)) (of_segment held k (a + 1 + n)))
    ∙ ap (λ (m : ℕ). (of_segment held k a ++ flat_map (of_segment held k) (range_with_len (a + 1) n)) ++ of_segment held k m) (omega arith)

stored_all : (held : ℕ → Option (List ℕ)) (k : LogState) → IsLog k → (a n : ℕ) → k.first ≤ a → a + n ≤ k.first + k.stored → flat_map live_in (map (stored_segment held k) (range_with_len a n)) ≡ flat_map (of_segment held k) (range_with_len a n)
stored_all held k log a zero from to = refl
stored_all held k log a (suc n) from to =
    ap (λ (ys : List LogRecord). ys ++ flat_map live_in (map (stored_segment held k) (range_with_len (a + 1) n))) (stored_tells held k a log from (omega (arith, to, log.stored_fits)))
    ∙ ap (λ (ys : List LogRecord). of_segment held k a ++ ys) (stored_all held k log (a + 1) n (omega (arith, from)) (omega (arith, to)))

-- the live records of the list are those of the log, newest last
pub tells_live : (held : ℕ → Option (List ℕ)) (k : LogState) → IsLog k → live_records (segments_of held k) ≡ map live_record (reverse (live_on held k))
tells_live held k log = by_flushing k.is_flushing refl
  where
    stored : List Segment
    stored = map (stored_segment held k) (range_with_len k.first k.stored)

    filling : Segment
    filling = buffered_segment k (filled_number k) k.filling

    in_filling : live_in filling ++ [] ≡ of_segment held k (filled_number k)
    in_filling =
        append-nil (live_in filling)
        ∙ buffered_tells held k (filled_number k) k.filling log (cond_both k.is_flushing (flushed_number k + 1) (flushed_number k) (λ m. k.first ≤ m) (λ _. omega arith) (λ _. omega arith)) (filled_near k log) (filled_lie held k)

    in_stored : flat_map live_in stored ≡ flat_map (of_segment held k) (range_with_len k.first k.stored)
    in_stored = stored_all held k log k.first k.stored (omega arith) (omega arith)

    all : (count : ℕ) → filled_number k < k.first + count → flat_map (of_segment held k) (range_with_len k.first count) ≡ map live_record (reverse (live_on held k))
    all count to =
        grouped live_record (λ x. segment_of k x.0) (live_on held k) k.first count
        (λ i d lt. number_from k (get_or (live_on held k) i d).0.place.segment)
        (λ i d lt. omega (arith, (live_held held k log i d lt).segment, to))
        (λ i j d lt lj. number_falls k (get_or (live_on held k) i d).0.place (get_or (live_on held k) j d).0.place (live_ordered held k log i j d lt lj))

    by_flushing : (b : Bool) → k.is_flushing ≡ b → live_records (segments_of held k) ≡ map live_record (reverse (live_on held k))
    by_flushing false is =
        let fills : filled_number k ≡ flushed_number k = ap (λ (t : Bool). cond t (flushed_number k + 1) (flushed_number k)) is in
        ap (λ (t : Bool). flat_map live_in (stored ++ (flushed_ones (cond t (Some (record { segment = buffered_segment k (flushed_number k) k.flushing; done = k.done })) None) ++ filling ∷ []))) is
        ∙ flat_map-append live_in stored (filling ∷ [])
        ∙ ap (λ (ys : List LogRecord). ys ++ (live_in filling ++ [])) in_stored
        ∙ ap (λ (ys : List LogRecord). flat_map (of_segment held k) (range_with_len k.first k.stored) ++ ys) (in_filling ∙ ap (of_segment held k) fills)
        ∙ sym (groups_more held k k.first k.stored)
        ∙ all (suc k.stored) (omega (arith, fills))
    by_flushing true is =
        let fills : filled_number k ≡ flushed_number k + 1 = ap (λ (t : Bool). cond t (flushed_number k + 1) (flushed_number k)) is in
        let flushed : Segment = buffered_segment k (flushed_number k) k.flushing in
        ap (λ (t : Bool). flat_map live_in (stored ++ (flushed_ones (cond t (Some (record { segment = flushed; done = k.done })) None) ++ filling ∷ []))) is
        ∙ flat_map-append live_in stored (flushed ∷ filling ∷ [])
        ∙ ap (λ (ys : List LogRecord). ys ++ (live_in flushed ++ (live_in filling ++ []))) in_stored
        ∙ ap (λ (ys : List LogRecord). flat_map (of_segment held k) (range_with_len k.first k.stored) ++ (ys ++ (live_in filling ++ [])))
        (buffered_tells held k (flushed_number k) k.flushing log (omega arith) (omega (arith, log.stored_fits)) (flushed_lie held k is))
        ∙ ap (λ (ys : List LogRecord). flat_map (of_segment held k) (range_with_len k.first k.stored) ++ (of_segment held k (flushed_number k) ++ ys)) (in_filling ∙ ap (of_segment held k) (fills ∙ omega arith))
        ∙ sym (append_assoc (flat_map (of_segment held k) (range_with_len k.first k.stored)) (of_segment held k (flushed_number k)) (of_segment held k (k.first + suc k.stored)))
        ∙ ap (λ (ys : List LogRecord). ys ++ of_segment held k (k.first + suc k.stored)) (sym (groups_more held k k.first k.stored))
        ∙ sym (groups_more held k k.first (suc k.stored))
        ∙ all (suc (suc k.stored)) (omega (arith, fills))
