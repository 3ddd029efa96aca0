-- Whether a record finds a place, in terms of the list of segments.
use Rattle.std.proofs.Common.{◌≡◌, ℕ, ◌+◌, ◌-◌, ◌<◌, ◌≤◌, ◌^◌, ◌⊎◌, Bool, true, false, cond, ltb, leb, ◌||◌, List, [], ◌∷◌, ◌++◌, length, Some, None, refl, sym, ap, ◌∙◌, inl, inr, arith}
use Rattle.std.specs.Prelude.{IsSome, sum_by}
use Rattle.std.proofs.lemmas.Bool.{and_parts, and_from, or_cases, or_left, or_right, ltb-true, leb-true, lt-ltb, le-leb, false≢true}
use Rattle.std.proofs.lemmas.List.{length_push}
use Rattle.std.proofs.lemmas.List.Sums.{sum_by-cons, sum_by_push}
use Rattle.record_pages.specs.Recs.{Rec, size, sizes, fit_log}
use Rattle.record_pages.specs.Sizes.{room, max_log_records}
use Rattle.klog_index.specs.declared.entry.Entry.{Entry}
use Rattle.klog.specs.Buffer.{page_of, fits_here, can_add}
use Rattle.klog.specs.Log.{LogState, filling_buffer}
use Rattle.klog.specs.Names.{name_of, flushed_number, filled_number}
use Rattle.klog.specs.Segments.{LogRecord, Segment, FlushingSegment, numbered, buffered_record, buffered_page, buffered_segment, segments_of}
use Rattle.klog.specs.Steps.{on_page}
use Rattle.klog.specs.AnswerLaws.{bytes_of, TakesOneMore, Takes, FullWhereNoneTakes}
use Rattle.klog.proofs.Numbered.{numbered-get, length-numbered}

-- a sum over things that are seen by number, if what is summed does not tell the number
sum-numbered : {X Y : Type 0} (f : ℕ → X → Y) (h : Y → ℕ) (g : X → ℕ) → ((j : ℕ) (x : X) → h (f j x) ≡ g x) → (n : ℕ) (xs : List X) → sum_by h (numbered f n xs) ≡ sum_by g xs
sum-numbered f h g same n [] = refl
sum-numbered f h g same n (x ∷ xs) =
    sum_by-cons h (f n x) (numbered f (n + 1) xs)
    ∙ ap (λ (m : ℕ). m + sum_by h (numbered f (n + 1) xs)) (same n x)
    ∙ ap (λ (m : ℕ). g x + m) (sum-numbered f h g same (n + 1) xs)
    ∙ sym (sum_by-cons g x xs)

-- ---- a page

-- records fit with one more if the page takes it
page_takes : (bytes : ℕ) (r : Rec) (rs : List Rec) (xs : List LogRecord) → sum_by bytes_of xs ≡ sizes rs → length xs ≡ length rs → fit_log bytes (rs ++ r ∷ []) ≡ true → TakesOneMore bytes r xs
page_takes bytes r rs xs sums count fits =
    let both = and_parts (leb (sizes (rs ++ r ∷ [])) (room bytes)) (leb (length (rs ++ r ∷ [])) max_log_records) fits in
    let small : sizes (rs ++ r ∷ []) ≤ room bytes = leb-true (sizes (rs ++ r ∷ [])) (room bytes) both.0 in
    let few : length (rs ++ r ∷ []) ≤ max_log_records = leb-true (length (rs ++ r ∷ [])) max_log_records both.1 in
    record { fits = omega (arith, small, sums, sum_by_push size rs r); few = omega (arith, few, count, length_push rs r) }

page_fits : (bytes : ℕ) (r : Rec) (rs : List Rec) (xs : List LogRecord) → sum_by bytes_of xs ≡ sizes rs → length xs ≡ length rs → TakesOneMore bytes r xs → fit_log bytes (rs ++ r ∷ []) ≡ true
page_fits bytes r rs xs sums count takes =
    and_from (leb (sizes (rs ++ r ∷ [])) (room bytes)) (leb (length (rs ++ r ∷ [])) max_log_records)
    (le-leb (sizes (rs ++ r ∷ [])) (room bytes) (omega (arith, takes.fits, sums, sum_by_push size rs r)))
    (le-leb (length (rs ++ r ∷ [])) max_log_records (omega (arith, takes.few, count, length_push rs r)))

-- ---- a segment in memory

pages_same : (k : LogState) (n : ℕ) (pages : List (List Rec)) → length (buffered_segment k n pages).pages ≡ length pages
pages_same k n pages = length-numbered (buffered_page k.entries (name_of k n)) 0 pages

-- the last page of a segment
abbrev last_page : Segment → List LogRecord
last_page s = on_page s.pages (length s.pages - 1)

last_same : (k : LogState) (n : ℕ) (pages : List (List Rec)) → last_page (buffered_segment k n pages) ≡ buffered_page k.entries (name_of k n) (length pages - 1) (page_of pages (length pages - 1))
last_same k n pages =
    let F : ℕ → List Rec → List LogRecord = buffered_page k.entries (name_of k n) in
    ap (λ (m : ℕ). on_page (numbered F 0 pages) (m - 1)) (pages_same k n pages)
    ∙ numbered-get F [] [] (λ j. refl) 0 pages (length pages - 1)
    ∙ ap (λ (m : ℕ). F m (page_of pages (length pages - 1))) (omega arith)

-- a page with its records, whatever is live of them
records_same : (es : List Entry) (name page : ℕ) (rs : List Rec) → length (buffered_page es name page rs) ≡ length rs
records_same es name page rs = length-numbered (λ slot r. buffered_record es (record { segment = name; page = page; slot = slot }) r) 0 rs

bytes_same : (es : List Entry) (name page : ℕ) (rs : List Rec) → sum_by bytes_of (buffered_page es name page rs) ≡ sizes rs
bytes_same es name page rs = sum-numbered (λ slot r. buffered_record es (record { segment = name; page = page; slot = slot }) r) bytes_of size (λ j x. refl) 0 rs

last_records : (k : LogState) (n : ℕ) (pages : List (List Rec)) → length (last_page (buffered_segment k n pages)) ≡ length (page_of pages (length pages - 1))
last_records k n pages = ap length (last_same k n pages) ∙ records_same k.entries (name_of k n) (length pages - 1) (page_of pages (length pages - 1))

last_bytes : (k : LogState) (n : ℕ) (pages : List (List Rec)) → sum_by bytes_of (last_page (buffered_segment k n pages)) ≡ sizes (page_of pages (length pages - 1))
last_bytes k n pages = ap (sum_by bytes_of) (last_same k n pages) ∙ bytes_same k.entries (name_of k n) (length pages - 1) (page_of pages (length pages - 1))

-- the record can be added to it if it takes it
takes_where : (bytes count : ℕ) (k : LogState) (r : Rec) (n : ℕ) (pages : List (List Rec)) → (fits_here bytes pages r || ltb (length pages) count) ≡ true → Takes bytes count r (buffered_segment k n pages)
takes_where bytes count k r n pages can =
    let same = pages_same k n pages in
    let last : List Rec = page_of pages (length pages - 1) in
    elim (or_cases (fits_here bytes pages r) (ltb (length pages) count) can) [
      | inl here ↦
          let both = and_parts (ltb 0 (length pages)) (fit_log bytes (last ++ r ∷ [])) here in
          let some : 0 < length pages = ltb-true 0 (length pages) both.0 in
          inl (omega (arith, some, same), page_takes bytes r last (last_page (buffered_segment k n pages)) (last_bytes k n pages) (last_records k n pages) both.1)
      | inr more ↦ let lt : length pages < count = ltb-true (length pages) count more in inr (omega (arith, lt, same))
    ]

can_where : (bytes count : ℕ) (k : LogState) (r : Rec) (n : ℕ) (pages : List (List Rec)) → Takes bytes count r (buffered_segment k n pages) → (fits_here bytes pages r || ltb (length pages) count) ≡ true
can_where bytes count k r n pages takes =
    let same = pages_same k n pages in
    let last : List Rec = page_of pages (length pages - 1) in
    elim takes [
      | inl here ↦
          let some = here.0 in
          or_left (fits_here bytes pages r) (ltb (length pages) count)
          (and_from (ltb 0 (length pages)) (fit_log bytes (last ++ r ∷ [])) (lt-ltb 0 (length pages) (omega (arith, some, same)))
          (page_fits bytes r last (last_page (buffered_segment k n pages)) (last_bytes k n pages) (last_records k n pages) here.1))
      | inr more ↦ or_right (fits_here bytes pages r) (ltb (length pages) count) (lt-ltb (length pages) count (omega (arith, more, same)))
    ]

-- ---- the whole list

flushed_where : (b : Bool) (f : FlushingSegment) → b ≡ true → IsSome (cond b (Some f) None)
flushed_where true f is = refl
flushed_where false f is = absurd (false≢true is)

where_flushed : (b : Bool) (f : FlushingSegment) → IsSome (cond b (Some f) None) → b ≡ true
where_flushed true f some = refl
where_flushed false f some = absurd cc

-- the test of a full log, by what its parts say
none_where : (can flushing : Bool) (top n : ℕ) (Place Flushed : Type 0) → (Place → can ≡ true) → (flushing ≡ true → Flushed)
    → cond can (ltb top n) (flushing || leb top n) ≡ true → ((¬ Place) × (Flushed ⊎ (top < n + 1))) ⊎ (top < n)
none_where true flushing top n Place Flushed can flushed full = inr (ltb-true top n full)
none_where false flushing top n Place Flushed can flushed full =
    inl ((λ place. false≢true (can place)), elim (or_cases flushing (leb top n) full) [ inl on ↦ inl (flushed on) | inr past ↦ inr (omega (arith, leb-true top n past)) ])

full_where : (can flushing : Bool) (top n : ℕ) (Place Flushed : Type 0) → (can ≡ true → Place) → (Flushed → flushing ≡ true)
    → ((¬ Place) × (Flushed ⊎ (top < n + 1))) ⊎ (top < n) → cond can (ltb top n) (flushing || leb top n) ≡ true
full_where true flushing top n Place Flushed place on none = elim none [ inl neither ↦ absurd (neither.0 (place refl)) | inr past ↦ lt-ltb top n past ]
full_where false flushing top n Place Flushed place on none = elim none [
  | inl neither ↦ elim neither.1 [
    | inl flushed ↦ or_left flushing (leb top n) (on flushed)
    | inr past ↦ or_right flushing (leb top n) (le-leb top n (omega (arith, past)))
  ]
  | inr past ↦ or_right flushing (leb top n) (le-leb top n (omega (arith, past)))
]

pub full_where_none_takes : FullWhereNoneTakes
full_where_none_takes bytes held k r =
    let can : Bool = can_add bytes (filling_buffer k) r in
    let f : FlushingSegment = record { segment = buffered_segment k (flushed_number k) k.flushing; done = k.done } in
    let filling : Segment = buffered_segment k (filled_number k) k.filling in (
      none_where can k.is_flushing (2 ^ 62) (filled_number k) (Takes bytes k.shape.segment_pages r filling) (IsSome (segments_of held k).flushing)
          (can_where bytes k.shape.segment_pages k r (filled_number k) k.filling) (flushed_where k.is_flushing f),
      full_where can k.is_flushing (2 ^ 62) (filled_number k) (Takes bytes k.shape.segment_pages r filling) (IsSome (segments_of held k).flushing)
          (takes_where bytes k.shape.segment_pages k r (filled_number k) k.filling) (where_flushed k.is_flushing f),
    )
