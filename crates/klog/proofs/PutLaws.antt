-- The list of segments after a record was added: it stands last.
use Rattle.std.proofs.Common.{◌≡◌, ◌≢◌, ℕ, ◌+◌, ◌-◌, ◌<◌, ◌≤◌, ◌^◌, Bool, true, false, cond, eqb, ◌&&◌, ◌||◌, List, [], ◌∷◌, ◌++◌, length, get_or, set, filter, map, reverse, Option, Some, None, slice_get, refl, sym, ap, subst, ◌∙◌, inl, inr, arith}
use Rattle.std.specs.Prelude.{nat_lt, nat_le}
use Rattle.std.specs.Option.{option_map}
use Rattle.std.proofs.lemmas.Bool.{cases_Bool, cond_both, ne_eqb, eq-eqb, and_from, ltb-false, leb-false}
use Rattle.std.proofs.lemmas.Option.{get_or_from_slice_get}
use Rattle.record_pages.specs.Recs.{Rec}
use Rattle.klog_index.specs.declared.entry.Entry.{Entry}
use Rattle.klog_index.specs.declared.place.Place.{Place}
use Rattle.klog_index.specs.Entries.{is_at, is_place}
use Rattle.klog_index.proofs.public_laws.EntryLaws.{of_place}
use Rattle.klog.specs.Buffer.{page_of, record_in, pages_with, fits_here, can_add, page_for, slot_for}
use Rattle.klog.specs.Log.{LogState, filling_buffer}
use Rattle.klog.specs.Names.{name_of, number_of, flushed_number, filled_number}
use Rattle.klog.specs.Shown.{live_on}
use Rattle.klog.specs.Keeps.{IsLog}
use Rattle.klog.specs.Append.{put_on, entry_for, sealed, taker, appended}
use Rattle.klog.specs.Segments.{LogRecord, Segment, FlushingSegment, Segments, numbered, live_record, live_page, stored_segment, buffered_record, buffered_page, buffered_segment, segments_of}
use Rattle.klog.specs.Steps.{on_page, now_flushing, with_last}
use Rattle.klog.specs.SegmentLaws.{entering_at, AppendsPutLast}
use Rattle.klog.proofs.BufferLaws.{free_at}
use Rattle.klog.proofs.TakenLaws.{stays_sealed}
use Rattle.klog.proofs.RingLaws.{number_again}
use Rattle.klog.proofs.ShownLaws.{live_put}
use Rattle.klog.proofs.Numbered.{numbered-same, numbered-get, numbered-set, numbered-append, length-numbered, range-same}
use Rattle.klog.proofs.PlaceLaws.{find-here, find-later}
use Rattle.klog.proofs.ListedLaws.{place_at, filled_near}
use Rattle.klog.proofs.KilledLaws.{same_segments}
use Rattle.klog.proofs.StepLaws.{stored_by, sealing_flushes}

-- an entry elsewhere is not at a place
not_at : (place : Place) (e : Entry) → e.place ≢ place → is_at place e ≡ false
not_at place e away = elim (cases_Bool (is_at place e)) [ inl is ↦ absurd (away (of_place place e is)) | inr is ↦ is ]

at_itself : (p : Place) → is_place p p ≡ true
at_itself p = and_from _ _ (and_from _ _ (eq-eqb p.segment p.segment refl) (eq-eqb p.page p.page refl)) (eq-eqb p.slot p.slot refl)

-- a record elsewhere is as it was
record_elsewhere : (e : Entry) (es : List Entry) (place : Place) (r : Rec) → e.place ≢ place → buffered_record (e ∷ es) place r ≡ buffered_record es place r
record_elsewhere e es place r away =
    ap (λ (o : Option Entry). let x : LogRecord = record { slot = place.slot; key = r.key; value = r.value; prediction = option_map (λ (e : Entry). e.prediction) o } in x)
    (find-later (is_at place) e es (not_at place e away))

-- a page elsewhere is as it was
page_elsewhere : (e : Entry) (es : List Entry) (name page : ℕ) (rs : List Rec) → ((slot : ℕ) (r : Rec) → slice_get rs slot ≡ Some r → e.place ≢ record { segment = name; page = page; slot = slot })
    → buffered_page (e ∷ es) name page rs ≡ buffered_page es name page rs
page_elsewhere e es name page rs away =
    numbered-same (λ slot r. buffered_record (e ∷ es) (record { segment = name; page = page; slot = slot }) r) (λ slot r. buffered_record es (record { segment = name; page = page; slot = slot }) r) 0 rs
    (λ j r at. record_elsewhere e es (record { segment = name; page = page; slot = 0 + j }) r (λ same. away j r at (same ∙ ap (λ (s : ℕ). let p : Place = record { segment = name; page = page; slot = s } in p) (omega arith))))

pages_elsewhere : (e : Entry) (es : List Entry) (name : ℕ) (pages : List (List Rec)) → ((page slot : ℕ) (r : Rec) → record_in pages page slot ≡ Some r → e.place ≢ record { segment = name; page = page; slot = slot })
    → numbered (buffered_page (e ∷ es) name) 0 pages ≡ numbered (buffered_page es name) 0 pages
pages_elsewhere e es name pages away =
    numbered-same (buffered_page (e ∷ es) name) (buffered_page es name) 0 pages
    (λ j rs at. page_elsewhere e es name (0 + j) rs (λ slot r there. away (0 + j) slot r
    (ap (λ (xs : List Rec). slice_get xs slot) (ap (λ (m : ℕ). page_of pages m) (omega arith) ∙ get_or_from_slice_get pages j rs [] at) ∙ there)))

module _ (bytes : ℕ) (held : ℕ → Option (List ℕ)) (k : LogState) (r : Rec) (log : IsLog k) where
  abbrev its : Entry
  its = entry_for bytes k r

  abbrev put : LogState
  put = put_on bytes k r

  -- it lies in no other segment
  other_name : (n : ℕ) → k.first ≤ n → n < filled_number k → its.place.segment ≢ name_of k n
  other_name n from to same =
      let near = filled_near k log in
      let a : number_of k (name_of k (filled_number k)) ≡ filled_number k = number_again k (filled_number k) (omega (arith, from, to)) near in
      let b : number_of k (name_of k n) ≡ n = number_again k n from (omega (arith, to, near)) in
      let e : filled_number k ≡ n = sym a ∙ ap (number_of k) same ∙ b in
      omega (arith, e, to)

  stored : (n : ℕ) → k.first ≤ n → n < filled_number k → stored_segment held put n ≡ stored_segment held k n
  stored n from to =
      ap (λ (live : List (Entry × Rec)). stored_by live k n) (live_put bytes held k r log)
      ∙ ap (λ (pages : List (List LogRecord)). let s : Segment = record { number = n; pages = pages } in s)
      (range-same (live_page ((its, r) ∷ live_on held k) (name_of k n)) (live_page (live_on held k) (name_of k n)) 0 k.shape.segment_pages (λ page a b. one page))
    where
      one : (page : ℕ) → live_page ((its, r) ∷ live_on held k) (name_of k n) page ≡ live_page (live_on held k) (name_of k n) page
      one page =
          let rest = filter (λ (x : Entry × Rec). eqb x.0.place.segment (name_of k n) && eqb x.0.place.page page) (live_on held k) in
          ap (λ (b : Bool). map live_record (reverse (cond (b && eqb its.place.page page) ((its, r) ∷ rest) rest))) (ne_eqb its.place.segment (name_of k n) (other_name n from to))

  flushed : flushed_number k < filled_number k → buffered_segment put (flushed_number k) k.flushing ≡ buffered_segment k (flushed_number k) k.flushing
  flushed to =
      ap (λ (pages : List (List LogRecord)). let s : Segment = record { number = flushed_number k; pages = pages } in s)
      (pages_elsewhere its k.entries (name_of k (flushed_number k)) k.flushing (λ page slot x at same. other_name (flushed_number k) (omega arith) to (ap (λ (p : Place). p.segment) same)))

  name : ℕ
  name = name_of k (filled_number k)

  -- what stood in the segment that is filled is as it was
  before : numbered (buffered_page (entry_for bytes k r ∷ k.entries) (name_of k (filled_number k))) 0 k.filling ≡ numbered (buffered_page k.entries (name_of k (filled_number k))) 0 k.filling
  before = pages_elsewhere its k.entries (name_of k (filled_number k)) k.filling (λ page slot x at same.
      let there : record_in k.filling (page_for bytes k.filling r) (slot_for bytes k.filling r) ≡ Some x = ap (λ (p : Place). record_in k.filling p.page p.slot) same ∙ at in
      let none : Some x ≡ None = sym there ∙ free_at bytes k.filling r in
      absurd cc)

  -- it stands at its place, live
  entered : (page slot : ℕ) → page_for bytes k.filling r ≡ page → slot_for bytes k.filling r ≡ slot → buffered_record (entry_for bytes k r ∷ k.entries) (place_at k (filled_number k) page slot) r ≡ entering_at slot r
  entered page slot at_page at_slot =
      let same : its.place ≡ place_at k (filled_number k) page slot = λ i. record { segment = name_of k (filled_number k); page = at_page i; slot = at_slot i } in
      ap (λ (o : Option Entry). let x : LogRecord = record { slot = slot; key = r.key; value = r.value; prediction = option_map (λ (e : Entry). e.prediction) o } in x)
      (find-here (is_at (place_at k (filled_number k) page slot)) its k.entries (subst (λ (p : Place). is_place its.place p ≡ true) same (at_itself its.place)))

  filled : numbered (buffered_page (entry_for bytes k r ∷ k.entries) (name_of k (filled_number k))) 0 (pages_with bytes k.filling r)
      ≡ (with_last (fits_here bytes k.filling r) (entering_at (slot_for bytes k.filling r) r) (segments_of held k)).filling.pages
  filled = by_test (fits_here bytes k.filling r) refl
    where
      es : List Entry
      es = entry_for bytes k r ∷ k.entries

      F : ℕ → List Rec → List LogRecord
      F = buffered_page (entry_for bytes k r ∷ k.entries) (name_of k (filled_number k))

      old : List (List LogRecord)
      old = numbered (buffered_page k.entries (name_of k (filled_number k))) 0 k.filling

      last : ℕ
      last = length k.filling - 1

      x : LogRecord
      x = entering_at (slot_for bytes k.filling r) r

      count : length (numbered (buffered_page k.entries (name_of k (filled_number k))) 0 k.filling) ≡ length k.filling
      count = length-numbered (buffered_page k.entries (name_of k (filled_number k))) 0 k.filling

      goal : Bool → Type 0
      goal t = numbered F 0 (pages_with bytes k.filling r) ≡ cond t (set old (length old - 1) (on_page old (length old - 1) ++ x ∷ [])) (old ++ (x ∷ []) ∷ [])

      by_test : (t : Bool) → fits_here bytes k.filling r ≡ t → goal (fits_here bytes k.filling r)
      by_test true here =
          let page : page_for bytes k.filling r ≡ last = ap (λ (t : Bool). cond t last (length k.filling)) here in
          let slot : slot_for bytes k.filling r ≡ length (page_of k.filling last) = ap (λ (t : Bool). cond t (length (page_of k.filling last)) 0) here in
          let pages : pages_with bytes k.filling r ≡ set k.filling last (page_of k.filling last ++ r ∷ []) =
          ap (λ (t : Bool). cond t (set k.filling last (page_of k.filling last ++ r ∷ [])) (k.filling ++ (r ∷ []) ∷ [])) here in
          let on_it : F (0 + last) (page_of k.filling last) ≡ on_page old last =
          sym (numbered-get F [] [] (λ j. refl) 0 k.filling last) ∙ ap (λ (ps : List (List LogRecord)). get_or ps last []) before in
          let with_it : F (0 + last) (page_of k.filling last ++ r ∷ []) ≡ on_page old last ++ x ∷ [] =
          numbered-append (λ slot r. buffered_record es (record { segment = name_of k (filled_number k); page = 0 + last; slot = slot }) r) 0 (page_of k.filling last) (r ∷ [])
          ∙ ap (λ (ys : List LogRecord). ys ++ buffered_record es (record { segment = name_of k (filled_number k); page = 0 + last; slot = 0 + length (page_of k.filling last) }) r ∷ []) on_it
          ∙ ap (λ (y : LogRecord). on_page old last ++ y ∷ [])
          (entered (0 + last) (0 + length (page_of k.filling last)) (page ∙ omega arith) (slot ∙ omega arith)
          ∙ ap (λ (s : ℕ). entering_at s r) (sym (slot ∙ omega arith))) in
          ap (numbered F 0) pages
          ∙ numbered-set F 0 k.filling last (page_of k.filling last ++ r ∷ [])
          ∙ ap (λ (ps : List (List LogRecord)). set ps last (F (0 + last) (page_of k.filling last ++ r ∷ []))) before
          ∙ ap (set old last) with_it
          ∙ ap (λ (n : ℕ). set old (n - 1) (on_page old (n - 1) ++ x ∷ [])) (sym count)
          ∙ sym (ap (λ (t : Bool). cond t (set old (length old - 1) (on_page old (length old - 1) ++ x ∷ [])) (old ++ (x ∷ []) ∷ [])) here)
      by_test false not_here =
          let page : page_for bytes k.filling r ≡ length k.filling = ap (λ (t : Bool). cond t last (length k.filling)) not_here in
          let slot : slot_for bytes k.filling r ≡ 0 = ap (λ (t : Bool). cond t (length (page_of k.filling last)) 0) not_here in
          let pages : pages_with bytes k.filling r ≡ k.filling ++ (r ∷ []) ∷ [] =
          ap (λ (t : Bool). cond t (set k.filling last (page_of k.filling last ++ r ∷ [])) (k.filling ++ (r ∷ []) ∷ [])) not_here in
          ap (numbered F 0) pages
          ∙ numbered-append F 0 k.filling ((r ∷ []) ∷ [])
          ∙ ap (λ (ps : List (List LogRecord)). ps ++ (F (0 + length k.filling) (r ∷ [])) ∷ []) before
          ∙ ap (λ (y : LogRecord). old ++ (y ∷ []) ∷ []) (entered (0 + length k.filling) 0 (page ∙ omega arith) slot ∙ ap (λ (s : ℕ). entering_at s r) (sym slot))
          ∙ sym (ap (λ (t : Bool). cond t (set old (length old - 1) (on_page old (length old - 1) ++ x ∷ [])) (old ++ (x ∷ []) ∷ [])) not_here)

  -- so it stands last
  pub puts_last : segments_of held (put_on bytes k r) ≡ with_last (fits_here bytes k.filling r) (entering_at (slot_for bytes k.filling r) r) (segments_of held k)
  puts_last =
      same_segments (segments_of held (put_on bytes k r)) (with_last (fits_here bytes k.filling r) (entering_at (slot_for bytes k.filling r) r) (segments_of held k))
      (range-same (stored_segment held (put_on bytes k r)) (stored_segment held k) k.first k.stored (λ n from to. stored n from (omega (arith, to, above))))
      (by_flushing k.is_flushing refl)
      (ap (λ (pages : List (List LogRecord)). let s : Segment = record { number = filled_number k; pages = pages } in s) filled)
    where
      above : k.first + k.stored ≤ filled_number k
      above = cond_both k.is_flushing (flushed_number k + 1) (flushed_number k) (λ m. k.first + k.stored ≤ m) (λ _. omega arith) (λ _. omega arith)

      told : LogState → Bool → Option FlushingSegment
      told q t = cond t (Some (record { segment = buffered_segment q (flushed_number k) k.flushing; done = k.done })) None

      by_flushing : (b : Bool) → k.is_flushing ≡ b → told (put_on bytes k r) k.is_flushing ≡ told k k.is_flushing
      by_flushing true is =
          let up : filled_number k ≡ flushed_number k + 1 = ap (λ (t : Bool). cond t (flushed_number k + 1) (flushed_number k)) is in
          ap (told (put_on bytes k r)) is
          ∙ ap (λ (s : Segment). let f : FlushingSegment = record { segment = s; done = k.done } in Some f) (flushed (omega (arith, up)))
          ∙ sym (ap (told k) is)
      by_flushing false is = ap (told (put_on bytes k r)) is ∙ sym (ap (told k) is)

-- a log whose filled segment is sealed is a log
log_sealed : (k : LogState) → IsLog k → k.is_flushing ≡ false → 0 < length k.filling → filled_number k < 2 ^ 62 → IsLog (sealed k)
log_sealed k h idle some few = record {
  some_sets = h.some_sets;
  few_sets = h.few_sets;
  some_segments = h.some_segments;
  few_segments = h.few_segments;
  some_pages = h.some_pages;
  few_pages = h.few_pages;
  held = λ i d lt. stays_sealed k (get_or k.entries i d) idle (h.held i d lt);
  ordered = h.ordered;
  few_entries = h.few_entries;
  stored_fits = h.stored_fits;
  filling_fits = omega arith;
  flushing_fits = h.filling_fits;
  numbers = omega (arith, few, fills);
  numbered = λ none. absurd (omega (arith, none));
  flushing_left = λ _. some;
  flushing_free = λ _ done. absurd (omega (arith, done));
}
  where
    fills : filled_number k ≡ flushed_number k
    fills = ap (λ (t : Bool). cond t (flushed_number k + 1) (flushed_number k)) idle

pub appends_put_last : AppendsPutLast
appends_put_last bytes held k r log room = by_room (can_add bytes (filling_buffer k) r) refl
  where
    first_false : (a b : Bool) → (a || b) ≡ false → a ≡ false
    first_false true b x = absurd cc
    first_false false b x = refl

    other_false : (a b : Bool) → (a || b) ≡ false → b ≡ false
    other_false true b x = absurd cc
    other_false false b x = x

    after : LogState → Segments → Segments
    after q l = with_last (fits_here bytes q.filling r) (entering_at (slot_for bytes q.filling r) r) l

    by_room : (t : Bool) → can_add bytes (filling_buffer k) r ≡ t
        → segments_of held (appended bytes k r)
        ≡ after (taker bytes k r) (cond (can_add bytes (filling_buffer k) r) (segments_of held k) (now_flushing (segments_of held k)))
    by_room true can =
        ap (λ (t : Bool). segments_of held (put_on bytes (cond t k (sealed k)) r)) can
        ∙ puts_last bytes held k r log
        ∙ sym (ap (λ (t : Bool). after (cond t k (sealed k)) (cond t (segments_of held k) (now_flushing (segments_of held k)))) can)
    by_room false cannot =
        let rest : (k.is_flushing || nat_le (2 ^ 62) (filled_number k)) ≡ false = sym (ap (λ (t : Bool). cond t (nat_lt (2 ^ 62) (filled_number k)) (k.is_flushing || nat_le (2 ^ 62) (filled_number k))) cannot) ∙ room in
        let idle : k.is_flushing ≡ false = first_false k.is_flushing _ rest in
        let few = leb-false (2 ^ 62) (filled_number k) (other_false k.is_flushing _ rest) in
        let many = ltb-false (length k.filling) k.shape.segment_pages (other_false (fits_here bytes k.filling r) _ cannot) in
        let some : 0 < length k.filling = let pages = log.some_pages in omega (arith, many, pages) in
        ap (λ (t : Bool). segments_of held (put_on bytes (cond t k (sealed k)) r)) cannot
        ∙ puts_last bytes held (sealed k) r (log_sealed k log idle some few)
        ∙ ap (after (sealed k)) (sealing_flushes held k log idle)
        ∙ sym (ap (λ (t : Bool). after (cond t k (sealed k)) (cond t (segments_of held k) (now_flushing (segments_of held k)))) cannot)
