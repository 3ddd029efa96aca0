-- The list of segments after entries were dropped: their records die.
use Rattle.std.proofs.Common.{◌≡◌, ℕ, ◌+◌, ◌<◌, ◌≤◌, Bool, true, false, cond, not, eqb, List, [], ◌∷◌, length, get_or, filter, map, Option, Some, None, All, slice_get, refl, sym, ap, subst, ◌∙◌, arith}
use Rattle.std.specs.Prelude.{Contains, find}
use Rattle.std.specs.List.{range_with_len}
use Rattle.std.specs.Option.{option_map}
use Rattle.std.proofs.lemmas.Bool.{and_parts, eqb-true, cond_both}
use Rattle.std.proofs.lemmas.List.{get_or_default}
use Rattle.std.proofs.lemmas.Option.{get_or_from_slice_get}
use Rattle.record_pages.specs.Recs.{Rec}
use Rattle.klog_index.specs.declared.entry.Entry.{Entry}
use Rattle.klog_index.specs.declared.place.Place.{Place}
use Rattle.klog_index.specs.Entries.{is_at, is_on}
use Rattle.klog_index.proofs.public_laws.EntryLaws.{of_place}
use Rattle.klog.specs.Buffer.{page_of, record_in}
use Rattle.klog.specs.Log.{LogState, with_list}
use Rattle.klog.specs.Names.{names, name_of, number_of, segment_of, flushed_number, filled_number}
use Rattle.klog.specs.Shown.{shown_on, live_on}
use Rattle.klog.specs.Keeps.{IsLog}
use Rattle.klog.specs.Segments.{LogRecord, Segment, FlushingSegment, Segments, live_record, live_page, stored_segment, buffered_record, buffered_page, buffered_segment, segments_of}
use Rattle.klog.specs.Steps.{Dying, dead, killed_stored, killed_buffered, killed_flushing, killed}
use Rattle.klog.proofs.LiveLaws.{live_contained, live_on-kept}
use Rattle.klog.proofs.RingLaws.{number_again}
use Rattle.klog.proofs.Numbered.{numbered-fuse, map-numbered, numbered-same, numbered-range, range-same}
use Rattle.klog.proofs.PlaceLaws.{found-is, kept-none, kept-some, page_kept}
use Rattle.klog.proofs.ListedLaws.{place_at, one_at, filled_near, LieOn, found_shows, filled_lie, flushed_lie}

-- the records of entries that are dropped are those that die
abbrev pub DropsThese : (ℕ → Option (List ℕ)) → LogState → (Entry → Bool) → Dying → Type 0
DropsThese held k drops dies = (e : Entry) (r : Rec) → Contains (live_on held k) (e, r) → drops e ≡ dies (segment_of k e) e.place.page (live_record (e, r))

pub same_segments : (a b : Segments) → a.stored ≡ b.stored → a.flushing ≡ b.flushing → a.filling ≡ b.filling → a ≡ b
same_segments a b p q r = λ i. record { stored = p i; flushing = q i; filling = r i }

pub listed_at : {X : Type 0} (xs : List X) (i : ℕ) (d : X) → i < length xs → Contains xs (get_or xs i d)
listed_at xs i d lt = (i, lt, get_or_default xs i (get_or xs i d) d lt)

module _ (held : ℕ → Option (List ℕ)) (k : LogState) (drops : Entry → Bool) (dies : Dying) (log : IsLog k) (these : DropsThese held k drops dies) where
  -- the log that is left
  abbrev pub left : LogState
  left = with_list k (filter (λ e. not (drops e)) k.entries)

  stored_page : (n page : ℕ) → k.first ≤ n → n < k.first + names k → live_page (live_on held left) (name_of k n) page ≡ filter (λ x. not (dies n page x)) (live_page (live_on held k) (name_of k n) page)
  stored_page n page from to =
      ap (λ (live : List (Entry × Rec)). live_page live (name_of k n) page) (live_on-kept held k (λ e. not (drops e)))
      ∙ page_kept (λ x. is_on (name_of k n) page x.0) (λ x. not (drops x.0)) (λ x. not (dies n page x)) (live_on held k) same
    where
      same : All (λ x. is_on (name_of k n) page x.0 ≡ true → not (drops x.0) ≡ not (dies n page (live_record x))) (live_on held k)
      same i d lt on =
          let x : Entry × Rec = get_or (live_on held k) i d in
          let both = and_parts (eqb x.0.place.segment (name_of k n)) (eqb x.0.place.page page) on in
          let own : segment_of k x.0 ≡ n = ap (number_of k) (eqb-true x.0.place.segment (name_of k n) both.0) ∙ number_again k n from to in
          let there : x.0.place.page ≡ page = eqb-true x.0.place.page page both.1 in
          ap not (these x.0 x.1 (listed_at (live_on held k) i d lt)
          ∙ ap (λ (m : ℕ). dies m x.0.place.page (live_record x)) own
          ∙ ap (λ (p : ℕ). dies n p (live_record x)) there)

  stored_kept : (n : ℕ) → k.first ≤ n → n < k.first + names k → stored_segment held left n ≡ killed_stored dies (stored_segment held k n)
  stored_kept n from to =
      ap (λ (pages : List (List LogRecord)). let s : Segment = record { number = n; pages = pages } in s)
      (range-same (live_page (live_on held left) (name_of k n)) (λ page. filter (λ x. not (dies n page x)) (live_page (live_on held k) (name_of k n) page)) 0 k.shape.segment_pages (λ page a b. stored_page n page from to)
      ∙ sym (numbered-range (live_page (live_on held k) (name_of k n)) (λ page xs. filter (λ x. not (dies n page x)) xs) 0 k.shape.segment_pages))

  -- a record in a buffer
  one_record : (n : ℕ) (pages : List (List Rec)) (page slot : ℕ) (r : Rec) → k.first ≤ n → n < k.first + names k → LieOn held k n pages → record_in pages page slot ≡ Some r
      → buffered_record left.entries (place_at k n page slot) r
      ≡ cond (dies n page (buffered_record k.entries (place_at k n page slot) r)) (dead (buffered_record k.entries (place_at k n page slot) r)) (buffered_record k.entries (place_at k n page slot) r)
  one_record n pages page slot r from to lie there = by_found (find (is_at place) k.entries) refl
    where
      place : Place
      place = place_at k n page slot

      made : Option ℕ → LogRecord
      made o = record { slot = slot; key = r.key; value = r.value; prediction = o }

      after : LogRecord → LogRecord
      after x = cond (dies n page x) (dead x) x

      told : Option Entry → LogRecord
      told o = made (option_map (λ (e : Entry). e.prediction) o)

      stays_dead : made None ≡ after (made None)
      stays_dead = cond_both (dies n page (made None)) (dead (made None)) (made None) (λ x. made None ≡ x) (λ _. refl) (λ _. refl)

      by_found : (o : Option Entry) → find (is_at place) k.entries ≡ o → buffered_record left.entries place r ≡ after (buffered_record k.entries place r)
      by_found None none =
          ap told (kept-none (is_at place) (λ e. not (drops e)) k.entries none) ∙ stays_dead ∙ sym (ap (λ (o : Option Entry). after (told o)) none)
      by_found (Some e) found =
          let its = found-is (is_at place) k.entries e found in
          let at : e.place ≡ place = of_place place e its.1 in
          let own : segment_of k e ≡ n = ap (λ (x : Place). number_of k x.segment) at ∙ number_again k n from to in
          let shows : shown_on held k e ≡ Some r = found_shows held k n pages page slot r e from to lie there its.1 in
          let now : live_record (e, r) ≡ made (Some e.prediction) = ap (λ (s : ℕ). let x : LogRecord = record { slot = s; key = r.key; value = r.value; prediction = Some e.prediction } in x) (ap (λ (p : Place). p.slot) at) in
          let dying : drops e ≡ dies n page (made (Some e.prediction)) =
          these e r (live_contained (shown_on held k) k.entries e r its.0 shows)
          ∙ ap (λ (m : ℕ). dies m e.place.page (live_record (e, r))) own
          ∙ ap (λ (p : Place). dies n p.page (live_record (e, r))) at
          ∙ ap (dies n page) now in
          ap told (kept-some (is_at place) (λ e. not (drops e)) k.entries e (one_at k place log) found)
          ∙ by_test (drops e) e
          ∙ ap (λ (b : Bool). cond b (dead (made (Some e.prediction))) (made (Some e.prediction))) dying
          ∙ sym (ap (λ (o : Option Entry). after (told o)) found)
        where
          by_test : (b : Bool) (e : Entry) → told (cond (not b) (Some e) None) ≡ cond b (dead (made (Some e.prediction))) (made (Some e.prediction))
          by_test true e = refl
          by_test false e = refl

  buffered_kept : (n : ℕ) (pages : List (List Rec)) → k.first ≤ n → n < k.first + names k → LieOn held k n pages → buffered_segment left n pages ≡ killed_buffered dies (buffered_segment k n pages)
  buffered_kept n pages from to lie =
      ap (λ (ps : List (List LogRecord)). let s : Segment = record { number = n; pages = ps } in s)
      (numbered-same (buffered_page left.entries (name_of k n)) (λ page rs. die page (buffered_page k.entries (name_of k n) page rs)) 0 pages
      (λ j rs at. one_page (0 + j) rs (subst (λ (i : ℕ). page_of pages i ≡ rs) (omega arith) (get_or_from_slice_get pages j rs [] at)))
      ∙ sym (numbered-fuse (buffered_page k.entries (name_of k n)) die 0 pages))
    where
      die : ℕ → List LogRecord → List LogRecord
      die page xs = map (λ x. cond (dies n page x) (dead x) x) xs

      one_page : (page : ℕ) (rs : List Rec) → page_of pages page ≡ rs → buffered_page left.entries (name_of k n) page rs ≡ die page (buffered_page k.entries (name_of k n) page rs)
      one_page page rs is =
          numbered-same (λ slot r. buffered_record left.entries (place_at k n page slot) r) (λ slot r. cond (dies n page (buffered_record k.entries (place_at k n page slot) r)) (dead (buffered_record k.entries (place_at k n page slot) r)) (buffered_record k.entries (place_at k n page slot) r)) 0 rs
          (λ j r at. one_record n pages page (0 + j) r from to lie (subst (λ (i : ℕ). record_in pages page i ≡ Some r) (omega arith) (ap (λ (xs : List Rec). slice_get xs j) is ∙ at)))
          ∙ sym (map-numbered (λ slot r. buffered_record k.entries (place_at k n page slot) r) (λ x. cond (dies n page x) (dead x) x) 0 rs)

  -- so the list is as before, but that these are dead
  pub drops_kill : segments_of held left ≡ killed dies (segments_of held k)
  drops_kill = same_segments (segments_of held left) (killed dies (segments_of held k)) stored (flushing k.is_flushing refl) filling
    where
      map-map : {X Y : Type 0} (f : ℕ → X) (g : X → Y) (xs : List ℕ) → map g (map f xs) ≡ map (λ x. g (f x)) xs
      map-map f g [] = refl
      map-map f g (x ∷ xs) = ap (λ (ys : List _). g (f x) ∷ ys) (map-map f g xs)

      stored : map (stored_segment held left) (range_with_len k.first k.stored) ≡ map (killed_stored dies) (map (stored_segment held k) (range_with_len k.first k.stored))
      stored =
          range-same (stored_segment held left) (λ n. killed_stored dies (stored_segment held k n)) k.first k.stored (λ n from to. stored_kept n from (omega (arith, to, log.stored_fits)))
          ∙ sym (map-map (stored_segment held k) (killed_stored dies) (range_with_len k.first k.stored))

      flushing : (b : Bool) → k.is_flushing ≡ b → (segments_of held left).flushing ≡ option_map (killed_flushing dies) (segments_of held k).flushing
      flushing true is =
          ap (λ (t : Bool). cond t (Some (record { segment = buffered_segment left (flushed_number k) k.flushing; done = k.done })) None) is
          ∙ ap (λ (s : Segment). let f : FlushingSegment = record { segment = s; done = k.done } in Some f) (buffered_kept (flushed_number k) k.flushing (omega arith) (omega (arith, log.stored_fits)) (flushed_lie held k is))
          ∙ sym (ap (λ (t : Bool). option_map (killed_flushing dies) (cond t (Some (record { segment = buffered_segment k (flushed_number k) k.flushing; done = k.done })) None)) is)
      flushing false is =
          ap (λ (t : Bool). cond t (Some (record { segment = buffered_segment left (flushed_number k) k.flushing; done = k.done })) None) is
          ∙ sym (ap (λ (t : Bool). option_map (killed_flushing dies) (cond t (Some (record { segment = buffered_segment k (flushed_number k) k.flushing; done = k.done })) None)) is)

      filling : buffered_segment left (filled_number k) k.filling ≡ killed_buffered dies (buffered_segment k (filled_number k) k.filling)
      filling = buffered_kept (filled_number k) k.filling (cond_both k.is_flushing (flushed_number k + 1) (flushed_number k) (λ m. k.first ≤ m) (λ _. omega arith) (λ _. omega arith)) (filled_near k log) (filled_lie held k)
