-- Each call is a plain step of the list of segments.
use Rattle.std.proofs.Common.{◌≡◌, ℕ, zero, suc, ◌+◌, ◌-◌, ◌<◌, Bool, true, false, cond, eqb, ◌&&◌, List, [], ◌∷◌, ◌++◌, length, set, filter, map, Option, Some, None, refl, sym, ap, ◌∙◌, arith}
use Rattle.std.specs.Prelude.{drop}
use Rattle.std.specs.List.{range_with_len, list_any}
use Rattle.std.proofs.lemmas.List.Elements.{All-contains}
use Rattle.std.proofs.lemmas.List.FromFn.{map-range_with_len_more}
use Rattle.record_pages.specs.Recs.{Rec}
use Rattle.klog_index.specs.declared.entry.Entry.{Entry}
use Rattle.klog_index.specs.declared.place.Place.{Place}
use Rattle.klog_index.specs.Entries.{has_tag, is_at, is_place}
use Rattle.klog.specs.declared.taken_record.TakenRecord.{TakenRecord}
use Rattle.klog.specs.Log.{LogState}
use Rattle.klog.specs.Names.{name_of, segment_of, flushed_number, filled_number}
use Rattle.klog.specs.Shown.{place_in, live_on, IsSpelledOn}
use Rattle.klog.specs.Keeps.{IsHeld, IsLog}
use Rattle.klog.specs.Append.{sealed}
use Rattle.klog.specs.Buffer.{page_of}
use Rattle.klog.specs.Flush.{is_on_page, moved_on}
use Rattle.klog.specs.Moves.{is_taken, freed}
use Rattle.klog.specs.Segments.{LogRecord, Segment, FlushingSegment, Segments, numbered, live_record, live_page, buffered_page, buffered_segment, segments_of, is_live}
use Rattle.klog.specs.Steps.{on_page, now_flushing, on_device, page_done, without_oldest}
use Rattle.klog.specs.SegmentLaws.{of_struck, of_taken, of_entry, of_page, place_of, StrikesKill, TakenDie, EntryDies, LostPagesDie, SealingFlushes, PagesAreDone, FreeingTakesOldest}
use Rattle.klog.proofs.LookLaws.{placed_live}
use Rattle.klog.proofs.MoveLaws.{live_on-freed, filled_freed}
use Rattle.klog.proofs.RingLaws.{name_again}
use Rattle.klog.proofs.ShownLaws.{live_sealed}
use Rattle.klog.proofs.Numbered.{range-same, numbered-get, length-numbered}
use Rattle.klog.proofs.ListedLaws.{name_test, filled_near, live_held, page_listed, flushed_lie}
use Rattle.klog.proofs.KilledLaws.{DropsThese, same_segments, drops_kill}

-- ---- what dies

-- an entry that is held lies where its record is told
place_again : (k : LogState) (e : Entry) (r : Rec) → IsHeld k e → e.place ≡ place_of k (segment_of k e) e.place.page (live_record (e, r))
place_again k e r held = λ i. record { segment = sym (name_again k e.place.segment held.name) i; page = e.place.page; slot = e.place.slot }

-- the record's key has its entry's set and tag
abbrev pub IsPlacedIn : LogState → Entry × Rec → Type 0
IsPlacedIn k x = ((place_in k.shape x.1.key).set ≡ x.0.set) × ((place_in k.shape x.1.key).tag ≡ x.0.tag)

struck_these : (bytes : ℕ) (held : ℕ → Option (List ℕ)) (k : LogState) (set tag : ℕ) → IsSpelledOn bytes held k → DropsThese held k (has_tag set tag) (of_struck k set tag)
struck_these bytes held k set tag spelled e r listed =
    let placed = All-contains (IsPlacedIn k) (live_on held k) (e, r) (placed_live bytes held k spelled) listed in
    ap (λ (s : ℕ). eqb s set && eqb e.tag tag) (sym placed.0) ∙ ap (λ (t : ℕ). eqb (place_in k.shape r.key).set set && eqb t tag) (sym placed.1)

pub strikes_kill : StrikesKill
strikes_kill bytes held k set tag log spelled = drops_kill held k (has_tag set tag) (of_struck k set tag) log (struck_these bytes held k set tag spelled)

taken_these : (bytes : ℕ) (held : ℕ → Option (List ℕ)) (k : LogState) (set : ℕ) (ts : List TakenRecord) → IsLog k → IsSpelledOn bytes held k → DropsThese held k (is_taken k set ts) (of_taken k set ts)
taken_these bytes held k set ts log spelled e r listed =
    let placed = All-contains (IsPlacedIn k) (live_on held k) (e, r) (placed_live bytes held k spelled) listed in
    let its = All-contains (λ x. IsHeld k x.0) (live_on held k) (e, r) (live_held held k log) listed in
    ap (λ (s : ℕ). eqb s set && list_any (λ (t : TakenRecord). is_place e.place t.place && eqb (segment_of k e) t.segment) ts) (sym placed.0)
    ∙ ap (λ (p : Place). eqb (place_in k.shape r.key).set set && list_any (λ (t : TakenRecord). is_place p t.place && eqb (segment_of k e) t.segment) ts) (place_again k e r its)

pub taken_die : TakenDie
taken_die bytes held k set ts log spelled = drops_kill held k (is_taken k set ts) (of_taken k set ts) log (taken_these bytes held k set ts log spelled)

pub entry_dies : EntryDies
entry_dies bytes held k gone log spelled = drops_kill held k _ (of_entry k gone) log these
  where
    these : DropsThese held k (λ e. eqb e.set gone.set && is_at gone.place e) (of_entry k gone)
    these e r listed =
        let placed = All-contains (IsPlacedIn k) (live_on held k) (e, r) (placed_live bytes held k spelled) listed in
        let its = All-contains (λ x. IsHeld k x.0) (live_on held k) (e, r) (live_held held k log) listed in
        ap (λ (s : ℕ). eqb s gone.set && is_place e.place gone.place) (sym placed.0)
        ∙ ap (λ (p : Place). eqb (place_in k.shape r.key).set gone.set && is_place p gone.place) (place_again k e r its)

pub lost_pages_die : LostPagesDie
lost_pages_die held k segment page log from to = drops_kill held k (is_on_page k segment page) (of_page segment page) log these
  where
    these : DropsThese held k (is_on_page k segment page) (of_page segment page)
    these e r listed =
        let its = All-contains (λ x. IsHeld k x.0) (live_on held k) (e, r) (live_held held k log) listed in
        ap (λ (b : Bool). b && eqb e.place.page page) (name_test k e segment its.name from (omega (arith, to, filled_near k log)))

-- ---- segments that change their kinds

-- the segments on the device, by the live records
abbrev pub stored_by : List (Entry × Rec) → LogState → ℕ → Segment
stored_by live k n = record { number = n; pages = map (live_page live (name_of k n)) (range_with_len 0 k.shape.segment_pages) }

pub sealing_flushes : SealingFlushes
sealing_flushes held k log idle =
    same_segments (segments_of held (sealed k)) (now_flushing (segments_of held k))
    (ap (λ (live : List (Entry × Rec)). map (stored_by live k) (range_with_len k.first k.stored)) (live_sealed held k log idle))
    (ap (λ (n : ℕ). let f : FlushingSegment = record { segment = buffered_segment k n k.filling; done = 0 } in Some f) (sym fills))
    (ap (λ (n : ℕ). let s : Segment = record { number = n; pages = [] } in s) (ap (λ (n : ℕ). n + 1) (sym fills)))
  where
    fills : filled_number k ≡ flushed_number k
    fills = ap (λ (t : Bool). cond t (flushed_number k + 1) (flushed_number k)) idle

-- the oldest is gone
pub freeing_takes : FreeingTakesOldest
freeing_takes held k log empty =
    same_segments (segments_of held (freed k)) (without_oldest (segments_of held k))
    (ap (λ (live : List (Entry × Rec)). map (stored_by live k) (range_with_len (k.first + 1) (k.stored - 1))) (live_on-freed held k empty log)
    ∙ behind (k.stored) empty.0)
    (ap (λ (n : ℕ). cond k.is_flushing (Some (record { segment = buffered_segment k n k.flushing; done = k.done })) None) up)
    (ap (λ (n : ℕ). buffered_segment k n k.filling) (filled_freed k empty.0))
  where
    up : k.first + 1 + (k.stored - 1) ≡ k.first + k.stored
    up = let some = empty.0 in omega (arith, some)

    behind : (n : ℕ) → 0 < n → map (stored_by (live_on held k) k) (range_with_len (k.first + 1) (n - 1)) ≡ drop 1 (map (stored_by (live_on held k) k) (range_with_len k.first n))
    behind zero some = absurd (omega (arith, some))
    behind (suc n) some = ap (λ (m : ℕ). map (stored_by (live_on held k) k) (range_with_len (k.first + 1) m)) (omega arith)

-- ---- a page is done

-- the log with one more segment on the device, and with one more page done
abbrev pub finished : LogState → LogState
finished k = record k { stored = k.stored + 1; is_flushing = false; done = 0; flushing = [] }

abbrev pub stepped : LogState → LogState
stepped k = record k { done = k.done + 1 }

-- a segment's pages as they lie on the device are its live records
on_device_is : (held : ℕ → Option (List ℕ)) (k : LogState) → IsLog k → k.is_flushing ≡ true
    → stored_by (live_on held k) k (flushed_number k) ≡ on_device k.shape.segment_pages (buffered_segment k (flushed_number k) k.flushing)
on_device_is held k log flushing =
    ap (λ (pages : List (List LogRecord)). let s : Segment = record { number = flushed_number k; pages = pages } in s)
    (range-same (live_page (live_on held k) name) (λ page. filter is_live (on_page (numbered (buffered_page k.entries name) 0 k.flushing) page)) 0 k.shape.segment_pages (λ page a b. same page))
  where
    name : ℕ
    name = name_of k (flushed_number k)

    same : (page : ℕ) → live_page (live_on held k) (name_of k (flushed_number k)) page ≡ filter is_live (on_page (numbered (buffered_page k.entries (name_of k (flushed_number k))) 0 k.flushing) page)
    same page =
        sym (page_listed held k (flushed_number k) k.flushing page log (omega arith) (omega (arith, log.stored_fits)) (flushed_lie held k flushing))
        ∙ ap (filter is_live) (ap (λ (p : ℕ). buffered_page k.entries (name_of k (flushed_number k)) p (page_of k.flushing page)) (omega arith)
        ∙ sym (numbered-get (buffered_page k.entries (name_of k (flushed_number k))) [] [] (λ j. refl) 0 k.flushing page))

pub pages_are_done : PagesAreDone
pages_are_done was is k log can same = by_test (eqb (k.done + 1) (length k.flushing)) refl
  where
    l : Segments
    l = segments_of was k

    count : ℕ
    count = k.shape.segment_pages

    flushed : FlushingSegment
    flushed = record { segment = buffered_segment k (flushed_number k) k.flushing; done = k.done }

    fills : filled_number k ≡ flushed_number k + 1
    fills = ap (λ (t : Bool). cond t (flushed_number k + 1) (flushed_number k)) can.0

    flushing_is : (segments_of was k).flushing ≡ Some (record { segment = buffered_segment k (flushed_number k) k.flushing; done = k.done })
    flushing_is = ap (λ (t : Bool). cond t (Some (record { segment = buffered_segment k (flushed_number k) k.flushing; done = k.done })) None) can.0

    as_many : length (numbered (buffered_page k.entries (name_of k (flushed_number k))) 0 k.flushing) ≡ length k.flushing
    as_many = length-numbered (buffered_page k.entries (name_of k (flushed_number k))) 0 k.flushing

    last_step : Segments
    last_step = record { stored = (segments_of was k).stored ++ on_device k.shape.segment_pages (buffered_segment k (flushed_number k) k.flushing) ∷ []; flushing = None; filling = (segments_of was k).filling }

    next_step : Segments
    next_step = record { stored = (segments_of was k).stored; flushing = Some (record { segment = buffered_segment k (flushed_number k) k.flushing; done = k.done + 1 }); filling = (segments_of was k).filling }

    by_test : (b : Bool) → eqb (k.done + 1) (length k.flushing) ≡ b → segments_of is (moved_on k) ≡ page_done k.shape.segment_pages (segments_of was k) (segments_of was k).flushing
    by_test true test =
        let moved : moved_on k ≡ finished k = ap (λ (t : Bool). cond t (finished k) (stepped k)) test in
        let live : live_on is (finished k) ≡ live_on was k = ap (live_on is) (sym moved) ∙ same in
        let stored : (segments_of is (finished k)).stored ≡ last_step.stored =
        ap (λ (xs : List (Entry × Rec)). map (stored_by xs k) (range_with_len k.first (k.stored + 1))) live
        ∙ map-range_with_len_more (stored_by (live_on was k) k) k.first k.stored (k.first + k.stored) refl
        ∙ ap (λ (s : Segment). (segments_of was k).stored ++ s ∷ []) (on_device_is was k log can.0) in
        let filling : (segments_of is (finished k)).filling ≡ last_step.filling = ap (λ (n : ℕ). buffered_segment k n k.filling) (omega (arith, fills)) in
        ap (segments_of is) moved
        ∙ same_segments (segments_of is (finished k)) last_step stored refl filling
        ∙ sym (ap (page_done k.shape.segment_pages (segments_of was k)) flushing_is
        ∙ ap (λ (n : ℕ). cond (eqb (k.done + 1) n) last_step next_step) as_many
        ∙ ap (λ (t : Bool). cond t last_step next_step) test)
    by_test false test =
        let moved : moved_on k ≡ stepped k = ap (λ (t : Bool). cond t (finished k) (stepped k)) test in
        let live : live_on is (stepped k) ≡ live_on was k = ap (live_on is) (sym moved) ∙ same in
        let stored : (segments_of is (stepped k)).stored ≡ next_step.stored = ap (λ (xs : List (Entry × Rec)). map (stored_by xs k) (range_with_len k.first k.stored)) live in
        let flushing : (segments_of is (stepped k)).flushing ≡ next_step.flushing =
        ap (λ (t : Bool). cond t (Some (record { segment = buffered_segment k (flushed_number k) k.flushing; done = k.done + 1 })) None) can.0 in
        ap (segments_of is) moved
        ∙ same_segments (segments_of is (stepped k)) next_step stored flushing refl
        ∙ sym (ap (page_done k.shape.segment_pages (segments_of was k)) flushing_is
        ∙ ap (λ (n : ℕ). cond (eqb (k.done + 1) n) last_step next_step) as_many
        ∙ ap (λ (t : Bool). cond t last_step next_step) test)
