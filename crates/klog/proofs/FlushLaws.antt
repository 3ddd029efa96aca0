-- A flush step keeps live records, but those of a lost page.
use Rattle.std.proofs.Common.{◌≡◌, ◌≢◌, ℕ, ◌+◌, ◌<◌, Bool, true, false, ◌&&◌, cond, not, eqb, List, [], length, get_or, filter, All, Option, Some, None, slice_get, refl, sym, ap, subst, ◌∙◌, inl, inr, arith}
use Rattle.std.specs.Prelude.{IsSomeAnd}
use Rattle.std.proofs.lemmas.Bool.{eqb-true, eq-eqb, ne_eqb, and_from, cases_eq, cond_both}
use Rattle.std.proofs.lemmas.Bool.Decides.{nat_tests}
use Rattle.std.proofs.lemmas.List.Elements.{filter_passes}
use Rattle.page_device.specs.Frames.{pages_from, pages_before}
use Rattle.record_pages.specs.Recs.{Rec}
use Rattle.record_pages.specs.PageText.{LogPageParts, SpellsLogPage}
use Rattle.record_pages.proofs.public_laws.PageLaws.{log_page_only}
use Rattle.klog_index.specs.declared.entry.Entry.{Entry}
use Rattle.klog.specs.Buffer.{page_of}
use Rattle.klog.specs.Log.{LogState}
use Rattle.klog.specs.Names.{names, name_of, segment_of, flushed_number, filled_number, ring_page, device_page}
use Rattle.klog.specs.Shown.{shown, record_on, record_of_held, IsLive, HoldsPage, IsFlushed, IsSpelled, IsSpelledOn, live_on}
use Rattle.klog.specs.Keeps.{IsHeld, IsLog}
use Rattle.klog.specs.Flush.{is_on_page, without_next, moved_on, WritesNext}
use Rattle.klog.proofs.BufferLaws.{page_within}
use Rattle.klog.proofs.RingLaws.{name_again, number_from, other_segment, other_page}
use Rattle.klog.proofs.LiveLaws.{live_by, live_by-same, live_on-kept, log_kept, spelled_kept}
use Rattle.klog.proofs.ShownLaws.{shown_filled, shown_flushed, shown_stored, live_as}

-- ---- the log over the pages that a write leaves

-- the pages of the log but the one that is flushed next stay
abbrev pub Others : LogState → (ℕ → Option (List ℕ)) → (ℕ → Option (List ℕ)) → Type 0
Others k old new = (q : ℕ) → q ≢ ring_page k (flushed_number k) k.done → new q ≡ old q

-- a write of the page that is flushed next leaves the others
others_on : (bytes : ℕ) (held held' : ℕ → Option (List ℕ)) (k : LogState) (wrote : Bool) → WritesNext bytes k wrote held held' → Others k (pages_from k.shape.sets held) (pages_from k.shape.sets held')
others_on bytes held held' k wrote w = λ q differs. w.others (k.shape.sets + q) (λ same. differs (omega (arith, same)))

-- after the segment that is flushed comes the one that is filled
flushing_fills : (k : LogState) → k.is_flushing ≡ true → filled_number k ≡ flushed_number k + 1
flushing_fills k is = ap (λ (t : Bool). cond t (flushed_number k + 1) (flushed_number k)) is

-- an entry of another segment stands for no record of the one that is flushed
not_flushed : (k : LogState) (e : Entry) → segment_of k e ≢ flushed_number k → (k.is_flushing && eqb (segment_of k e) (flushed_number k)) ≡ false
not_flushed k e differs = by_test k.is_flushing (eqb (segment_of k e) (flushed_number k)) (ne_eqb (segment_of k e) (flushed_number k) differs)
  where
    by_test : (a b : Bool) → b ≡ false → (a && b) ≡ false
    by_test true b is = is
    by_test false b is = refl

-- each entry stands for the same record: another page that is held lies elsewhere in the ring
shown_over : (pages pages' : ℕ → Option (List ℕ)) (k : LogState) (e : Entry) → IsLog k → IsHeld k e → k.is_flushing ≡ true → k.stored < k.shape.segments → k.done < k.shape.segment_pages → Others k pages pages'
    → shown pages' k e ≡ shown pages k e
shown_over pages pages' k e h held is free lq others =
    let s = segment_of k e in
    elim (cases_eq s (filled_number k)) [
      | inl at ↦ shown_filled pages' k e at ∙ sym (shown_filled pages k e at)
      | inr not_filled ↦ elim (cases_eq s (flushed_number k)) [
        | inl at ↦ shown_flushed pages' k e not_filled is at ∙ sym (shown_flushed pages k e not_filled is at)
        | inr differs ↦
            let below : s < flushed_number k = omega (arith, held.segment, flushing_fills k is, not_filled, differs) in
            let apart = other_segment k (flushed_number k) s e.place.page k.done h.some_segments held.page lq below (omega (arith, free, number_from k e.place.segment)) in
            shown_stored pages' k e not_filled (not_flushed k e differs)
            ∙ ap (record_of_held s e.place.page e.place.slot) (others (ring_page k s e.place.page) apart)
            ∙ sym (shown_stored pages k e not_filled (not_flushed k e differs))
      ]
    ]

-- ---- one page is done

-- a page of the segment that is flushed is known to hold what the buffer holds
abbrev pub IsKnownPage : ℕ → (ℕ → Option (List ℕ)) → LogState → ℕ → ℕ → Type 0
IsKnownPage bytes pages k segment page = HoldsPage bytes segment page (page_of k.flushing page) (pages (ring_page k segment page))

-- the entry's page is known, as far as the page that was written last
abbrev pub IsDone : ℕ → (ℕ → Option (List ℕ)) → LogState → Entry → Type 0
IsDone bytes pages k e = segment_of k e ≡ flushed_number k → e.place.page < k.done + 1 → IsKnownPage bytes pages k (segment_of k e) e.place.page

-- a page of the log is read as it was written
read_again : (bytes segment page slot : ℕ) (held : Option (List ℕ)) (text : List ℕ) (rs : List Rec) → held ≡ Some text → SpellsLogPage bytes text (record { segment = segment; page = page; records = rs })
    → record_of_held segment page slot held ≡ slice_get rs slot
unfolding record_on
read_again bytes segment page slot held text rs known spells =
    let p : LogPageParts = record { segment = segment; page = page; records = rs } in
    ap (record_of_held segment page slot) known
    ∙ ap (λ (o : Option LogPageParts). record_on segment page slot o) (log_page_only bytes text p spells)
    ∙ ap (λ (t : Bool). cond t (slice_get rs slot) None) (and_from (eqb segment segment) (eqb page page) (eq-eqb segment segment refl) (eq-eqb page page refl))

-- the last page is done
abbrev finished : LogState → LogState
finished k = record k { stored = k.stored + 1; is_flushing = false; done = 0; flushing = [] }

-- one page more is done
abbrev stepped : LogState → LogState
stepped k = record k { done = k.done + 1 }

-- the record that a live entry stands for
record_of : (bytes : ℕ) (pages : ℕ → Option (List ℕ)) (k : LogState) (e : Entry) → IsLive bytes pages k e → (r : Rec) × (shown pages k e ≡ Some r)
record_of bytes pages k e live = by_case (shown pages k e) _ live
  where
    by_case : (o : Option Rec) (P : Rec → Type 0) → IsSomeAnd o P → (r : Rec) × (o ≡ Some r)
    by_case (Some r) P h = (r, refl)
    by_case None P h = absurd h

-- once the last page is done, the records of the buffer are those of the device
shown_finished : (bytes : ℕ) (pages : ℕ → Option (List ℕ)) (k : LogState) (e : Entry) → k.is_flushing ≡ true → k.done + 1 ≡ length k.flushing → IsDone bytes pages k e → IsLive bytes pages k e → shown pages (finished k) e ≡ shown pages k e
shown_finished bytes pages k e is last done live =
    let s = segment_of k e in
    let fills = flushing_fills k is in
    let fills' : filled_number (finished k) ≡ filled_number k = omega (arith, fills) in
    elim (cases_eq s (filled_number k)) [
      | inl at ↦ shown_filled pages (finished k) e (omega (arith, at, fills')) ∙ sym (shown_filled pages k e at)
      | inr not_filled ↦
          let not_filled' : s ≢ filled_number (finished k) = λ q. not_filled (omega (arith, q, fills')) in
          let stored' = shown_stored pages (finished k) e not_filled' refl in
          elim (cases_eq s (flushed_number k)) [
            | inl at ↦
                let r = record_of bytes pages k e live in
                let in_buffer = shown_flushed pages k e not_filled is at in
                let within = page_within k.flushing e.place.page e.place.slot r.0 (sym in_buffer ∙ r.1) in
                let d = done at (omega (arith, within, last)) in
                stored' ∙ read_again bytes s e.place.page e.place.slot (pages (ring_page k s e.place.page)) d.text (page_of k.flushing e.place.page) d.holds d.spells ∙ sym in_buffer
            | inr differs ↦ stored' ∙ sym (shown_stored pages k e not_filled (not_flushed k e differs))
          ]
    ]

-- otherwise they stay in the buffer
shown_stepped : (pages : ℕ → Option (List ℕ)) (k : LogState) (e : Entry) → shown pages (stepped k) e ≡ shown pages k e
unfolding shown
shown_stepped pages k e = refl

-- what a log is spelled on and has live, once a page is done
pub record GoesOn (bytes : ℕ) (held held' : ℕ → Option (List ℕ)) (k k' : LogState) : Type 0 where
  pub spelled : IsSpelledOn bytes held' k'
  pub live : live_on held' k' ≡ live_on held k

-- entries that stand for the same records, in a log of the same shape
goes_on : (bytes : ℕ) (held held' : ℕ → Option (List ℕ)) (k k' : LogState) → k'.shape ≡ k.shape → k'.entries ≡ k.entries → IsSpelledOn bytes held k
    → All (λ e. shown (pages_from k.shape.sets held') k' e ≡ shown (pages_from k.shape.sets held) k e) k.entries → All (IsFlushed bytes (pages_from k.shape.sets held') k') k.entries → GoesOn bytes held held' k k'
goes_on bytes held held' k k' shape entries h same flushed =
    let sets : k'.shape.sets ≡ k.shape.sets = ap (λ s. s.sets) shape in
    let pages = pages_from k.shape.sets held in
    let pages' = pages_from k.shape.sets held' in
    record {
      spelled = subst (λ n. IsSpelled bytes (pages_from n held') k') (sym sets) (record {
        live = subst (λ es. All (IsLive bytes pages' k') es) (sym entries) (λ i d lt. live_as bytes pages pages' k k' (get_or k.entries i d) shape (same i d lt) (h.live i d lt));
        flushed = subst (λ es. All (IsFlushed bytes pages' k') es) (sym entries) flushed;
      });
      live = ap (λ (n : ℕ). live_by (shown (pages_from n held') k') k'.entries) sets ∙ ap (live_by (shown pages' k')) entries ∙ live_by-same (shown pages k) (shown pages' k') k.entries same;
    }

-- one page is done
goes_on_moved : (bytes : ℕ) (held held' : ℕ → Option (List ℕ)) (k : LogState) → IsLog k → k.is_flushing ≡ true → k.stored < k.shape.segments → k.done < k.shape.segment_pages
    → Others k (pages_from k.shape.sets held) (pages_from k.shape.sets held') → IsSpelledOn bytes held k → All (IsDone bytes (pages_from k.shape.sets held') k) k.entries → GoesOn bytes held held' k (moved_on k)
goes_on_moved bytes held held' k is flushing free lq others h done =
    let pages = pages_from k.shape.sets held in
    let pages' = pages_from k.shape.sets held' in
    let over : All (λ e. shown pages' k e ≡ shown pages k e) k.entries = λ i d lt. shown_over pages pages' k (get_or k.entries i d) is (is.held i d lt) flushing free lq others in
    cond_both (eqb (k.done + 1) (length k.flushing)) (finished k) (stepped k) (GoesOn bytes held held' k)
    (λ last. goes_on bytes held held' k (finished k) refl refl h
    (λ i d lt.
    let e = get_or k.entries i d in
    let live : IsLive bytes pages' k e = live_as bytes pages pages' k k e refl (over i d lt) (h.live i d lt) in
    shown_finished bytes pages' k e flushing (eqb-true (k.done + 1) (length k.flushing) last) (done i d lt) live ∙ over i d lt)
    (λ i d lt at off. absurd cc))
    (λ _. goes_on bytes held held' k (stepped k) refl refl h (λ i d lt. shown_stepped pages' k (get_or k.entries i d) ∙ over i d lt) (λ i d lt at on below. done i d lt at below))

-- ---- a page was written, or not

-- an entry of another page of the segment stays known
kept_done : (bytes : ℕ) (pages pages' : ℕ → Option (List ℕ)) (k : LogState) (e : Entry) → k.is_flushing ≡ true → Others k pages pages' → IsFlushed bytes pages k e → e.place.page ≢ k.done → IsDone bytes pages' k e
kept_done bytes pages pages' k e is others flushed differs = λ at below.
    let f = flushed at is (omega (arith, below, differs)) in
    let apart = λ (q : ring_page k (segment_of k e) e.place.page ≡ ring_page k (flushed_number k) k.done). other_page k (flushed_number k) e.place.page k.done differs (ap (λ (n : ℕ). ring_page k n e.place.page) (sym at) ∙ q) in
    record { text = f.text; holds = others (ring_page k (segment_of k e) e.place.page) apart ∙ f.holds; spells = f.spells }

-- the page was written
pub goes_on_wrote : (bytes : ℕ) (held held' : ℕ → Option (List ℕ)) (k : LogState) → IsLog k → k.is_flushing ≡ true → k.stored < k.shape.segments → WritesNext bytes k true held held' → IsSpelledOn bytes held k → GoesOn bytes held held' k (moved_on k)
goes_on_wrote bytes held held' k is flushing free w h =
    let pages = pages_from k.shape.sets held in
    let pages' = pages_from k.shape.sets held' in
    let others = others_on bytes held held' k true w in
    let done : All (IsDone bytes pages' k) k.entries = λ i d lt. elim (cases_eq (get_or k.entries i d).place.page k.done) [
      | inl same ↦ λ at below. subst (IsKnownPage bytes pages' k (segment_of k (get_or k.entries i d))) (sym same) (subst (λ (n : ℕ). IsKnownPage bytes pages' k n k.done) (sym at) w.written)
      | inr differs ↦ kept_done bytes pages pages' k (get_or k.entries i d) flushing others (h.flushed i d lt) differs
    ] in
    goes_on_moved bytes held held' k is flushing free (omega (arith, is.flushing_left flushing, is.flushing_fits)) others h done

not_both : (b : Bool) → not b ≡ true → b ≡ true → ⊥
not_both true n y = absurd cc
not_both false n y = absurd cc

-- no entry that is left is on the page that was lost
left_apart : (k : LogState) (e : Entry) → e.place.segment < names k → not (is_on_page k (flushed_number k) k.done e) ≡ true → segment_of k e ≡ flushed_number k → e.place.page ≢ k.done
left_apart k e name left at same =
    let named : e.place.segment ≡ name_of k (flushed_number k) = sym (name_again k e.place.segment name) ∙ ap (name_of k) at in
    not_both (is_on_page k (flushed_number k) k.done e) left
    (and_from (eqb e.place.segment (name_of k (flushed_number k))) (eqb e.place.page k.done) (eq-eqb e.place.segment (name_of k (flushed_number k)) named) (eq-eqb e.place.page k.done same))

-- the page was not written, and its entries are dropped
pub goes_on_lost : (bytes : ℕ) (held held' : ℕ → Option (List ℕ)) (k : LogState) → IsLog k → k.is_flushing ≡ true → k.stored < k.shape.segments → WritesNext bytes k false held held' → IsSpelledOn bytes held k
    → GoesOn bytes held held' (without_next k) (moved_on (without_next k))
goes_on_lost bytes held held' k is flushing free w h =
    let p : Entry → Bool = λ e. not (is_on_page k (flushed_number k) k.done e) in
    let pages = pages_from k.shape.sets held in
    let pages' = pages_from k.shape.sets held' in
    let others = others_on bytes held held' k false w in
    let left : IsLog (without_next k) = log_kept k p is in
    let spelled : IsSpelledOn bytes held (without_next k) = spelled_kept bytes held k p h in
    let passes = filter_passes p k.entries in
    let done : All (IsDone bytes pages' k) (filter p k.entries) = λ i d lt at below.
    let e = get_or (filter p k.entries) i d in
    kept_done bytes pages pages' k e flushing others (spelled.flushed i d lt) (left_apart k e (left.held i d lt).name (passes i d lt) at) at below in
    goes_on_moved bytes held held' (without_next k) left flushing free (omega (arith, is.flushing_left flushing, is.flushing_fits)) others spelled done

-- the records that are live without the lost page
pub live_lost : (held : ℕ → Option (List ℕ)) (k : LogState) → live_on held (without_next k) ≡ filter (λ x. not (is_on_page k (flushed_number k) k.done x.0)) (live_on held k)
live_lost held k = live_on-kept held k (λ e. not (is_on_page k (flushed_number k) k.done e))

-- a write of the log's page leaves the pages of the sets
pub sets_stay : (held held' : ℕ → Option (List ℕ)) (k : LogState) → ((p : ℕ) → p ≢ device_page k (flushed_number k) k.done → held' p ≡ held p) → pages_before k.shape.sets held' ≡ pages_before k.shape.sets held
sets_stay held held' k others =
    let same : (p : ℕ) → p < k.shape.sets → held' p ≡ held p = λ p below. others p (λ e. omega (arith, e, below)) in
    let at : (p : ℕ) → pages_before k.shape.sets held' p ≡ pages_before k.shape.sets held p = λ p. grind (arith, nat_tests, same p) in
    λ i p. at p i
