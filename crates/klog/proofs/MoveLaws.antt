-- What leaves the log from its oldest segment.
use Rattle.std.proofs.Common.{◌≡◌, ◌≢◌, ℕ, zero, suc, ◌+◌, ◌<◌, ◌≤◌, Bool, true, false, cond, not, eqb, ◌&&◌, List, [], ◌∷◌, length, get_or, filter, Option, Some, None, All, Contains, inl, inr, refl, sym, ap, subst, ◌∙◌, arith}
use Rattle.std.specs.Prelude.{IsSomeAnd}
use Rattle.std.proofs.lemmas.Bool.{false≢true, and_from, and_right, cases_cond, eq-eqb, ne_eqb}
use Rattle.std.proofs.lemmas.Option.{same_Some}
use Rattle.std.proofs.lemmas.List.Elements.{All-contains}
use Rattle.page_device.specs.Frames.{pages_from}
use Rattle.record_pages.specs.Recs.{Rec}
use Rattle.record_pages.specs.declared.record_ref.RecordRef.{RecordRef}
use Rattle.record_pages.specs.Lent.{record_shown}
use Rattle.record_pages.specs.PageText.{SpellsLogPage}
use Rattle.klog_index.specs.declared.entry.Entry.{Entry}
use Rattle.klog_index.specs.Entries.{is_in, without}
use Rattle.klog_index.specs.First.{NoneOfSegment}
use Rattle.klog.specs.declared.fetched.Fetched.TheVariants as fetched
use Rattle.klog.specs.declared.oldest.Oldest.TheVariants as oldest
use Rattle.klog.specs.declared.readmitted.Readmitted.{Readmitted}
use Rattle.klog.specs.declared.readmitted.Readmitted.TheVariants as answers
use Rattle.klog.specs.Buffer.{page_of, record_in}
use Rattle.klog.specs.Log.{LogState}
use Rattle.klog.specs.Names.{names, name_of, number_of, segment_of, flushed_number, filled_number, ring_page}
use Rattle.klog.specs.Shown.{shown, shown_on, live_on, record_of_held, CanStandFor, IsLiveOn, IsFlushed, IsSpelledOn}
use Rattle.klog.specs.Keeps.{IsHeld, IsLog}
use Rattle.klog.specs.Known.{IsPageKnown, IsHad, ShowsIfHad}
use Rattle.klog.specs.Moves.{TellsOldest, IsOfOldest, freed, EntersAnew, ReadmitLeaves, MovesTo, ReadsBack}
use Rattle.klog.specs.Fetch.{stored_on, FetchGives}
use Rattle.klog.proofs.RingLaws.{name_again, number_again, number_from}
use Rattle.klog.proofs.LiveLaws.{live_contained, live_by-same, length-kept}
use Rattle.klog.proofs.OrderLaws.{ordered_again}
use Rattle.klog.proofs.FetchLaws.{IsStored, stored_shows}
use Rattle.klog.proofs.KnownLaws.{page_known, live_had}

-- ---- the oldest segment is freed

-- the segments that are flushed and filled keep their numbers
flushed_freed : (k : LogState) → 0 < k.stored → flushed_number (freed k) ≡ flushed_number k
flushed_freed k some = omega arith

pub filled_freed : (k : LogState) → 0 < k.stored → filled_number (freed k) ≡ filled_number k
filled_freed k some = ap (λ (n : ℕ). cond k.is_flushing (n + 1) n) (flushed_freed k some)

-- an entry of another segment keeps its number
pub segment_freed : (k : LogState) (e : Entry) → IsLog k → IsHeld k e → e.place.segment ≢ name_of k k.first → segment_of (freed k) e ≡ segment_of k e
segment_freed k e log held other =
    let name = name_again k e.place.segment held.name in
    let later : k.first ≢ segment_of k e = λ same. other (sym name ∙ ap (name_of k) (sym same)) in
    let up : filled_number k ≤ flushed_number k + 1 = filled_above (k.is_flushing) in
    let above : k.first + 1 ≤ segment_of k e = omega (arith, number_from k e.place.segment, later) in
    let below : segment_of k e < k.first + 1 + names k = omega (arith, held.segment, up, log.stored_fits) in
    ap (number_of (freed k)) (sym name) ∙ number_again (freed k) (segment_of k e) above below
  where
    filled_above : (b : Bool) → cond b (flushed_number k + 1) (flushed_number k) ≤ flushed_number k + 1
    filled_above true = omega arith
    filled_above false = omega arith

-- what an entry shows goes by three numbers
shown_at : (ℕ → Option (List ℕ)) → LogState → Entry → ℕ → ℕ → ℕ → Option Rec
shown_at pages k e segment filled flushed =
    cond (eqb segment filled) (record_in k.filling e.place.page e.place.slot)
    (cond (k.is_flushing && eqb segment flushed) (record_in k.flushing e.place.page e.place.slot)
    (record_of_held segment e.place.page e.place.slot (pages (ring_page k segment e.place.page))))

shown_freed : (pages : ℕ → Option (List ℕ)) (k : LogState) (e : Entry) → 0 < k.stored → segment_of (freed k) e ≡ segment_of k e → shown pages (freed k) e ≡ shown pages k e
unfolding shown shown_at
shown_freed pages k e some same =
    ap (λ (n : ℕ). shown_at pages k e n (filled_number (freed k)) (flushed_number (freed k))) same
    ∙ ap (λ (n : ℕ). shown_at pages k e (segment_of k e) n (flushed_number (freed k))) (filled_freed k some)
    ∙ ap (λ (n : ℕ). shown_at pages k e (segment_of k e) (filled_number k) n) (flushed_freed k some)

-- all entries keep their numbers if none is of the oldest segment
segments_freed : (k : LogState) → IsLog k → NoneOfSegment (name_of k k.first) k.entries → All (λ e. segment_of (freed k) e ≡ segment_of k e) k.entries
segments_freed k log none = λ i d lt. segment_freed k (get_or k.entries i d) log (log.held i d lt) (none i d lt)

-- the log without its oldest segment is a log
pub log_freed : (k : LogState) → TellsOldest [] k oldest.Empty → IsLog k → IsLog (freed k)
log_freed k tells h = record {
  some_sets = h.some_sets;
  few_sets = h.few_sets;
  some_segments = h.some_segments;
  few_segments = h.few_segments;
  some_pages = h.some_pages;
  few_pages = h.few_pages;
  held = λ i d lt.
      let same = segments_freed k h tells.1 i d lt in
      let q = h.held i d lt in
      record {
        set = q.set;
        name = q.name;
        page = q.page;
        segment = omega (arith, same, q.segment, filled_freed k tells.0);
        filled = λ at. q.filled (sym same ∙ at ∙ filled_freed k tells.0);
      };
  ordered = ordered_again k (freed k) k.entries (segments_freed k h tells.1) h.ordered;
  few_entries = h.few_entries;
  stored_fits = omega (arith, h.stored_fits);
  filling_fits = h.filling_fits;
  flushing_fits = h.flushing_fits;
  numbers = omega (arith, h.numbers, filled_freed k tells.0);
  numbered = λ some. omega (arith, h.numbered some, filled_freed k tells.0);
  flushing_left = h.flushing_left;
  flushing_free = λ is done. omega (arith, h.flushing_free is done);
}

-- its entries show the same
pub live_on-freed : (held : ℕ → Option (List ℕ)) (k : LogState) → TellsOldest [] k oldest.Empty → IsLog k → live_on held (freed k) ≡ live_on held k
live_on-freed held k tells log =
    live_by-same (shown_on held k) (shown_on held (freed k)) k.entries
    (λ i d lt. shown_freed (pages_from k.shape.sets held) k (get_or k.entries i d) tells.0 (segments_freed k log tells.1 i d lt))

-- and are spelled as they were
pub spelled_freed : (bytes : ℕ) (held : ℕ → Option (List ℕ)) (k : LogState) → TellsOldest [] k oldest.Empty → IsLog k → IsSpelledOn bytes held k → IsSpelledOn bytes held (freed k)
spelled_freed bytes held k tells log h = record {
  live = λ i d lt.
      let same = segments_freed k log tells.1 i d lt in
      subst (λ (o : Option Rec). IsSomeAnd o (CanStandFor bytes k.shape (get_or k.entries i d))) (sym (shown_freed (pages_from k.shape.sets held) k (get_or k.entries i d) tells.0 same)) (h.live i d lt);
  flushed = λ i d lt. flushed_as bytes (pages_from k.shape.sets held) k (get_or k.entries i d) tells.0 (segments_freed k log tells.1 i d lt) (h.flushed i d lt);
}
  where
    flushed_as : (bytes : ℕ) (pages : ℕ → Option (List ℕ)) (k : LogState) (e : Entry) → 0 < k.stored → segment_of (freed k) e ≡ segment_of k e → IsFlushed bytes pages k e → IsFlushed bytes pages (freed k) e
    flushed_as bytes pages k e some same h at is below =
        let t = h (sym same ∙ at ∙ flushed_freed k some) is below in
        record {
          text = t.text;
          holds = ap (λ (n : ℕ). pages (ring_page k n e.place.page)) same ∙ t.holds;
          spells = subst (λ (n : ℕ). SpellsLogPage bytes t.text (record { segment = n; page = e.place.page; records = page_of k.flushing e.place.page })) (sym same) t.spells;
        }

-- ---- an entry is dropped

-- if one that is there does not pass, fewer are kept
fewer_kept : (p : Entry → Bool) (es : List Entry) (e : Entry) → Contains es e → p e ≡ false → length (filter p es) < length es
fewer_kept p [] e h out = absurd (omega (arith, h.1))
fewer_kept p (x ∷ es) e h out = by_place h.0 h.1 h.2 (p x) refl (length-kept p es) (λ rest. fewer_kept p es e rest out)
  where
    by_place : (k : ℕ) → k < length (x ∷ es) → get_or (x ∷ es) k e ≡ e → (b : Bool) → p x ≡ b → length (filter p es) ≤ length es → (Contains es e → length (filter p es) < length es)
        → length (cond (p x) (x ∷ filter p es) (filter p es)) < length (x ∷ es)
    by_place zero lt at true is no_more fewer = absurd (false≢true (sym out ∙ sym (ap p at) ∙ is))
    by_place (suc k) lt at true is no_more fewer = rw is (omega (arith, fewer (k, omega (arith, lt), at)))
    by_place k lt at false is no_more fewer = rw is (omega (arith, no_more))

-- an entry lies where it lies
is_in-itself : (e : Entry) → is_in e.set e.place e ≡ true
is_in-itself e =
    and_from _ _ (eq-eqb e.set e.set refl)
    (and_from _ _ (and_from _ _ (eq-eqb e.place.segment e.place.segment refl) (eq-eqb e.place.page e.place.page refl)) (eq-eqb e.place.slot e.place.slot refl))

-- so without it there are fewer
pub fewer_without : (k : LogState) (e : Entry) → IsLog k → Contains k.entries e → length (without (is_in e.set e.place) k.entries) < k.shape.limit
fewer_without k e log listed =
    omega (arith, fewer_kept (λ x. not (is_in e.set e.place x)) k.entries e listed (ap not (is_in-itself e)), log.few_entries)

-- ---- a record of the oldest segment is read

-- the segment of such an entry is on the device
oldest_stored : (k : LogState) (e : Entry) → IsOfOldest k e → IsStored k e
oldest_stored k e h =
    let not_flushed : segment_of k e ≢ flushed_number k = λ same. omega (arith, same, h.oldest, h.some) in
    let not_filled : segment_of k e ≢ filled_number k = λ same. elim (cases_cond k.is_flushing (flushed_number k + 1) (flushed_number k) (filled_number k) refl) [
      | inl next ↦ omega (arith, same, next, h.oldest, h.some)
      | inr at ↦ not_flushed (same ∙ at)
    ] in
    record { not_filled = not_filled; not_flushed = and_right k.is_flushing _ (ne_eqb (segment_of k e) (flushed_number k) not_flushed) }

-- it is live if the log is spelled
pub oldest_live : (bytes : ℕ) (held : ℕ → Option (List ℕ)) (k : LogState) (e : Entry) → IsOfOldest k e → IsSpelledOn bytes held k → IsLiveOn bytes held k e
oldest_live bytes held k e h spelled = All-contains (IsLiveOn bytes held k) k.entries e spelled.live h.listed

-- so its record is a live one
pub oldest_record : (bytes : ℕ) (held : ℕ → Option (List ℕ)) (k : LogState) (e : Entry) → IsOfOldest k e → IsSpelledOn bytes held k → (r : Rec) × (shown_on held k e ≡ Some r) × Contains (live_on held k) (e, r)
oldest_record bytes held k e h spelled = by_case (shown_on held k e) refl (oldest_live bytes held k e h spelled)
  where
    by_case : (o : Option Rec) → shown_on held k e ≡ o → IsSomeAnd o (CanStandFor bytes k.shape e) → (r : Rec) × (shown_on held k e ≡ Some r) × Contains (live_on held k) (e, r)
    by_case (Some r) at can = (r, at, live_contained (shown_on held k) k.entries e r h.listed at)
    by_case None at can = absurd can

-- if the record is damaged the entry is not live
pub oldest_damaged : (bytes : ℕ) (held : ℕ → Option (List ℕ)) (k : LogState) (e : Entry) → IsOfOldest k e → (IsPageKnown held k e → FetchGives bytes k.shape e (stored_on held k e) fetched.Damaged) → IsLiveOn bytes held k e → ⊥
oldest_damaged bytes held k e h gives live =
    let stored = oldest_stored k e h in
    gives (page_known held k e stored (live_had bytes held k e live)) (subst (λ (o : Option Rec). IsSomeAnd o (CanStandFor bytes k.shape e)) (stored_shows held k e stored) live)

-- the record that is given is the one that the entry shows, if that is known
oldest_shows : (bytes : ℕ) (held : ℕ → Option (List ℕ)) (k : LogState) (e : Entry) (found : RecordRef) → IsOfOldest k e → (IsPageKnown held k e → FetchGives bytes k.shape e (stored_on held k e) (fetched.Record found))
    → IsHad held k e → shown_on held k e ≡ Some (record_shown found)
oldest_shows bytes held k e found h gives had = let stored = oldest_stored k e h in stored_shows held k e stored ∙ gives (page_known held k e stored had)

-- as it is if all live records are
pub oldest_given : (bytes : ℕ) (held : ℕ → Option (List ℕ)) (k : LogState) (e : Entry) (found : RecordRef) (r : Rec) → IsOfOldest k e → IsSpelledOn bytes held k
    → (IsPageKnown held k e → FetchGives bytes k.shape e (stored_on held k e) (fetched.Record found)) → shown_on held k e ≡ Some r → record_shown found ≡ r
oldest_given bytes held k e found r h spelled gives shows =
    let live : IsLiveOn bytes held k e = oldest_live bytes held k e h spelled in
    same_Some (record_shown found) r (sym (oldest_shows bytes held k e found h gives (live_had bytes held k e live)) ∙ shows)

-- a record that was had entered anew or found no place
pub leaves_anew : (bytes : ℕ) (k : LogState) (e : Entry) (r : Rec) (a : Readmitted) (k' : LogState) → CanStandFor bytes k.shape e r → EntersAnew bytes k e r a k' → ReadmitLeaves bytes k e a k'
leaves_anew bytes k e r answers.Readmitted k' can is = record { its = r; can = can; room = is.0; added = is.1 }
leaves_anew bytes k e r answers.Dropped k' can is = record { its = r; can = can; full = is.0; left = is.1 }
leaves_anew bytes k e r answers.Fault k' can is = absurd is
leaves_anew bytes k e r answers.Damaged k' can is = absurd is

-- what became of it, if all live records are known
pub moves_to : (bytes : ℕ) (k : LogState) (e : Entry) (r : Rec) (a : Readmitted) (k' : LogState) → EntersAnew bytes k e r a k' → MovesTo bytes k e r a k'
moves_to bytes k e r answers.Readmitted k' is = is
moves_to bytes k e r answers.Dropped k' is = is
moves_to bytes k e r answers.Fault k' is = absurd is
moves_to bytes k e r answers.Damaged k' is = absurd is

-- and what became of it became of the entry's record
pub oldest_back : (bytes : ℕ) (held : ℕ → Option (List ℕ)) (k : LogState) (e : Entry) (found : RecordRef) (a : Readmitted) (k' : LogState) → IsOfOldest k e
    → (IsPageKnown held k e → FetchGives bytes k.shape e (stored_on held k e) (fetched.Record found)) → CanStandFor bytes k.shape e (record_shown found) → EntersAnew bytes k e (record_shown found) a k' → ReadsBack bytes held k e a k'
oldest_back bytes held k e found a k' h gives can enters = by_case a enters
  where
    shows : (P : Rec → Type 0) → P (record_shown found) → ShowsIfHad bytes held k e P
    shows P is = λ had. subst (λ (o : Option Rec). IsSomeAnd o (λ r. CanStandFor bytes k.shape e r × P r)) (sym (oldest_shows bytes held k e found h gives had)) (can, is)

    by_case : (a : Readmitted) → EntersAnew bytes k e (record_shown found) a k' → ReadsBack bytes held k e a k'
    by_case answers.Readmitted is = shows (λ r. EntersAnew bytes k e r answers.Readmitted k') is
    by_case answers.Dropped is = shows (λ r. EntersAnew bytes k e r answers.Dropped k') is
    by_case answers.Fault is = absurd is
    by_case answers.Damaged is = absurd is
