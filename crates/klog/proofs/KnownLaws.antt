-- When the record of an entry is known.
use Rattle.std.proofs.Common.{◌≡◌, ℕ, Bool, true, false, eqb, ◌&&◌, ◌||◌, List, Option, Some, None, refl, sym, ap, subst, ◌∙◌}
use Rattle.std.specs.Prelude.{IsSome, IsSomeAnd, IfSome, IsTrue}
use Rattle.std.proofs.lemmas.Bool.{OnFalse_at, OnFalse_from, eq-eqb, ne_eqb, false≢true}
use Rattle.page_device.specs.Device.{faults_after, IsKnown}
use Rattle.record_pages.specs.Recs.{Rec}
use Rattle.record_pages.specs.declared.record_ref.RecordRef.{RecordRef}
use Rattle.klog_index.specs.declared.entry.Entry.{Entry}
use Rattle.klog.specs.declared.fetched.Fetched.{Fetched}
use Rattle.klog.specs.declared.fetched.Fetched.TheVariants as fetched
use Rattle.klog.specs.Log.{LogState}
use Rattle.klog.specs.Names.{segment_of, flushed_number, filled_number}
use Rattle.klog.specs.Shown.{record_on, record_of_held, shown_on, CanStandFor, IsLiveOn}
use Rattle.klog.specs.Known.{AreHeldBy, is_buffered, IsPageKnown, IsHad, ShowsIfHad}
use Rattle.klog.specs.Fetch.{is_fetch_fault, stored_on, FetchGives}
use Rattle.klog.proofs.FetchLaws.{IsStored, stored_shows}

-- an entry whose segment is on the device is in no buffer
stored_apart : (k : LogState) (e : Entry) → IsStored k e → is_buffered k e ≡ false
stored_apart k e h =
    ap (λ (b : Bool). b || (k.is_flushing && eqb (segment_of k e) (flushed_number k))) (ne_eqb (segment_of k e) (filled_number k) h.not_filled) ∙ h.not_flushed

-- and is stored there if it is in none
apart_stored : (k : LogState) (e : Entry) → is_buffered k e ≡ false → IsStored k e
apart_stored k e apart =
    let both = neither (eqb (segment_of k e) (filled_number k)) (k.is_flushing && eqb (segment_of k e) (flushed_number k)) apart in
    record { not_filled = λ same. false≢true (sym both.0 ∙ eq-eqb (segment_of k e) (filled_number k) same); not_flushed = both.1 }
  where
    neither : (a b : Bool) → (a || b) ≡ false → (a ≡ false) × (b ≡ false)
    neither true b is = absurd cc
    neither false b is = (refl, is)

-- its page is known if what lies there is
pub page_known : (held : ℕ → Option (List ℕ)) (k : LogState) (e : Entry) → IsStored k e → IsHad held k e → IsPageKnown held k e
page_known held k e stored had = OnFalse_at (stored_apart k e stored) had

-- What is read of the page of an entry that is in no buffer is what the log shows of it, if that is known.
pub apart_gives : (bytes : ℕ) (held : ℕ → Option (List ℕ)) (k : LogState) (e : Entry) (f : Fetched) → is_buffered k e ≡ false
    → (IsPageKnown held k e → FetchGives bytes k.shape e (stored_on held k e) f) → IsHad held k e → FetchGives bytes k.shape e (shown_on held k e) f
apart_gives bytes held k e f apart gives had =
    let stored = apart_stored k e apart in
    subst (λ (o : Option Rec). FetchGives bytes k.shape e o f) (sym (stored_shows held k e stored)) (gives (page_known held k e stored had))

had_there : (held : ℕ → Option (List ℕ)) (k : LogState) (e : Entry) → (IsStored k e → IsPageKnown held k e) → IsHad held k e
had_there held k e known = OnFalse_from (is_buffered k e) (IsPageKnown held k e) (λ apart. known (apart_stored k e apart))

-- a page that shows a record is known
known_of_record : (segment page slot : ℕ) (o : Option (List ℕ)) (P : Rec → Type 0) → IsSomeAnd (record_of_held segment page slot o) P → IsSome o
unfolding record_on
known_of_record segment page slot (Some text) P h = refl
known_of_record segment page slot None P h = absurd h

-- what lies where a live entry's record is to be is known
pub live_had : (bytes : ℕ) (held : ℕ → Option (List ℕ)) (k : LogState) (e : Entry) → IsLiveOn bytes held k e → IsHad held k e
live_had bytes held k e live =
    had_there held k e
    (λ stored. known_of_record (segment_of k e) e.place.page e.place.slot _ (CanStandFor bytes k.shape e)
    (subst (λ (o : Option Rec). IsSomeAnd o (CanStandFor bytes k.shape e)) (stored_shows held k e stored) live))

-- if no record is given of a live entry the device failed
pub none_failed : (bytes : ℕ) (held : ℕ → Option (List ℕ)) (k : LogState) (e : Entry) (f : Fetched) (before after : ℕ) → ((r : RecordRef) → f ≡ fetched.Record r → ⊥) → after ≡ faults_after before (is_fetch_fault f)
    → (IsHad held k e → FetchGives bytes k.shape e (shown_on held k e) f) → IsLiveOn bytes held k e → after ≡ faults_after before true
none_failed bytes held k e (fetched.Record r) before after none fails gives live = absurd (none r refl)
none_failed bytes held k e fetched.Fault before after none fails gives live = fails
none_failed bytes held k e fetched.Damaged before after none fails gives live = absurd (gives (live_had bytes held k e live) live)

-- what is said of what an entry shows if that is known holds of a live entry's record
pub shows_live : (bytes : ℕ) (held : ℕ → Option (List ℕ)) (k : LogState) (e : Entry) (P : Rec → Type 0) → IsLiveOn bytes held k e → ShowsIfHad bytes held k e P → IsSomeAnd (shown_on held k e) P
shows_live bytes held k e P live shows = weaker (shown_on held k e) (shows (live_had bytes held k e live))
  where
    weaker : (o : Option Rec) → IsSomeAnd o (λ r. CanStandFor bytes k.shape e r × P r) → IsSomeAnd o P
    weaker (Some r) h = h.1
    weaker None h = h

-- what is said of what an entry shows, more loosely
pub shows_weaker : (bytes : ℕ) (held : ℕ → Option (List ℕ)) (k : LogState) (e : Entry) (P Q : Rec → Type 0) → ((r : Rec) → P r → Q r) → ShowsIfHad bytes held k e P → ShowsIfHad bytes held k e Q
shows_weaker bytes held k e P Q weaker shows = λ had. by_case (shown_on held k e) (shows had)
  where
    by_case : (o : Option Rec) → IsSomeAnd o (λ r. CanStandFor bytes k.shape e r × P r) → IsSomeAnd o (λ r. CanStandFor bytes k.shape e r × Q r)
    by_case (Some r) h = (h.0, weaker r h.1)
    by_case None h = h

-- ---- what is known of the pages of a device

module _ {D : Type 0} (honest : D → Bool) (held : D → ℕ → Option (List ℕ)) where
  -- of an honest one all that it holds
  pub all_held : (d : D) → IsTrue (honest d) → AreHeldBy honest held d (held d)
  all_held d is page = by_page (held d page) refl
    where
      by_page : (o : Option (List ℕ)) → held d page ≡ o → IfSome o (λ text. IsTrue (honest d) × (held d page ≡ Some text))
      by_page None at = tt
      by_page (Some text) at = (is, at)

  -- what was known is known if it holds the same
  pub held_still : (d next : D) (known : ℕ → Option (List ℕ)) → honest next ≡ honest d → (IsTrue (honest d) → held next ≡ held d) → AreHeldBy honest held d known → AreHeldBy honest held next known
  held_still d next known honesty same knows page = by_page (known page) (knows page)
    where
      by_page : (o : Option (List ℕ)) → IfSome o (λ text. IsTrue (honest d) × (held d page ≡ Some text)) → IfSome o (λ text. IsTrue (honest next) × (held next page ≡ Some text))
      by_page None h = tt
      by_page (Some text) h = (honesty ∙ h.0, ap (λ (f : ℕ → Option (List ℕ)). f page) (same h.0) ∙ h.1)

  -- what is read of a page is what is known of it
  pub known_read : (d : D) (known : ℕ → Option (List ℕ)) (page : ℕ) (bytes : List ℕ) → AreHeldBy honest held d known → (IsTrue (honest d) → IsKnown (held d page) bytes) → IsKnown (known page) bytes
  known_read d known page bytes knows read = by_page (known page) (knows page)
    where
      by_page : (o : Option (List ℕ)) → IfSome o (λ text. IsTrue (honest d) × (held d page ≡ Some text)) → IsKnown o bytes
      by_page None h = tt
      by_page (Some text) h = subst (λ (o : Option (List ℕ)). IsKnown o bytes) h.1 (read h.0)
