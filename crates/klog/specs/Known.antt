-- What is known of where the record of an entry lies.
use Rattle.std.specs.Prelude.{◌≡◌, ℕ, List, Option, Some, None, IsSome, IsSomeAnd, IfSome, All, Bool, IsTrue, ◌&&◌, ◌||◌, ◌==◌}
use Rattle.std.specs.Bool.{OnFalse}
use Rattle.record_pages.specs.Recs.{Rec}
use Rattle.klog_index.specs.declared.entry.Entry.{Entry}
use Rattle.klog.specs.Log.{LogState}
use Rattle.klog.specs.Buffer.{record_in}
use Rattle.klog.specs.Names.{segment_of, flushed_number, filled_number, device_page}
use Rattle.klog.specs.Shown.{shown_on, CanStandFor}

-- the entry's record lies in one of the two buffers
abbrev pub is_buffered : LogState → Entry → Bool
is_buffered k e = segment_of k e == filled_number k || k.is_flushing && segment_of k e == flushed_number k

-- the entry's record lies in the buffer of these pages, which then has what the log shows of it
pub record IsBufferOf (pages : List (List Rec)) (k : LogState) (e : Entry) : Type 0 where
  pub held : IsTrue (is_buffered k e)
  pub shows : (held : ℕ → Option (List ℕ)) → record_in pages e.place.page e.place.slot ≡ shown_on held k e

-- the records of all these entries lie in the two buffers
abbrev pub AreBuffered : LogState → List Entry → Type 0
AreBuffered k es = All (λ e. IsTrue (is_buffered k e)) es

-- What is known of pages is so of a device: each one of which something is known is a page of an honest device, which holds
-- just that. So if a device is not honest nothing is known of any.
abbrev pub AreHeldBy : {D : Type 0} → (D → Bool) → (D → ℕ → Option (List ℕ)) → D → (ℕ → Option (List ℕ)) → Type 0
AreHeldBy honest held device known = (page : ℕ) → IfSome (known page) (λ text. IsTrue (honest device) × (held device page ≡ Some text))

-- nothing is known of any page
abbrev pub no_pages : ℕ → Option (List ℕ)
no_pages = λ page. None

-- the entry's page is known to hold something
abbrev pub IsPageKnown : (ℕ → Option (List ℕ)) → LogState → Entry → Type 0
IsPageKnown held k e = IsSome (held (device_page k (segment_of k e) e.place.page))

-- what lies where the entry's record is to be is known: that is in a buffer, or on a known page
abbrev pub IsHad : (ℕ → Option (List ℕ)) → LogState → Entry → Type 0
IsHad held k e = OnFalse (is_buffered k e) (IsPageKnown held k e)

-- what lies there, if it is known, is a record that may stand for the entry, and of which this holds
abbrev pub ShowsIfHad : ℕ → (ℕ → Option (List ℕ)) → LogState → Entry → (Rec → Type 0) → Type 0
ShowsIfHad bytes held k e P = IsHad held k e → IsSomeAnd (shown_on held k e) (λ r. CanStandFor bytes k.shape e r × P r)
