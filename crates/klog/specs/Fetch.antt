-- What the reading of an entry's record gives.
use Rattle.std.specs.Prelude.{◌≡◌, ℕ, List, Option, Some, IsSomeAnd, Bool, true, false}
use Rattle.record_pages.specs.Recs.{Rec}
use Rattle.record_pages.specs.Lent.{record_shown}
use Rattle.klog_index.specs.declared.entry.Entry.{Entry}
use Rattle.klog.specs.declared.fetched.Fetched.{Fetched}
use Rattle.klog.specs.declared.fetched.Fetched.TheVariants as fetched
use Rattle.klog.specs.Log.{Shape, LogState}
use Rattle.klog.specs.Names.{segment_of, device_page}
use Rattle.klog.specs.Shown.{place_in, record_of_held, CanStandFor}

-- a key has this entry's set and tag
abbrev pub IsPlaceOf : Shape → List ℕ → Entry → Type 0
IsPlaceOf shape key e = ((place_in shape key).set ≡ e.set) × ((place_in shape key).tag ≡ e.tag)

-- the device failed
abbrev pub is_fetch_fault : Fetched → Bool
is_fetch_fault fetched.Fault = true
is_fetch_fault _ = false

-- a record that is given may stand for the entry
abbrev pub IsItsOwn : ℕ → Shape → Entry → Fetched → Type 0
IsItsOwn bytes shape e (fetched.Record r) = CanStandFor bytes shape e (record_shown r)
IsItsOwn bytes shape e fetched.Fault = Unit {0}
IsItsOwn bytes shape e fetched.Damaged = Unit {0}

-- the record that an entry's page is known to hold
abbrev pub stored_on : (ℕ → Option (List ℕ)) → LogState → Entry → Option Rec
stored_on held k e = record_of_held (segment_of k e) e.place.page e.place.slot (held (device_page k (segment_of k e) e.place.page))

-- a record that is given is the one that lies there; if one is damaged, what lies there cannot stand for the entry
abbrev pub FetchGives : ℕ → Shape → Entry → Option Rec → Fetched → Type 0
FetchGives bytes shape e there (fetched.Record r) = there ≡ Some (record_shown r)
FetchGives bytes shape e there fetched.Fault = Unit {0}
FetchGives bytes shape e there fetched.Damaged = IsSomeAnd there (CanStandFor bytes shape e) → ⊥
