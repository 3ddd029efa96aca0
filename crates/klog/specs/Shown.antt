-- The live records of a log, over the pages of a device.
use Rattle.std.specs.Prelude.{◌≡◌, ℕ, ◌<◌, ◌≤◌, List, Option, Some, None, true, ◌&&◌, ◌==◌, option_and_then, slice_get, find, IsSomeAnd, All, if◌then◌else◌}
use Rattle.std.specs.List.{filter_map}
use Rattle.std.specs.Option.{option_map}
use Rattle.page_device.specs.Frames.{pages_from}
use Rattle.record_pages.specs.Sizes.{room}
use Rattle.record_pages.specs.Recs.{Rec, IsRecord, size}
use Rattle.record_pages.specs.PageText.{LogPageParts, SpellsLogPage}
use Rattle.record_pages.specs.Reading.{log_page_at}
use Rattle.record_pages.specs.Looking.{has_key}
use Rattle.set_hash.specs.Fnv.{fnv1a}
use Rattle.set_hash.specs.Place.{placed_of}
use Rattle.set_hash.specs.declared.placed.Placed.{Placed}
use Rattle.klog_index.specs.declared.entry.Entry.{Entry}
use Rattle.klog.specs.Buffer.{page_of, record_in}
use Rattle.klog.specs.Log.{Shape, LogState}
use Rattle.klog.specs.Names.{segment_of, flushed_number, filled_number, ring_page}

-- the record in a slot of a page that was read, if it is the expected page
unfoldable pub record_on : ℕ → ℕ → ℕ → Option LogPageParts → Option Rec
record_on segment page slot None = None
record_on segment page slot (Some p) = if p.segment == segment && p.page == page then slice_get p.records slot else None

-- the same of what a page is known to hold
abbrev pub record_of_held : ℕ → ℕ → ℕ → Option (List ℕ) → Option Rec
record_of_held segment page slot held = record_on segment page slot (option_and_then log_page_at held)

-- the record that an entry stands for: in one of the two buffers, or else on its page
unfoldable pub shown : (ℕ → Option (List ℕ)) → LogState → Entry → Option Rec
shown pages k e =
    if segment_of k e == filled_number k then record_in k.filling e.place.page e.place.slot
    else (if k.is_flushing && segment_of k e == flushed_number k then record_in k.flushing e.place.page e.place.slot
    else record_of_held (segment_of k e) e.place.page e.place.slot (pages (ring_page k (segment_of k e) e.place.page)))

-- the same over a whole device
abbrev pub shown_on : (ℕ → Option (List ℕ)) → LogState → Entry → Option Rec
shown_on held k e = shown (pages_from k.shape.sets held) k e

-- The live records, newest first: each entry, with the record that it stands for.
abbrev pub live_on : (ℕ → Option (List ℕ)) → LogState → List (Entry × Rec)
live_on held k = filter_map (λ e. option_map (λ r. (e, r)) (shown_on held k e)) k.entries

-- where a key belongs, in a log of this shape
abbrev pub place_in : Shape → List ℕ → Placed
place_in shape key = placed_of shape.lanes shape.sets (fnv1a key)

-- live records are placed: the key of each belongs to its entry's set, and has its entry's tag
abbrev pub ArePlaced : Shape → List (Entry × Rec) → Type 0
ArePlaced shape live = All (λ x. ((place_in shape x.1.key).set ≡ x.0.set) × ((place_in shape x.1.key).tag ≡ x.0.tag)) live

-- the newest of live records with this key
abbrev pub newest_with : List (Entry × Rec) → List ℕ → Option (Entry × Rec)
newest_with live key = find (λ x. has_key key x.1) live

-- a record that may lie where an entry says, on pages of this many bytes: it has the entry's set and tag, and has room
pub record CanStandFor (bytes : ℕ) (shape : Shape) (e : Entry) (r : Rec) : Type 0 where
  pub set_is : (place_in shape r.key).set ≡ e.set
  pub tag_is : (place_in shape r.key).tag ≡ e.tag
  pub small : size r ≤ room bytes
  pub lawful : IsRecord r

-- the entry's record is known, and has its set and tag
abbrev pub IsLive : ℕ → (ℕ → Option (List ℕ)) → LogState → Entry → Type 0
IsLive bytes pages k e = IsSomeAnd (shown pages k e) (CanStandFor bytes k.shape e)

-- the same over a whole device
abbrev pub IsLiveOn : ℕ → (ℕ → Option (List ℕ)) → LogState → Entry → Type 0
IsLiveOn bytes held k e = IsLive bytes (pages_from k.shape.sets held) k e

-- a page is known, and spells this page of a segment with these records
pub record HoldsPage (bytes segment page : ℕ) (rs : List Rec) (known : Option (List ℕ)) : Type 0 where
  pub text : List ℕ
  pub holds : known ≡ Some text
  pub spells : SpellsLogPage bytes text (record { segment = segment; page = page; records = rs })

-- if the entry's page was flushed already, it is known to hold the records of the buffer
abbrev pub IsFlushed : ℕ → (ℕ → Option (List ℕ)) → LogState → Entry → Type 0
IsFlushed bytes pages k e =
    segment_of k e ≡ flushed_number k → k.is_flushing ≡ true → e.place.page < k.done →
    HoldsPage bytes (segment_of k e) e.place.page (page_of k.flushing e.place.page) (pages (ring_page k (segment_of k e) e.place.page))

-- each live record lies in a buffer or on a known page, and the pages that were flushed already hold what the buffer holds
pub record IsSpelled (bytes : ℕ) (pages : ℕ → Option (List ℕ)) (k : LogState) : Type 0 where
  pub live : All (IsLive bytes pages k) k.entries
  pub flushed : All (IsFlushed bytes pages k) k.entries

-- the same over a whole device
abbrev pub IsSpelledOn : ℕ → (ℕ → Option (List ℕ)) → LogState → Type 0
IsSpelledOn bytes held k = IsSpelled bytes (pages_from k.shape.sets held) k
