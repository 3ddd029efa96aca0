-- A segment in the making: its pages, each a list of records, none of them empty.
use Rattle.std.specs.Prelude.{ℕ, ◌-◌, List, [], ◌∷◌, ◌++◌, length, Option, Bool, ◌&&◌, ◌||◌, nat_lt, slice_index_or, slice_get, slice_set, if◌then◌else◌}
use Rattle.record_pages.specs.Recs.{Rec, fit_log}

-- pages of records, and how many pages there may be
pub record Buffer : Type 0 where
  pub room : ℕ
  pub pages : List (List Rec)

-- no page so far
abbrev pub empty_buffer : ℕ → Buffer
empty_buffer room = record { room = room; pages = [] }

-- the records of a page
abbrev pub page_of : List (List Rec) → ℕ → List Rec
page_of pages n = slice_index_or pages n []

-- the record in a slot of a page
abbrev pub record_in : List (List Rec) → ℕ → ℕ → Option Rec
record_in pages page slot = slice_get (page_of pages page) slot

-- the record fits on the current page, the last one, of pages of this many bytes
abbrev pub fits_here : ℕ → List (List Rec) → Rec → Bool
fits_here size pages r = nat_lt 0 (length pages) && fit_log size (page_of pages (length pages - 1) ++ r ∷ [])

-- the record goes on the current page if it fits there, otherwise on the next one, if there may be one
abbrev pub can_add : ℕ → Buffer → Rec → Bool
can_add size b r = fits_here size b.pages r || nat_lt (length b.pages) b.room

-- the pages with the record on them
abbrev pub pages_with : ℕ → List (List Rec) → Rec → List (List Rec)
pages_with size pages r =
    if fits_here size pages r then slice_set pages (length pages - 1) (page_of pages (length pages - 1) ++ r ∷ [])
    else (pages ++ (r ∷ []) ∷ [])

-- the page on which the record goes
abbrev pub page_for : ℕ → List (List Rec) → Rec → ℕ
page_for size pages r = if fits_here size pages r then length pages - 1 else length pages

-- the slot of that page in which it goes
abbrev pub slot_for : ℕ → List (List Rec) → Rec → ℕ
slot_for size pages r = if fits_here size pages r then length (page_of pages (length pages - 1)) else 0
