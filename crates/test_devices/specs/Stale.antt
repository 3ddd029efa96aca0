-- A device that goes back on one page.
use Rattle.std.specs.Prelude.{ℕ, ◌-◌, ◌==◌, ◌&&◌, List, [], replicate, slice_index_or, slice_set, if◌then◌else◌}

-- its pages as they were last written, the page that goes stale, after how many further writes of it, and the bytes that this page
-- had before its last write
pub record Stale : Type 0 where
  pub pages : List (List ℕ)
  pub page : ℕ
  pub left : ℕ
  pub before : List ℕ

-- so many pages of zeros, of which this one goes stale after so many writes
abbrev pub new_stale : ℕ → ℕ → ℕ → ℕ → Stale
new_stale size pages page writes = record { pages = replicate pages (replicate size 0); page = page; left = writes; before = replicate size 0 }

-- what a read of a page gives
abbrev pub bytes_of : Stale → ℕ → List ℕ
bytes_of d page = if (page == d.page) && (d.left == 0) then d.before else slice_index_or d.pages page []

-- the device after a write of these bytes to a page
abbrev pub after_write : Stale → ℕ → List ℕ → Stale
after_write d page bytes = record {
  pages = slice_set d.pages page bytes;
  page = d.page;
  left = if page == d.page then d.left - 1 else d.left;
  before = if page == d.page then slice_index_or d.pages page [] else d.before;
}
