-- The pages of the sets on a device.
use Rattle.std.specs.Prelude.{◌≡◌, ◌≢◌, ℕ, List, [], Option, Some, option_and_then}
use Rattle.std.specs.Option.{option_map_or}
use Rattle.std.specs.FinSet.{empty}
use Rattle.page_device.specs.Frames.{pages_before}
use Rattle.record_pages.specs.Recs.{Rec}
use Rattle.record_pages.specs.PageText.{SetPageParts, SpellsSetPage}
use Rattle.record_pages.specs.Reading.{set_page_at}
use Rattle.kset.specs.Sets.{SetsState, set_count, notes_of}

-- a page of this size is known, and it spells a page of this set with lawful records
pub record IsPageOf (size set : ℕ) (known : Option (List ℕ)) : Type 0 where
  pub bytes : List ℕ
  pub page : SetPageParts
  pub holds : known ≡ Some bytes
  pub spelled : SpellsSetPage size bytes page
  pub its : page.set ≡ set

-- each set with a filter bit has its page among these
abbrev pub AreSpelled : ℕ → (ℕ → Option (List ℕ)) → SetsState → Type 0
AreSpelled size pages k = (set : ℕ) → (notes_of k set).filter ≢ empty → IsPageOf size set (pages set)

-- each set with a filter bit has its page among the first pages of a device, one for each set
abbrev pub AreSpelledOn : ℕ → (ℕ → Option (List ℕ)) → SetsState → Type 0
AreSpelledOn size held k = AreSpelled size (pages_before (set_count k) held) k

-- the records of a page that is known to be a set page
abbrev pub records_on : Option (List ℕ) → List Rec
records_on known = option_map_or (λ p. p.records) (option_and_then set_page_at known) []

-- the records on a set's page
abbrev pub page_records : (ℕ → Option (List ℕ)) → SetsState → ℕ → List Rec
page_records held k set = records_on (pages_before (set_count k) held set)
