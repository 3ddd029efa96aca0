-- The page of another set.
use Rattle.std.specs.Prelude.{◌≢◌, ℕ, List, Option, IsSomeAnd}
use Rattle.record_pages.specs.Reading.{set_page_at}

-- the bytes of a page are known, and they are a page, of another set
abbrev pub IsOfAnother : ℕ → Option (List ℕ) → Type 0
IsOfAnother set known = IsSomeAnd known (λ bytes. IsSomeAnd (set_page_at bytes) (λ p. p.set ≢ set))
