-- What a page says of a key.
use Rattle.std.specs.Prelude.{◌≡◌, ◌<◌, ◌==◌, ℕ, List, Option, Some, None, option_and_then, IsSome, IsSomeAnd, if◌then◌else◌}
use Rattle.record_pages.specs.Expiry.{value_at}
use Rattle.record_pages.specs.PageText.{SetPageParts}
use Rattle.record_pages.specs.Looking.{first_with}
use Rattle.record_pages.specs.Sizes.{max_set_records}
use Rattle.kset.specs.declared.located_in_set.LocatedInSet.{LocatedInSet}
use Rattle.kset.specs.declared.located_in_set.LocatedInSet.TheVariants as located

-- a page, if it is the page of this set
abbrev pub page_if_of : ℕ → Option SetPageParts → Option SetPageParts
page_if_of set read = option_and_then (λ p. if p.set == set then Some p else None) read

-- what a page, if there is one, says of a key at a moment; the buffer has the value of a record that is live, and it is said when that expires
abbrev pub SetPageTells : List ℕ → ℕ → List ℕ → Option SetPageParts → LocatedInSet → Type 0
SetPageTells key moment buffer None located.Damaged = Unit {0}
SetPageTells key moment buffer None _ = ⊥
SetPageTells key moment buffer (Some p) (located.Hit slot expires) =
    (slot < max_set_records) × IsSomeAnd (first_with key p.records) (λ x. (x.0 ≡ slot) × (x.1.value.expires ≡ expires) × (value_at moment x.1.value ≡ Some buffer))
SetPageTells key moment buffer (Some p) located.Expired = IsSomeAnd (first_with key p.records) (λ x. value_at moment x.1.value ≡ None)
SetPageTells key moment buffer (Some p) located.Absent = first_with key p.records ≡ None
SetPageTells key moment buffer (Some p) _ = ⊥

-- there is a page, and a record of it has the key
abbrev pub HasKey : List ℕ → Option SetPageParts → Type 0
HasKey key read = IsSomeAnd read (λ p. IsSome (first_with key p.records))
