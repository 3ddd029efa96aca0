-- What the rows are of.
use Rattle.std.specs.Prelude.{◌≡◌, ℕ, List, None, IsSomeAnd}
use Rattle.record_pages.specs.Expiry.{value_at}
use Rattle.record_pages.specs.Recs.{Rec}
use Rattle.kset.specs.Shown.{first_visible}

-- the first of these visible records with the key is not live at the moment
abbrev pub HasExpired : List (ℕ × Rec) → List ℕ → ℕ → Type 0
HasExpired visible key moment = IsSomeAnd (first_visible visible key) (λ x. value_at moment x.1.value ≡ None)
