-- What a look-up in a set answers.
use Rattle.std.specs.Prelude.{◌≡◌, ◌<◌, ℕ, List, Some, None, IsSomeAnd, Bool, true, false, Result, Ok, Err}
use Rattle.std.specs.declared.alloc.AllocError.{AllocError}
use Rattle.record_pages.specs.Expiry.{value_at}
use Rattle.record_pages.specs.Recs.{Rec}
use Rattle.record_pages.specs.Sizes.{max_set_records}
use Rattle.record_pages.specs.declared.looked.Looked.{Looked}
use Rattle.record_pages.specs.declared.looked.Looked.TheVariants as looked
use Rattle.kset.specs.Sets.{SetsState, hit_in}
use Rattle.kset.specs.Shown.{first_visible}

-- the answer is the device's failure
abbrev pub is_set_fault : Result Looked AllocError → Bool
is_set_fault (Ok looked.Fault) = true
is_set_fault _ = false

-- one slot of the page is noted as hit
pub record NotesSlot (old : SetsState) (set : ℕ) (new : SetsState) : Type 0 where
  pub slot : ℕ
  pub within : slot < max_set_records
  pub noted : new ≡ hit_in old set slot

-- a hit notes a slot as hit; otherwise nothing changes
abbrev pub SetLookLeaves : SetsState → ℕ → Result Looked AllocError → SetsState → Type 0
SetLookLeaves old set (Ok (looked.Hit value)) new = NotesSlot old set new
SetLookLeaves old set (Ok looked.Expired) new = new ≡ old
SetLookLeaves old set (Ok looked.Absent) new = new ≡ old
SetLookLeaves old set (Ok looked.Fault) new = new ≡ old
SetLookLeaves old set (Ok looked.Damaged) new = new ≡ old
SetLookLeaves old set (Err e) new = new ≡ old

-- A hit is the first visible record of the key, which is live at the moment, and its slot is noted as hit; expired is a key
-- whose first visible record is not live; absent is a key that no visible record has; no page is damaged.
abbrev pub SetLookGives : List (ℕ × Rec) → List ℕ → ℕ → SetsState → ℕ → Looked → SetsState → Type 0
SetLookGives visible key moment old set (looked.Hit value) new =
    IsSomeAnd (first_visible visible key) (λ x. (value_at moment x.1.value ≡ Some value) × (new ≡ hit_in old set x.0))
SetLookGives visible key moment old set looked.Expired new =
    IsSomeAnd (first_visible visible key) (λ x. value_at moment x.1.value ≡ None) × (new ≡ old)
SetLookGives visible key moment old set looked.Absent new = (first_visible visible key ≡ None) × (new ≡ old)
SetLookGives visible key moment old set looked.Fault new = new ≡ old
SetLookGives visible key moment old set looked.Damaged new = ⊥
