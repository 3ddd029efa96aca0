-- What a get that was refused did to the store of a lane.
use Rattle.std.specs.Prelude.{◌≡◌, ◌⊎◌, ℕ, List, Option, Bool, Result}
use Rattle.std.specs.declared.alloc.AllocError.{AllocError}
use Rattle.record_pages.specs.declared.answer.Answer.{Answer}
use Rattle.mover.specs.Store.{StoreState}
use Rattle.mover.specs.Calls.{StoreGets}
use Rattle.recorded_lane.specs.Lane.{Lane}

-- A get of a moment was refused: before the store was asked, or if memory was refused after what the store gave.
abbrev pub MayHaveGot : {D : Type 0} → ℕ → (D → Bool) → (D → ℕ) → (D → ℕ → Option (List ℕ)) → List ℕ → ℕ → StoreState D → StoreState D → Type 0
MayHaveGot size honest failures held key moment old new =
    (new ≡ old) ⊎ ((given : Result Answer AllocError) × StoreGets size honest failures held key moment old given new)

-- what a get leaves that was refused: no call is recorded, and the store may have been asked
pub record LeavesUnrecorded {D : Type 0} (size : ℕ) (honest : D → Bool) (failures : D → ℕ) (held : D → ℕ → Option (List ℕ)) (key : List ℕ) (moment : ℕ) (old new : Lane D) : Type 0 where
  pub unrecorded : new ≡ record old { store = new.store }
  pub asked : MayHaveGot size honest failures held key moment old.store new.store
