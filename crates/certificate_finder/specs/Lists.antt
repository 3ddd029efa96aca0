-- Lists of what calls of some kind are.
use Rattle.std.specs.Prelude.{◌≡◌, ◌≢◌, ℕ, ◌<◌, ◌≤◌, ◌⊎◌, List, [], ◌∷◌, ◌++◌, length, All, AllPairs, Bool, Contains, IsTrue, slice_get, Some}
use Rattle.certificate_finder.specs.declared.numbered_call.NumberedCall.{NumberedCall}

-- an item tells of a call that is wanted
pub record TellsOne {X : Type 0} (steps : List NumberedCall) (wanted : NumberedCall → Type 0) (tells : ℕ → NumberedCall → X → Type 0) (item : X) : Type 0 where
  pub position : ℕ
  pub step : NumberedCall
  pub at : slice_get steps position ≡ Some step
  pub is_wanted : wanted step
  pub told : tells position step item

-- some item tells of this call
pub record IsTold {X : Type 0} (tells : ℕ → NumberedCall → X → Type 0) (items : List X) (position : ℕ) (step : NumberedCall) : Type 0 where
  pub item : X
  pub listed : Contains items item
  pub told : tells position step item

-- each item tells of a call that is wanted, and of each such call below a position some item tells
pub record Lists {X : Type 0} (steps : List NumberedCall) (wanted : NumberedCall → Type 0) (tells : ℕ → NumberedCall → X → Type 0) (upto : ℕ) (items : List X) : Type 0 where
  pub few : length items ≤ upto
  pub sound : All (TellsOne steps wanted tells) items
  pub complete : (position : ℕ) (step : NumberedCall) → position < upto → slice_get steps position ≡ Some step → wanted step → IsTold tells items position step

-- no two items are of one place, and all places are below a limit
pub record AreApart {X : Type 0} (place : X → ℕ) (upto : ℕ) (items : List X) : Type 0 where
  pub below : All (λ item. place item < upto) items
  pub distinct : AllPairs (λ one other. place one ≢ place other) items

-- an item tells of the call at a position
pub record IsToldAt {X : Type 0} (steps : List NumberedCall) (position : ℕ) (tells : ℕ → NumberedCall → X → Type 0) (item : X) : Type 0 where
  pub step : NumberedCall
  pub at : slice_get steps position ≡ Some step
  pub told : tells position step item

-- a list has an item more that tells of a call, if the call is wanted, and otherwise is as it was
abbrev pub GrowsBy : {X : Type 0} → (NumberedCall → Type 0) → (ℕ → NumberedCall → X → Type 0) → ℕ → NumberedCall → List X → List X → Type 0
GrowsBy {X} wanted tells position step old new = (wanted step × ((item : X) × tells position step item × (new ≡ old ++ item ∷ []))) ⊎ ((¬ wanted step) × (new ≡ old))

-- all positions below a limit of which a fact holds, in order
pub record AreAllBelow (P : ℕ → Type 0) (upto : ℕ) (positions : List ℕ) : Type 0 where
  pub each : All P positions
  pub all : (position : ℕ) → position < upto → P position → Contains positions position
  pub rise : AllPairs (λ earlier later. earlier < later) positions
  pub below : All (λ position. position < upto) positions

-- a list has a position more if a test holds, and otherwise is as it was
abbrev pub GrowsIf : Bool → ℕ → List ℕ → List ℕ → Type 0
GrowsIf test position old new = (IsTrue test × (new ≡ old ++ position ∷ [])) ⊎ ((¬ IsTrue test) × (new ≡ old))
