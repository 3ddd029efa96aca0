-- With which write each call goes.
use Rattle.std.specs.Prelude.{◌≡◌, ◌≢◌, ℕ, ◌<◌, ◌≤◌, ◌⊎◌, List, [], ◌∷◌, ◌++◌, All, AllPairs, Contains, length, slice_get, Some, IsTrue}
use Rattle.record_pages.specs.Expiry.{is_live}
use Rattle.trace_file.specs.declared.call_kind.CallKind.TheVariants as kinds
use Rattle.certificate_finder.specs.declared.owner.Owner.{Owner}
use Rattle.certificate_finder.specs.declared.owner.Owner.TheVariants as owner
use Rattle.certificate_finder.specs.declared.owning.Owners.{Owners}
use Rattle.certificate_finder.specs.declared.numbered_call.NumberedCall.{NumberedCall}
use Rattle.certificate_finder.specs.Lists.{AreAllBelow}
use Rattle.certificate_finder.specs.Putting.{IsOver}

-- a hit may have read a put, expiry aside
pub record MayRead (steps : List NumberedCall) (hit put : NumberedCall) : Type 0 where
  pub kind : put.kind ≡ kinds.Put
  pub key : put.key ≡ hit.key
  pub value : put.value ≡ hit.value
  pub begun : put.start ≤ hit.end
  pub stands : (position : ℕ) (other : NumberedCall) → slice_get steps position ≡ Some other → IsOver put other → hit.start ≤ other.end

-- a hit may have read a put
pub record ReadsLive (steps : List NumberedCall) (hit put : NumberedCall) : Type 0 where
  pub may : MayRead steps hit put
  pub live : IsTrue (is_live put.time hit.time)

-- a hit may have read the put at a position
pub record ReadsAt (steps : List NumberedCall) (hit : NumberedCall) (position : ℕ) : Type 0 where
  pub put : NumberedCall
  pub at : slice_get steps position ≡ Some put
  pub reads : ReadsLive steps hit put

-- a hit may have read the put at a position, and no other one
pub record ReadsOnly (steps : List NumberedCall) (hit : NumberedCall) (position : ℕ) : Type 0 where
  pub put : NumberedCall
  pub at : slice_get steps position ≡ Some put
  pub reads : ReadsLive steps hit put
  pub only : (other : ℕ) (step : NumberedCall) → slice_get steps other ≡ Some step → ReadsLive steps hit step → other ≡ position

-- a fact holds of two calls
pub record HoldsOfTwo (steps : List NumberedCall) (P : NumberedCall → Type 0) : Type 0 where
  pub one : ℕ
  pub other : ℕ
  pub first : NumberedCall
  pub second : NumberedCall
  pub apart : one ≢ other
  pub one_at : slice_get steps one ≡ Some first
  pub other_at : slice_get steps other ≡ Some second
  pub holds_one : P first
  pub holds_other : P second

-- a hit may have read several puts
abbrev pub ReadsSeveral : List NumberedCall → NumberedCall → Type 0
ReadsSeveral steps hit = HoldsOfTwo steps (ReadsLive steps hit)

-- no put that a hit may have read is live at the hit's moment
abbrev pub ReadsNoLive : List NumberedCall → NumberedCall → Type 0
ReadsNoLive steps hit = (position : ℕ) (put : NumberedCall) → slice_get steps position ≡ Some put → MayRead steps hit put → ¬ IsTrue (is_live put.time hit.time)

-- with which write a call goes
abbrev pub IsOwner : List NumberedCall → NumberedCall → Owner → Type 0
IsOwner steps step owner.Itself = ¬ (step.kind ≡ kinds.Hit)
IsOwner steps step (owner.Put position) = (step.kind ≡ kinds.Hit) × ReadsOnly steps step position
IsOwner steps step owner.Unsure = (step.kind ≡ kinds.Hit) × ReadsSeveral steps step
IsOwner steps step owner.Nothing = (step.kind ≡ kinds.Hit) × ReadsNoLive steps step

-- a call goes by itself: it is no hit, or a hit that may have read several puts
abbrev pub GoesAlone : List NumberedCall → NumberedCall → Type 0
GoesAlone steps step = (step.kind ≡ kinds.Hit) → ReadsSeveral steps step

-- a call at a position is sure of its owner, the put that it may have read alone, or goes by itself
abbrev pub IsSurelyOwned : List NumberedCall → ℕ → NumberedCall → ℕ → Type 0
IsSurelyOwned steps position step owner = ((owner ≡ position) × GoesAlone steps step) ⊎ ((step.kind ≡ kinds.Hit) × ReadsOnly steps step owner)

-- each call goes by itself, or is a hit that may have read its owner alone
pub record AreSingle (steps : List NumberedCall) (owners : List ℕ) : Type 0 where
  pub count : length owners ≡ length steps
  pub owned : (position : ℕ) (step : NumberedCall) (owner : ℕ) → slice_get steps position ≡ Some step → slice_get owners position ≡ Some owner → (owner ≡ position) ⊎ ((step.kind ≡ kinds.Hit) × ReadsOnly steps step owner)

-- a call at a position has this owner: a put that it may have read, if it is a hit, and otherwise itself
abbrev pub IsOwned : List NumberedCall → ℕ → NumberedCall → ℕ → Type 0
IsOwned steps position step owner = ((owner ≡ position) × (¬ (step.kind ≡ kinds.Hit))) ⊎ ((step.kind ≡ kinds.Hit) × ReadsAt steps step owner)

-- the owners of all calls
pub record AreOwners (steps : List NumberedCall) (owners : List ℕ) : Type 0 where
  pub count : length owners ≡ length steps
  pub owned : (position : ℕ) (step : NumberedCall) (owner : ℕ) → slice_get steps position ≡ Some step → slice_get owners position ≡ Some owner → IsOwned steps position step owner

-- a hit at a position may have read several puts
pub record IsUnsure (steps : List NumberedCall) (position : ℕ) : Type 0 where
  pub step : NumberedCall
  pub at : slice_get steps position ≡ Some step
  pub kind : step.kind ≡ kinds.Hit
  pub several : ReadsSeveral steps step

-- the sure owners of the calls below a position, and the hits that may have read several puts
pub record AreSureOwners (steps : List NumberedCall) (upto : ℕ) (owners unsure : List ℕ) : Type 0 where
  pub count : length owners ≡ upto
  pub owned : (position : ℕ) (step : NumberedCall) (owner : ℕ) → slice_get steps position ≡ Some step → slice_get owners position ≡ Some owner → IsSurelyOwned steps position step owner
  pub are_unsure : All (IsUnsure steps) unsure
  pub all : (position : ℕ) → position < upto → IsUnsure steps position → Contains unsure position
  pub rise : AllPairs (λ earlier later. earlier < later) unsure
  pub below : All (λ position. position < upto) unsure

-- with which write the call at a position goes
pub record IsOwnerAt (steps : List NumberedCall) (position : ℕ) (owner : Owner) : Type 0 where
  pub step : NumberedCall
  pub at : slice_get steps position ≡ Some step
  pub is : IsOwner steps step owner

-- the hit at a position can have read no put
pub record IsRefused (steps : List NumberedCall) (position : ℕ) : Type 0 where
  pub step : NumberedCall
  pub at : slice_get steps position ≡ Some step
  pub kind : step.kind ≡ kinds.Hit
  pub none : ReadsNoLive steps step

-- a call at a position is sure of its owner, or is a hit that may have read no put, and goes by itself
abbrev pub IsKnownOwner : List NumberedCall → ℕ → NumberedCall → ℕ → Type 0
IsKnownOwner steps position step owner = IsSurelyOwned steps position step owner ⊎ ((owner ≡ position) × (step.kind ≡ kinds.Hit) × ReadsNoLive steps step)

-- the owners of the calls below a position, the hits that may have read several puts, and those that may have read none
pub record AreKnownOwners (steps : List NumberedCall) (upto : ℕ) (owners : Owners) : Type 0 where
  pub count : length owners.owners.items ≡ upto
  pub owned : (position : ℕ) (step : NumberedCall) (one : ℕ) → slice_get steps position ≡ Some step → slice_get owners.owners.items position ≡ Some one → IsKnownOwner steps position step one
  pub unsure : AreAllBelow (IsUnsure steps) upto owners.unsure.items
  pub wrong : AreAllBelow (IsRefused steps) upto owners.wrong.items

-- there is one owner more, and these hits are unsure and these wrong
pub record HasOneMore (old new : Owners) (one : ℕ) (unsure wrong : List ℕ) : Type 0 where
  pub owners : new.owners.items ≡ old.owners.items ++ one ∷ []
  pub unsure_are : new.unsure.items ≡ unsure
  pub wrong_are : new.wrong.items ≡ wrong

-- the owner of the call at a position is noted
abbrev pub IsNoted : ℕ → Owner → Owners → Owners → Type 0
IsNoted position owner.Itself old new = HasOneMore old new position old.unsure.items old.wrong.items
IsNoted position (owner.Put put) old new = HasOneMore old new put old.unsure.items old.wrong.items
IsNoted position owner.Unsure old new = HasOneMore old new position (old.unsure.items ++ position ∷ []) old.wrong.items
IsNoted position owner.Nothing old new = HasOneMore old new position old.unsure.items (old.wrong.items ++ position ∷ [])
