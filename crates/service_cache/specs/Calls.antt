-- What a hit of a cache is, and what its calls do to a seat.
use Rattle.std.specs.Prelude.{◌≡◌, ℕ, List, [], ◌∷◌, ◌++◌, Bool, IsTrue}
use mathlib.Core.List.{IsPrefix}
use Rattle.record_pages.specs.declared.answer.Answer.{Answer}
use Rattle.record_pages.specs.declared.answer.Answer.TheVariants as answers
use Rattle.certificate_checker.specs.Deeds.{Deed}
use Rattle.mover.specs.Get.{answer_of}
use Rattle.mover.specs.declared.answer_kind.AnswerKind.{AnswerKind}
use Rattle.mover.specs.declared.answer_kind.AnswerKind.TheVariants as kinds
use Rattle.service_lane.specs.Asked.{IsLiveHit, TellsExpiry}
use Rattle.service_lane.specs.declared.filled.Filled.{Filled}
use Rattle.service_lane.specs.declared.filled.Filled.TheVariants.{Stored, Stale}
use Rattle.service_cache.specs.declared.looked_up.LookedUp.{LookedUp}
use Rattle.service_cache.specs.declared.looked_up.LookedUp.TheVariants.{Hit, Miss}
use Rattle.service_cache.specs.declared.seat_fault.SeatPutFault.{SeatPutFault}
use Rattle.service_cache.specs.declared.seat_fault.SeatPutFault.TheVariants as refusals

-- A hit is its key's latest value in the list not since removed, live at the moment: in memory whatever the devices do, on flash if
-- the device of the key's lane is said to be honest.
abbrev pub IsHit : (ℕ → Bool) → (List ℕ → ℕ) → List Deed → List ℕ → ℕ → Answer → Type 0
IsHit said lane_of list key moment answer = IsLiveHit (IsTrue (said (lane_of key))) list key moment answer

-- the expiry that is told with a hit is that of the key's latest put in the list: in memory whatever the devices do, on flash if the
-- device of the key's lane is said to be honest
abbrev pub HasExpiry : (ℕ → Bool) → (List ℕ → ℕ) → List Deed → List ℕ → List ℕ → AnswerKind → Type 0
HasExpiry said lane_of list key value seen = TellsExpiry (IsTrue (said (lane_of key))) list key value seen

-- What a lane answered is of a list: a hit and its expiry, by whether the lane's own device is honest, and by whether that is said of
-- the key's lane.
pub record AnswersOf (honest : Type 0) (said : ℕ → Bool) (lane_of : List ℕ → ℕ) (list : List Deed) (key : List ℕ) (moment : ℕ) (value : List ℕ) (seen : AnswerKind) : Type 0 where
  pub live : IsLiveHit honest list key moment (answer_of seen value)
  pub expires : TellsExpiry honest list key value seen
  pub hit : IsHit said lane_of list key moment (answer_of seen value)
  pub told : HasExpiry said lane_of list key value seen

-- what a look-up gave that leases a key at a miss, if this is in the buffer
abbrev pub looked_up : LookedUp → List ℕ → Answer
looked_up (Hit tier expires) value = answers.Hit value tier
looked_up (Miss cause lease) value = answers.Miss cause

-- what it gave, as a get that leases nothing says it
abbrev pub kind_of : LookedUp → AnswerKind
kind_of (Hit tier expires) = kinds.Hit tier expires
kind_of (Miss cause lease) = kinds.Miss cause

-- a look-up that found no value
abbrev pub HasMissed : LookedUp → Type 0
HasMissed (Hit tier expires) = ⊥
HasMissed (Miss cause lease) = Unit {0}

-- a write comes after all that the seat had seen, and is the last that it has seen now
pub record AddsLast (seat_old : List Deed) (write : Deed) (seat_new : List Deed) : Type 0 where
  pub before : List Deed
  pub seen : IsPrefix seat_old before
  pub last : seat_new ≡ before ++ write ∷ []

-- what a fill adds: if it is stale, nothing
abbrev pub FillAdds : List Deed → Deed → Filled → List Deed → Type 0
FillAdds seat_old put (Stored pushed) seat_new = AddsLast seat_old put seat_new
FillAdds seat_old put Stale seat_new = seat_new ≡ seat_old

-- What a refused put adds. If the store refused it, it is entered all the same; its key is removed from the lane either way.
abbrev pub RefusedPutAdds : List Deed → Deed → SeatPutFault → List Deed → Type 0
RefusedPutAdds seat_old put (refusals.Put fault) seat_new = AddsLast seat_old put seat_new
RefusedPutAdds seat_old put (refusals.Book fault) seat_new = seat_new ≡ seat_old
