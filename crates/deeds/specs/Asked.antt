-- A store with what was asked of it and answered, and what is true of every such store.
use Rattle.std.specs.Prelude.{◌≡◌, ℕ, List, Option, Some, Bool, IsTrue, Contains}
use Rattle.record_pages.specs.Expiry.{timed}
use Rattle.record_pages.specs.declared.answer.Answer.{Answer}
use Rattle.record_pages.specs.declared.answer.Answer.TheVariants.{Hit, Miss}
use Rattle.record_pages.specs.declared.tier.Tier.TheVariants.{Memory, Log, Set}
use Rattle.memory_cache.specs.declared.pair.Pair.{Pair}
use Rattle.mover.specs.declared.answer_kind.AnswerKind.{AnswerKind}
use Rattle.mover.specs.declared.answer_kind.AnswerKind.TheVariants as seen
use Rattle.mover.specs.Store.{StoreState}
use Rattle.mover.specs.Lane.{lane_of}
use Rattle.mover.specs.Laws.{IsInOrder}
use Rattle.certificate_checker.specs.Deeds.{Deed}
use Rattle.certificate_checker.specs.Current.{current}
use Rattle.certificate_checker.specs.Latest.{IsLive, IsLawful}
use Rattle.deeds.specs.Sound.{IsSound}

-- a store, and what was asked of it and answered since it was opened
pub record Asked (D : Type 0) : Type 0 where
  pub store : StoreState D
  pub deeds : List Deed

-- each of these pairs is what its key has after the deeds, expired or not
abbrev pub AreCurrent : List Deed → List Pair → Type 0
AreCurrent deeds pairs = (p : Pair) → Contains pairs p → current deeds p.key ≡ Some p.value

-- What is true of every such store. On any device each pair in memory is what its key has. If the device is honest each pair
-- that may be shown is, and each hit was its key's latest value not since removed, live at its moment.
pub record IsServed {D : Type 0} (honest : D → Bool) (held : D → ℕ → Option (List ℕ)) (s : Asked D) : Type 0 where
  pub memory : AreCurrent s.deeds s.store.memory.pairs
  pub order : IsTrue (honest s.store.device) → IsInOrder (lane_of held s.store)
  pub sound : IsTrue (honest s.store.device) → IsSound (lane_of held s.store) s.deeds
  pub lawful : IsTrue (honest s.store.device) → IsLawful s.deeds

-- a get that found no value
abbrev pub IsMiss : AnswerKind → Type 0
IsMiss (seen.Hit tier expires) = ⊥
IsMiss (seen.Miss cause) = Unit {0}

-- A hit is its key's latest value not since removed, live at the moment: in memory whatever the device, on flash if it is honest.
abbrev pub IsLiveHit : Type 0 → List Deed → List ℕ → ℕ → Answer → Type 0
IsLiveHit honest deeds key moment (Hit value Memory) = IsLive deeds key value moment
IsLiveHit honest deeds key moment (Hit value Log) = honest → IsLive deeds key value moment
IsLiveHit honest deeds key moment (Hit value Set) = honest → IsLive deeds key value moment
IsLiveHit honest deeds key moment (Miss cause) = Unit {0}

-- The expiry that is told with a hit is that of the key's latest put: in memory whatever the device, on flash if it is honest.
abbrev pub TellsExpiry : Type 0 → List Deed → List ℕ → List ℕ → AnswerKind → Type 0
TellsExpiry honest deeds key value (seen.Hit Memory expires) = current deeds key ≡ Some (timed value expires)
TellsExpiry honest deeds key value (seen.Hit Log expires) = honest → current deeds key ≡ Some (timed value expires)
TellsExpiry honest deeds key value (seen.Hit Set expires) = honest → current deeds key ≡ Some (timed value expires)
TellsExpiry honest deeds key value (seen.Miss cause) = Unit {0}
