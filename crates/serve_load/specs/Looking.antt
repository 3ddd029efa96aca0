-- What a look-up gave a caller, and how the caller judges it.
use Rattle.std.specs.Prelude.{◌≡◌, ◌⊎◌, ℕ, List, [], Bool, Result, Ok, Err, slice_index}
use Rattle.record_pages.specs.declared.tier.Tier.{Tier}
use Rattle.record_pages.specs.declared.answer.Answer.TheVariants as answers
use Rattle.mover.specs.declared.answer_kind.AnswerKind.{AnswerKind}
use Rattle.mover.specs.declared.answer_kind.AnswerKind.TheVariants.{Hit, Miss}
use Rattle.certificate_checker.specs.Deeds.{Deed}
use Rattle.service_cache.specs.declared.seat_fault.SeatFault.{SeatFault}
use Rattle.service_cache.specs.Calls.{IsHit}
use Rattle.load.specs.declared.serve_load.ServeLoad.{ServeLoad}
use Rattle.load.specs.declared.serve_operation.ServeOperation.{ServeOperation}
use Rattle.load.specs.declared.serve_operation.ServeOperation.TheVariants.{Get, Put, Remove}
use Rattle.serve_load.specs.declared.words.CallEnd.{CallEnd}
use Rattle.serve_load.specs.declared.words.CallEnd.TheVariants.{Done, Refused, WrongHit}
use Rattle.serve_load.specs.Objects.{key_of, moment_of}
use Rattle.serve_load.specs.Words.{IsRight, JudgesHit}

-- a look-up that gave this, and these bytes at a hit, went so: a hit is judged, a miss is done, and a refusal is refused
abbrev pub Judges : ServeLoad → ℕ → ℕ → ℕ → Result AnswerKind SeatFault → List ℕ → CallEnd → Type 0
Judges load key known moment (Ok (Hit tier expires)) bytes step = JudgesHit load key known moment bytes step
Judges load key known moment (Ok (Miss cause)) bytes step = step ≡ Done
Judges load key known moment (Err fault) bytes step = step ≡ Refused

-- these bytes were hit by a look-up of a key at this moment, by the list that was seen then
pub record IsFound (said : ℕ → Bool) (lane_of : List ℕ → ℕ) (seen : List Deed) (key : List ℕ) (moment : ℕ) (bytes : List ℕ) : Type 0 where
  pub tier : Tier
  pub hit : IsHit said lane_of seen key moment (answers.Hit bytes tier)

-- a caller's look-up at the moment of its operation with this number went so, of a key of which it knew this word. The buffer was
-- emptied before: what is in it then was hit, and is judged; and nothing is in it if nothing was hit
abbrev pub Finds : (ℕ → Bool) → (List ℕ → ℕ) → ServeLoad → ℕ → ℕ → ℕ → ℕ → List Deed → List ℕ → CallEnd → Type 0
Finds said lane_of load caller key known number seen found Done =
    (found ≡ []) ⊎ (IsFound said lane_of seen (key_of caller key) (moment_of load number) found × IsRight load key known (moment_of load number) found)
Finds said lane_of load caller key known number seen found Refused = found ≡ []
Finds said lane_of load caller key known number seen found (WrongHit of_key) =
    (of_key ≡ record { key = key; word = known })
    × IsFound said lane_of seen (key_of caller key) (moment_of load number) found
    × (¬ IsRight load key known (moment_of load number) found)

-- the same of each operation: only a look-up finds anything
abbrev pub FindsAll : (ℕ → Bool) → (List ℕ → ℕ) → ServeLoad → ℕ → ServeOperation → List ℕ → ℕ → List Deed → List ℕ → CallEnd → Type 0
FindsAll said lane_of load caller (Get key) words number seen found step = Finds said lane_of load caller key (slice_index words key) number seen found step
FindsAll said lane_of load caller (Remove key) words number seen found step = Unit {0}
FindsAll said lane_of load caller (Put key) words number seen found step = Unit {0}
