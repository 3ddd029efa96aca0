-- What a caller knows of its keys: a word for each, 0 if the key has no value, and else 1 more than the number of the operation
-- that put it.
use Rattle.std.specs.Prelude.{◌≡◌, ◌≢◌, ℕ, ◌+◌, ◌-◌, ◌<◌, List, Result, Ok, Err, slice_set}
use Rattle.service_lane.specs.declared.filled.Filled.{Filled}
use Rattle.service_lane.specs.declared.filled.Filled.TheVariants.{Stored, Stale}
use Rattle.service_cache.specs.declared.seat_fault.SeatPutFault.{SeatPutFault}
use Rattle.load.specs.declared.serve_load.ServeLoad.{ServeLoad}
use Rattle.serve_load.specs.declared.words.CallEnd.{CallEnd}
use Rattle.serve_load.specs.declared.words.Known.{Known}
use Rattle.serve_load.specs.declared.words.CallEnd.TheVariants.{Done, Refused, WrongHit}
use Rattle.serve_load.specs.Objects.{expires_of, value_of}

-- a hit is right if the key has a value, the bytes are the value of the operation that put it, and it is not expired
pub record IsRight (load : ServeLoad) (key known moment : ℕ) (bytes : List ℕ) : Type 0 where
  pub has : known ≢ 0
  pub bytes_are : bytes ≡ value_of load.value_bytes key (known - 1)
  pub live : moment < expires_of load (known - 1)

-- a get that hit these bytes went so: it was done if they are right, and otherwise a wrong hit of that key, of which that was known
abbrev pub JudgesHit : ServeLoad → ℕ → ℕ → ℕ → List ℕ → CallEnd → Type 0
JudgesHit load key known moment bytes Done = IsRight load key known moment bytes
JudgesHit load key known moment bytes Refused = ⊥
JudgesHit load key known moment bytes (WrongHit seen) = (seen ≡ record { key = key; word = known }) × (¬ IsRight load key known moment bytes)

-- a fill that was stored is the key's value; one that was stale or refused changes nothing
abbrev pub word_after_fill : Result Filled SeatPutFault → ℕ → ℕ → ℕ
word_after_fill (Ok (Stored pushed)) known number = number + 1
word_after_fill (Ok Stale) known number = known
word_after_fill (Err fault) known number = known

-- how a fill went
abbrev pub step_of_fill : Result Filled SeatPutFault → CallEnd
step_of_fill (Ok filled) = Done
step_of_fill (Err fault) = Refused

-- the words are those from before but for one, which is this
abbrev pub Sets : List ℕ → List ℕ → ℕ → ℕ → Type 0
Sets old new key word = new ≡ slice_set old key word
