-- When bytes are a key and a value, and why not.
use Rattle.std.specs.Prelude.{◌<◌, ℕ, List, length, Option, Some, None, nat_lt, ◌||◌, ◌==◌, if◌then◌else◌}
use Rattle.record_pages.specs.Bounded.{IsKey, IsValue}
use Rattle.c_lane.specs.declared.status.Status.{Status}
use Rattle.c_lane.specs.declared.status.Status.TheVariants as statuses

-- these bytes are a key and a value
pub record IsObject (key value : List ℕ) : Type 0 where
  pub key_is : IsKey key
  pub value_is : IsValue value

-- why bytes are no key and value: the key is tested first
abbrev pub first_refusal : List ℕ → List ℕ → Option Status
first_refusal key value =
    if (length key == 0) || nat_lt 255 (length key) then Some statuses.WrongKey
    else if nat_lt 2048 (length value) then Some statuses.TooLarge
    else None

-- When each refusal of a key and a value comes.
abbrev pub RefusesObject : List ℕ → List ℕ → Status → Type 0
RefusesObject key value statuses.WrongKey = ¬ IsKey key
RefusesObject key value statuses.TooLarge = IsKey key × (2048 < length value)
RefusesObject key value statuses.NoMemory = IsObject key value
RefusesObject key value status = ⊥
