-- Where puts stand by when they can last be read.
use Rattle.std.specs.Prelude.{◌≡◌, ◌<◌, ◌^◌, ℕ, List, Contains, length, slice_get, Some}
use Rattle.std.specs.List.Sorted.{IsNonDecreasingBy}
use Rattle.certificate_finder.specs.declared.put.Put.{Put}
use Rattle.certificate_finder.specs.Putting.{AreInOrder, last_rank}
use Rattle.certificate_finder.specs.Writing.{IsSplitBelow}

-- the rank of a rank
abbrev pub itself : ℕ → ℕ
itself rank = rank

-- the ranks of when the puts can last be read, in order
pub record AreEnds (puts : List Put) (ends : List ℕ) : Type 0 where
  pub count : length ends ≡ length puts
  pub sorted : IsNonDecreasingBy itself ends
  pub all : (index : ℕ) (put : Put) → slice_get puts index ≡ Some put → Contains ends (last_rank put)

-- this many of the ranks are below one
abbrev pub IsBelow : List ℕ → ℕ → ℕ → Type 0
IsBelow ends rank index = IsSplitBelow itself ends rank index

-- for each put below an index its leaf: how many of the ranks are below its own
pub record AreLeavesOf (puts : List Put) (ends : List ℕ) (upto : ℕ) (leaves : List ℕ) : Type 0 where
  pub count : length leaves ≡ upto
  pub each : (index leaf : ℕ) (put : Put) → slice_get puts index ≡ Some put → slice_get leaves index ≡ Some leaf → IsBelow ends (last_rank put) leaf

-- puts in their order stand at these leaves, by these ranks of when they can last be read
pub record AreLeaved (puts : List Put) (ends leaves : List ℕ) : Type 0 where
  pub few : length puts < 2 ^ 31
  pub order : AreInOrder puts
  pub ends_are : AreEnds puts ends
  pub leaves_are : AreLeavesOf puts ends (length puts) leaves
