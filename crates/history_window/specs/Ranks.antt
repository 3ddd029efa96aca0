-- Numbers by which calls are sorted, and look-ups among numbers in order.
use Rattle.std.specs.Prelude.{◌≡◌, ℕ, ◌+◌, ◌*◌, ◌^◌, ◌<◌, ◌≤◌, List, Contains, Option, MatchOption}
use Rattle.std.specs.List.Sorted.{IsNonDecreasingBy, IsPermutation}
use Rattle.certificate_finder.specs.Leaves.{itself}

-- the rank of a stamp among those of all keys, or of all values: by the number of the key or the value, then by the stamp
abbrev pub rank_of : ℕ → ℕ → ℕ
rank_of word stamp = word * 2 ^ 64 + stamp

-- the turn of a place at a stamp among those of all keys: by keys, then by stamps, then by places
abbrev pub turn_of : ℕ → ℕ → ℕ → ℕ
turn_of key stamp place = rank_of key stamp * 2 ^ 32 + place

-- the same numbers in order
pub record AreSorted (made sorted : List ℕ) : Type 0 where
  pub moved : IsPermutation made sorted
  pub rise : IsNonDecreasingBy itself sorted

-- the greatest number of which a fact holds, none if it holds of no number
abbrev pub IsGreatest : (ℕ → Type 0) → Option ℕ → Type 0
IsGreatest P found = MatchOption found ((n : ℕ) → ¬ P n) (λ top. P top × ((n : ℕ) → P n → n ≤ top))

-- the least number of which a fact holds, none if it holds of no number
abbrev pub IsLeast : (ℕ → Type 0) → Option ℕ → Type 0
IsLeast P found = MatchOption found ((n : ℕ) → ¬ P n) (λ least. P least × ((n : ℕ) → P n → least ≤ n))

-- a number is listed, and at most a limit
pub record IsUpto (numbers : List ℕ) (limit n : ℕ) : Type 0 where
  pub listed : Contains numbers n
  pub low : n ≤ limit

-- a number is listed, and at least a limit
pub record IsFrom (numbers : List ℕ) (limit n : ℕ) : Type 0 where
  pub listed : Contains numbers n
  pub high : limit ≤ n

-- a stamp of a word is listed by its rank, and at most a limit
pub record IsStampUpto (ranks : List ℕ) (word limit stamp : ℕ) : Type 0 where
  pub small : stamp < 2 ^ 64
  pub listed : Contains ranks (rank_of word stamp)
  pub low : stamp ≤ limit

-- a stamp of a word is listed by its rank, and at least a limit
pub record IsStampFrom (ranks : List ℕ) (word limit stamp : ℕ) : Type 0 where
  pub small : stamp < 2 ^ 64
  pub listed : Contains ranks (rank_of word stamp)
  pub high : limit ≤ stamp

-- the stamp of a word that has a rank, none if the rank is of another word
abbrev pub IsStampOf : ℕ → ℕ → Option ℕ → Type 0
IsStampOf word rank found = MatchOption found ((stamp : ℕ) → stamp < 2 ^ 64 → ¬ (rank ≡ rank_of word stamp)) (λ stamp. (stamp < 2 ^ 64) × (rank ≡ rank_of word stamp))
