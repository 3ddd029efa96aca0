-- The hashes that are struck in sets.
use Rattle.std.specs.Prelude.{ℕ, zero, suc, ◌+◌, ◌&&◌, ◌||◌, Bool, nat_le, nat_lt, List, [], ◌∷◌, replicate, slice_index_or, slice_set, refl}
use Rattle.std.specs.Coded.{Coded, code_by, coded×, coded_ℕ, coded_list}
use Rattle.std.specs.Ordering.{nat_cmp}
use Rattle.std.specs.FinSet.{FinSet, empty, contains, insert, len, code}

-- how many hashes there is room for in all, and those that are struck in each set
pub record Struck : Type 0 where
  pub places : ℕ
  pub sets : List (FinSet nat_cmp)

-- it is stored as that number and that list
abbrev pub struck_code : Coded Struck
struck_code =
    code_by (ℕ × List (FinSet nat_cmp)) (coded× coded_ℕ (coded_list (code coded_ℕ))) (λ p. (p.places, p.sets))
    (λ p. record { places = p.0; sets = p.1 }) (λ _. refl)

-- the hashes that are struck in a set
abbrev pub struck_at : Struck → ℕ → FinSet nat_cmp
struck_at pool set = slice_index_or pool.sets set empty

-- others are struck in one set
abbrev pub with_struck : Struck → ℕ → FinSet nat_cmp → Struck
with_struck pool set hashes = record pool { sets = slice_set pool.sets set hashes }

-- nothing is struck in this many sets
abbrev pub none_struck : ℕ → ℕ → Struck
none_struck sets places = record { places = places; sets = replicate sets empty }

-- how many hashes these sets have together
abbrev pub strike_count : List (FinSet nat_cmp) → ℕ
strike_count [] = 0
strike_count (s ∷ ss) = len s + strike_count ss

-- a place is free
abbrev pub has_place : Struck → Bool
has_place pool = nat_lt (strike_count pool.sets) pool.places

-- A hash can be struck beside those of its set: a place is free or it is there already, and with it they are eight at most.
abbrev pub can_strike : Bool → FinSet nat_cmp → ℕ → Bool
can_strike free hashes hash = (free || contains hashes hash) && nat_le (len (insert hashes hash)) 8

-- the set of these hashes
abbrev pub set_of : List ℕ → FinSet nat_cmp
set_of [] = empty
set_of (x ∷ xs) = insert (set_of xs) x

-- what this many sets have, from one on
abbrev pub sets_from : ℕ → ℕ → (ℕ → FinSet nat_cmp) → List (FinSet nat_cmp)
sets_from at zero f = []
sets_from at (suc n) f = f at ∷ sets_from (at + 1) n f
