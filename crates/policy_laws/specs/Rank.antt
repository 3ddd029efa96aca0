-- Candidates by rank, and those of them that are kept.
use Rattle.std.specs.Prelude.{◌≡◌, ◌↔◌, ℕ, ◌+◌, ◌-◌, ◌<◌, ◌≤◌, Bool, not, IsTrue, ◌&&◌, ◌==◌, nat_lt, nat_le, List, [], ◌∷◌, length, map, fold, filter, sum_by, All, AllPairs, Contains, if◌then◌else◌}
use Rattle.std.specs.List.{enumerate_from}
use Rattle.record_pages.specs.Sizes.{max_set_records}
use Rattle.policy_laws.specs.declared.item.Item.{Item}
use Rattle.policy_laws.specs.declared.candidate.Candidate.{Candidate}
use Rattle.policy_laws.specs.declared.choice.Choice.{Choice}

-- two truth values are the same
abbrev pub is_same : Bool → Bool → Bool
is_same a b = if a then b else not b

-- a candidate ranks before another: it is nearer, or as near and early if the other is late, or alike in both
-- with the lower item number
abbrev pub rank_before : Candidate → Candidate → Bool
rank_before a b =
    if a.rank.distance == b.rank.distance
    then (if is_same a.rank.late b.rank.late then nat_lt a.item b.item else b.rank.late)
    else nat_lt a.rank.distance b.rank.distance

-- those of the kept candidates that rank before one
abbrev pub kept_before : List Candidate → Candidate → List Candidate
kept_before kept x = filter (λ k. rank_before k x) kept

-- a candidate fits beside the kept ones that rank before it: its size and theirs are within the room, and there
-- are fewer of them than a set page may have
pub record FitsBehind (room : ℕ) (kept : List Candidate) (x : Candidate) : Type 0 where
  pub within : x.size + sum_by (λ k. k.size) (kept_before kept x) ≤ room
  pub few : length (kept_before kept x) < max_set_records

-- the kept of all candidates: they stand by rank, and one is kept exactly when it fits beside the kept ones that
-- rank before it
pub record IsKeptByRank (room : ℕ) (all kept : List Candidate) : Type 0 where
  pub among : All (Contains all) kept
  pub ordered : AllPairs (λ a b. IsTrue (rank_before a b)) kept
  pub exactly : All (λ x. Contains kept x ↔ FitsBehind room kept x) all

-- the choice of a kept candidate
abbrev pub choice_of : Candidate → Choice
choice_of candidate = record { item = candidate.item; prediction = candidate.prediction }

-- a plan lists the kept of all candidates
pub record KeepsByRank (room : ℕ) (all : List Candidate) (plan : List Choice) : Type 0 where
  pub those : List Candidate
  pub by_rank : IsKeptByRank room all those
  pub listed : plan ≡ map choice_of those

-- one candidate more among others that stand by rank
abbrev pub placed_in : Candidate → List Candidate → List Candidate
placed_in x [] = x ∷ []
placed_in x (y ∷ ys) = if rank_before x y then x ∷ y ∷ ys else y ∷ placed_in x ys

-- candidates by rank
abbrev pub by_rank : List Candidate → List Candidate
by_rank all = fold (λ ranked x. placed_in x ranked) [] all

-- of candidates by rank those that fit into a room and a number, of which each leaves less to those after it
abbrev pub fitting : ℕ → ℕ → List Candidate → List Candidate
fitting room number [] = []
fitting room number (x ∷ xs) =
    if nat_le x.size room && nat_lt 0 number
    then x ∷ fitting (room - x.size) (number - 1) xs
    else fitting room number xs

-- the plan that lists those of all candidates that fit, by rank
abbrev pub plan_by_rank : ℕ → List Candidate → List Choice
plan_by_rank room all = map choice_of (fitting room max_set_records (by_rank all))

-- a candidate for each item of a list, by its number and what is known of it
abbrev pub candidates_by : (ℕ → Item → Candidate) → List Item → List Candidate
candidates_by candidate items = map (λ numbered. candidate numbered.0 numbered.1) (enumerate_from 0 items)
