-- Lanes that are over. No contract of a public call cites this: it is how `finish` goes its way.
use Rattle.std.specs.Prelude.{◌≡◌, ℕ, suc, ◌<◌, ◌≤◌, List, [], ◌∷◌, Bool, IsTrue, All, AllPairs, length}
use Rattle.certificate_checker.specs.Latest.{IsLawful}
use Rattle.recorded_lane.specs.Lane.{deeds_of, max_calls}
use Rattle.recorded_lane.specs.declared.noted.Noted.{Noted}

-- what is true of the calls of a lane that is over, if each key has a lane: the keys are of the lane with this number,
-- calls start before their points, points rise, and if its device is honest the calls are lawful
pub record IsOver {D : Type 0} (honest : D → Bool) (lane_of : List ℕ → ℕ) (number : ℕ) (calls : List Noted) (device : D) : Type 0 where
  pub keys : All (λ n. lane_of n.key ≡ number) calls
  pub starts : All (λ n. n.start < n.point) calls
  pub points : AllPairs (λ a b. a.point < b.point) calls
  pub few : length calls ≤ max_calls
  pub lawful : IsTrue (honest device) → IsLawful (deeds_of calls)

-- the same of lanes and their devices, if the first lane has this number
abbrev pub AreOver : {D : Type 0} → (D → Bool) → (List ℕ → ℕ) → ℕ → List (List Noted) → List D → Type 0
AreOver honest lane_of number [] [] = Unit {0}
AreOver honest lane_of number [] (d ∷ ds) = ⊥
AreOver honest lane_of number (c ∷ cs) [] = ⊥
AreOver honest lane_of number (c ∷ cs) (d ∷ ds) = IsOver honest lane_of number c d × AreOver honest lane_of (suc number) cs ds
