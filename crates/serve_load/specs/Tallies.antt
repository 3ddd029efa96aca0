-- What the callers of a load counted together.
use Rattle.std.specs.Prelude.{◌≡◌, ◌≤◌, ℕ, zero, suc, List, [], ◌∷◌, ◌++◌, All, length, sum_by}
use Rattle.serve_load.specs.declared.caller_stop.CallerStop.{CallerStop}
use Rattle.serve_load.specs.declared.caller_stop.CallerStop.TheVariants.{AllMade, Halted, TimeOver, Wrong}
use Rattle.serve_load.specs.declared.caller_tally.CallerTally.{CallerTally}
use Rattle.serve_load.specs.declared.told_hit.ToldHit.{ToldHit}
use Rattle.serve_load.specs.Calls.{completed}

-- the numbers below this one, in order
abbrev pub upto : ℕ → List ℕ
upto zero = []
upto (suc n) = upto n ++ n ∷ []

-- these hits, and that of a caller which stopped at a wrong one
abbrev pub with_hit : List ToldHit → CallerStop → List ToldHit
with_hit hits AllMade = hits
with_hit hits TimeOver = hits
with_hit hits Halted = hits
with_hit hits (Wrong hit) = hits ++ hit ∷ []

-- the hits at which callers stopped, that of the last of them first
abbrev pub hits_of : List CallerTally → List ToldHit
hits_of [] = []
hits_of (c ∷ counts) = with_hit (hits_of counts) c.stop

-- these are the sums of what so many callers counted at the most, each of which ended as one of the load's callers may, and the hits at
-- which they stopped
pub record AddUp (is_tally : CallerTally → Type 0) (most operations refused whole : ℕ) (hits : List ToldHit) : Type 0 where
  pub counts : List CallerTally
  pub few : length counts ≤ most
  pub tallies : All (λ c. ∥ is_tally c ∥₁) counts
  pub operations_are : operations ≡ sum_by (λ c. c.operations) counts
  pub refused_are : refused ≡ sum_by (λ c. c.refused) counts
  pub whole_are : whole ≡ sum_by (λ c. completed c.stop) counts
  pub hits_are : hits ≡ hits_of counts
