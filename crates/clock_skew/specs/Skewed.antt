-- Histories that were recorded by clocks that do not agree.
use Rattle.std.specs.Prelude.{◌≡◌, ◌≤◌, ◌+◌, ℕ, List, [], ◌∷◌}
use Rattle.trace_file.specs.declared.act.Act.{Act}
use Rattle.trace_file.specs.declared.act.Act.TheVariants as acts
use Rattle.trace_file.specs.declared.call.Call.{Call}

-- two stamps are at most so far apart
pub record AreNear (skew one other : ℕ) : Type 0 where
  pub below : one ≤ other + skew
  pub above : other ≤ one + skew

-- an act as it was, and as it was recorded: the same, but for its time
abbrev pub IsActSeen : ℕ → Act → Act → Type 0
IsActSeen skew (acts.Put value expires) (acts.Put seen_value seen_expires) = (value ≡ seen_value) × AreNear skew expires seen_expires
IsActSeen skew acts.Remove acts.Remove = Unit {0}
IsActSeen skew (acts.Hit value moment) (acts.Hit seen_value seen_moment) = (value ≡ seen_value) × AreNear skew moment seen_moment
IsActSeen skew acts.Miss acts.Miss = Unit {0}
IsActSeen skew _ _ = ⊥

-- a call as it was, and as it was recorded: the same, but that each of its stamps may be so far from the truth
pub record IsSeen (skew : ℕ) (truth seen : Call) : Type 0 where
  pub key : truth.key ≡ seen.key
  pub start : AreNear skew truth.start seen.start
  pub end : AreNear skew truth.end seen.end
  pub act : IsActSeen skew truth.act seen.act

-- a history as it was, and as it was recorded
abbrev pub AreSeen : ℕ → List Call → List Call → Type 0
AreSeen skew [] [] = Unit {0}
AreSeen skew (call ∷ truth) (recorded ∷ seen) = IsSeen skew call recorded × AreSeen skew truth seen
AreSeen skew _ _ = ⊥
