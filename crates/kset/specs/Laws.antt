-- Laws of the sets' definitions, for those who move records into sets.
use Rattle.std.specs.Prelude.{◌≡◌, ◌≢◌, ◌<◌, ℕ, Bool, List, [], Option, Some, All, Result}
use Rattle.std.specs.declared.alloc.AllocError.{AllocError}
use Rattle.page_device.specs.Frames.{pages_before}
use Rattle.record_pages.specs.Recs.{Rec}
use Rattle.set_hash.specs.Fnv.{fnv1a}
use Rattle.set_hash.specs.Place.{placed_of}
use Rattle.kset.specs.declared.rewritten.Rewritten.{Rewritten}
use Rattle.kset.specs.declared.set_read.SetRead.{SetRead}
use Rattle.kset.specs.Notes.{Notes}
use Rattle.kset.specs.Sets.{SetsState, set_count, forgotten}
use Rattle.kset.specs.Pages.{AreSpelledOn}
use Rattle.kset.specs.Shown.{visible_in}
use Rattle.kset.specs.After.{with_set, after_strike, shown_after_reading, shown_after_rewriting}
use Rattle.record_pages.specs.declared.timed_value.TimedValue.{TimedValue}

-- a key belongs into this set, of this many lanes of this many sets
abbrev pub IsKeyOf : ℕ → ℕ → ℕ → List ℕ → Type 0
IsKeyOf lanes sets set key = (placed_of lanes sets (fnv1a key)).set ≡ set

-- each record that a set shows is of that set: its key belongs there
abbrev pub AreOfTheirSets : ℕ → ℕ → (ℕ → List (ℕ × Rec)) → Type 0
AreOfTheirSets lanes sets visible = (set : ℕ) → All (λ x. IsKeyOf lanes sets set x.1.key) (visible set)

-- they stay of their sets under a strike in any set, one for which there is no room too
abbrev pub StrikesKeepSets : Type 0
StrikesKeepSets =
    (lanes sets set hash : ℕ) (free : Bool) (notes : Notes) (visible : ℕ → List (ℕ × Rec))
    → AreOfTheirSets lanes sets visible
    → AreOfTheirSets lanes sets (with_set visible set (after_strike free notes hash (visible set)))

-- when a set is read, whether or not its page is lost
abbrev pub ReadingsKeepSets : Type 0
ReadingsKeepSets =
    (lanes sets set : ℕ) (result : Result SetRead AllocError) (visible : ℕ → List (ℕ × Rec))
    → AreOfTheirSets lanes sets visible
    → AreOfTheirSets lanes sets (shown_after_reading result set visible)

-- when a set is to be written anew with records of it, whether or not it is
abbrev pub RewritingsKeepSets : Type 0
RewritingsKeepSets =
    (lanes sets set : ℕ) (rs : List Rec) (result : Rewritten) (visible : ℕ → List (ℕ × Rec))
    → All (λ r. IsKeyOf lanes sets set r.key) rs
    → AreOfTheirSets lanes sets visible
    → AreOfTheirSets lanes sets (shown_after_rewriting result set rs visible)

-- a record has its key's current value, and is of this set
pub record IsCurrent (lanes sets : ℕ) (current : List ℕ → Option TimedValue) (set : ℕ) (r : Rec) : Type 0 where
  pub now : current r.key ≡ Some r.value
  pub its : IsKeyOf lanes sets set r.key

-- each record that a set shows has its key's current value, and is of that set
abbrev pub AreCurrent : ℕ → ℕ → (List ℕ → Option TimedValue) → (ℕ → List (ℕ × Rec)) → Type 0
AreCurrent lanes sets current visible = (set : ℕ) → All (λ x. IsCurrent lanes sets current set x.1) (visible set)

-- a strike of a key in its set keeps them current, whatever the key's current value becomes
abbrev pub StrikesKeepCurrent : Type 0
StrikesKeepCurrent =
    (lanes sets : ℕ) (was is : List ℕ → Option TimedValue) (key : List ℕ) (set : ℕ) (free : Bool) (notes : Notes) (visible : ℕ → List (ℕ × Rec))
    → IsKeyOf lanes sets set key
    → ((other : List ℕ) → other ≢ key → is other ≡ was other)
    → AreCurrent lanes sets was visible
    → AreCurrent lanes sets is (with_set visible set (after_strike free notes (fnv1a key) (visible set)))

-- so does a reading of a set
abbrev pub ReadingsKeepCurrent : Type 0
ReadingsKeepCurrent =
    (lanes sets : ℕ) (current : List ℕ → Option TimedValue) (set : ℕ) (result : Result SetRead AllocError) (visible : ℕ → List (ℕ × Rec))
    → AreCurrent lanes sets current visible
    → AreCurrent lanes sets current (shown_after_reading result set visible)

-- and a rewriting with current records of the set
abbrev pub RewritingsKeepCurrent : Type 0
RewritingsKeepCurrent =
    (lanes sets : ℕ) (current : List ℕ → Option TimedValue) (set : ℕ) (rs : List Rec) (result : Rewritten) (visible : ℕ → List (ℕ × Rec))
    → All (IsCurrent lanes sets current set) rs
    → AreCurrent lanes sets current visible
    → AreCurrent lanes sets current (shown_after_rewriting result set rs visible)

-- a set that is forgotten shows nothing, and the others what they showed, whatever pages are held
abbrev pub ForgottenShowNothing : Type 0
ForgottenShowNothing =
    (held : ℕ → Option (List ℕ)) (k : SetsState) (set : ℕ)
    → set < set_count k
    → visible_in held (forgotten k set) ≡ with_set (visible_in held k) set []

-- if the pages below the number of sets are the same, each set has its page still and shows what it showed
abbrev pub FramesKeepSets : Type 0
FramesKeepSets =
    (size : ℕ) (was is : ℕ → Option (List ℕ)) (k : SetsState)
    → pages_before (set_count k) is ≡ pages_before (set_count k) was
    → (AreSpelledOn size was k → AreSpelledOn size is k) × (visible_in is k ≡ visible_in was k)
