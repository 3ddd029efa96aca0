-- Which calls are shown.
use Rattle.std.specs.Prelude.{◌≡◌, ◌≢◌, ℕ, ◌^◌, ◌<◌, ◌≤◌, ◌⊎◌, List, ◌++◌, All, AllPairs, Contains, length, codes, Some, slice_get, IsSomeAnd}
use Rattle.std.specs.List.{flat_map}
use Rattle.std.specs.List.Sorted.{IsNonDecreasingBy}
use Rattle.trace_file.specs.declared.call.Call.{Call}
use Rattle.history_picture.specs.Chosen.{HaveOneKey, distance}
use Rattle.history_picture.specs.Marks.{marks_of}
use Rattle.history_picture.specs.Measures.{IsSheet}
use Rattle.history_picture.specs.Naming.{start_of}
use Rattle.history_picture.specs.Plain.{IsPlain}
use Rattle.history_picture.specs.Rows.{row_text}
use Rattle.history_picture.specs.Sentences.{sentence_of}
use Rattle.history_picture.specs.declared.reason.Reason.{Reason}
use Rattle.history_picture.specs.declared.sheet.Sheet.{Sheet}

-- a call may be shown if these matter: it is one of them, or a call of the key of the first of them
abbrev pub MayBeShown : List Call → List ℕ → ℕ → Type 0
MayBeShown history marks position =
    Contains marks position ⊎ IsSomeAnd (slice_get marks 0) (λ first. HaveOneKey history position first)

-- when the call at a position started, 0 if there is none
abbrev pub started : List Call → ℕ → ℕ
started history position = start_of (slice_get history position)

-- a call of the first one's key is left out only if there is no room, and what is shown though it does not matter is no farther from the first
abbrev pub IsLeftOut : List Call → List ℕ → ℕ → List ℕ → ℕ → ℕ → Type 0
IsLeftOut history marks most shown first other =
    (length shown ≡ most) × ((one : ℕ) → Contains shown one → ¬ Contains marks one → distance history first one ≤ distance history first other)

-- these calls are shown, if those matter, in any order: each once, and not too many; each that matters, if the history has it; and of the others the calls of the first one's key that are nearest to it
pub record AreTaken (history : List Call) (marks : List ℕ) (most : ℕ) (shown : List ℕ) : Type 0 where
  pub few : length shown ≤ most
  pub there : All (λ position. position < length history) shown
  pub once : AllPairs (λ one other. one ≢ other) shown
  pub marked : All (λ mark. mark < length history → Contains shown mark) marks
  pub each : All (MayBeShown history marks) shown
  pub nearest : (first other : ℕ) → slice_get marks 0 ≡ Some first → other < 2 ^ 32 → HaveOneKey history other first → ¬ Contains shown other
      → IsLeftOut history marks most shown first other

-- these calls are shown, by their starts
pub record AreShown (history : List Call) (marks : List ℕ) (most : ℕ) (shown : List ℕ) : Type 0 where
  pub taken : AreTaken history marks most shown
  pub by_start : IsNonDecreasingBy (started history) shown

-- the text that explains a reason: its sentence, and a line for each of at most 24 calls, all on one scale
pub record IsExplanation (history : List Call) (lines : List ℕ) (callers : List (List ℕ)) (reason : Reason) (text : List ℕ) : Type 0 where
  pub shown : List ℕ
  pub sheet : Sheet
  pub are_shown : AreShown history (marks_of reason) 24 shown
  pub is_sheet : IsSheet history lines callers shown sheet
  pub is : text ≡ sentence_of history lines reason ++ (codes "\n" ++ flat_map (row_text history lines callers (marks_of reason) sheet) shown)
  pub plain : IsPlain text
