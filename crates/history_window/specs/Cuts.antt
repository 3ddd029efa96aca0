-- Cuts and windows of calls in numbers.
use Rattle.std.specs.Prelude.{◌≡◌, ◌≢◌, ℕ, ◌<◌, ◌≤◌, ◌⊎◌, List, All, Contains, slice_get, Some, true, ◌||◌}
use Rattle.std.specs.List.Sorted.{IsNonDecreasingBy}
use Rattle.certificate_finder.specs.Leaves.{itself}
use Rattle.history_window.specs.declared.coded_call.CodedCall.{CodedCall}
use Rattle.history_window.specs.declared.cuts.Cuts.{Cuts}
use Rattle.history_window.specs.Reaches.{IsEarlyEnd, IsLateStart}
use Rattle.history_window.specs.Tables.{first_turn}

-- each other write of a call's key precedes it or follows it in time
abbrev pub IsAlone : List CodedCall → CodedCall → Type 0
IsAlone codes code = (other : CodedCall) → Contains codes other → other.writes ≡ true → other.key ≡ code.key → other.position ≢ code.position → (other.end < code.start) ⊎ (code.end < other.start)

-- no hit of the key has an early end before the call's start and a late start from there on
abbrev pub IsClear : List CodedCall → CodedCall → Type 0
IsClear codes code = (hit : CodedCall) (end start : ℕ) → Contains codes hit → hit.reads ≡ true → hit.key ≡ code.key → IsEarlyEnd codes hit end → IsLateStart codes hit start → end < code.start → ¬ (code.start ≤ start)

-- a call in numbers is a cut
pub record IsCutCode (codes : List CodedCall) (bound : ℕ) (code : CodedCall) : Type 0 where
  pub writes : code.writes ≡ true
  pub over : code.end < bound
  pub alone : IsAlone codes code
  pub clear : IsClear codes code

-- a number is the turn of a cut
pub record IsCutTurn (codes : List CodedCall) (bound turn : ℕ) : Type 0 where
  pub code : CodedCall
  pub listed : Contains codes code
  pub cut : IsCutCode codes bound code
  pub is : first_turn code ≡ turn

-- the turns of all cuts below a position
pub record AreCutTurns (codes : List CodedCall) (bound upto : ℕ) (turns : List ℕ) : Type 0 where
  pub sound : All (IsCutTurn codes bound) turns
  pub complete : (k : ℕ) (code : CodedCall) → k < upto → slice_get codes k ≡ Some code → IsCutCode codes bound code → Contains turns (first_turn code)

-- the turns of all cuts, in order
pub record AreCuts (codes : List CodedCall) (cuts : Cuts) : Type 0 where
  pub sound : All (IsCutTurn codes cuts.bound) cuts.turns.items
  pub complete : (code : CodedCall) → Contains codes code → IsCutCode codes cuts.bound code → Contains cuts.turns.items (first_turn code)
  pub rise : IsNonDecreasingBy itself cuts.turns.items

-- of the cuts of a key the one whose turn comes last
pub record IsLastCode (codes : List CodedCall) (bound key : ℕ) (cut : CodedCall) : Type 0 where
  pub listed : Contains codes cut
  pub is : IsCutCode codes bound cut
  pub of_key : cut.key ≡ key
  pub last : (other : CodedCall) → Contains codes other → IsCutCode codes bound other → other.key ≡ key → first_turn other ≤ first_turn cut

-- a late start of a hit is a stamp or comes after it
pub record IsLateFrom (codes : List CodedCall) (code : CodedCall) (stamp : ℕ) : Type 0 where
  pub start : ℕ
  pub late : IsLateStart codes code start
  pub enough : stamp ≤ start

-- a call in numbers stays
pub record StaysCode (codes : List CodedCall) (bound : ℕ) (code : CodedCall) : Type 0 where
  pub no_miss : (code.writes || code.reads) ≡ true
  pub uncut : (cut : CodedCall) → IsLastCode codes bound code.key cut → (code.position ≡ cut.position) ⊎ ((cut.end < code.start) ⊎ ((code.reads ≡ true) × IsLateFrom codes code cut.start))

-- the call at a position stays
pub record StaysAt (codes : List CodedCall) (bound position : ℕ) : Type 0 where
  pub code : CodedCall
  pub at : slice_get codes position ≡ Some code
  pub stays : StaysCode codes bound code
