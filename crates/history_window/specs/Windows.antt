-- What a judge that reads a stream keeps of the calls read so far.
use Rattle.std.specs.Prelude.{◌≡◌, ◌≢◌, ℕ, ◌<◌, ◌⊎◌, List, length, false, slice_get, Some}
use Rattle.trace_file.specs.declared.call.Call.{Call}
use Rattle.certificate_finder.specs.Lists.{AreAllBelow}
use Rattle.certificate_finder.specs.Spots.{is_miss}
use Rattle.certificate_finder.specs.Turns.{IsHit, WritesAt, end_at, start_at}
use Rattle.certificate_finder.specs.Warming.{PutsAt}

-- the call at one position precedes the call at another: it ends before the other one starts
abbrev pub IsBefore : List Call → ℕ → ℕ → Type 0
IsBefore history one other = end_at history one < start_at history other

-- the call at a position puts this value at the key
pub record IsPut (history : List Call) (key value : List ℕ) (put : ℕ) : Type 0 where
  pub call : Call
  pub at : slice_get history put ≡ Some call
  pub puts : PutsAt key value call

-- a put of this value at the key precedes the cut, and no write of the key stands between that put and the hit in time
pub record HasEarly (history : List Call) (key value : List ℕ) (cut hit : ℕ) : Type 0 where
  pub put : ℕ
  pub is : IsPut history key value put
  pub early : IsBefore history put cut
  pub unreplaced : (write : ℕ) → WritesAt history write key → IsBefore history put write → ¬ IsBefore history write hit

-- the cut itself puts this value at the key, or a put that the cut precedes does; and the hit does not precede that put
pub record HasLate (history : List Call) (key value : List ℕ) (cut hit : ℕ) : Type 0 where
  pub put : ℕ
  pub is : IsPut history key value put
  pub late : (put ≡ cut) ⊎ IsBefore history cut put
  pub begun : ¬ IsBefore history hit put

-- a cut of a key: a write that ended before a stamp and that each other write of the key precedes or follows in time; and no hit of the key that neither precedes it nor follows it has both an early put of its value and a late one
pub record IsCut (bound : ℕ) (history : List Call) (key : List ℕ) (cut : ℕ) : Type 0 where
  pub writes : WritesAt history cut key
  pub over : end_at history cut < bound
  pub alone : (other : ℕ) → WritesAt history other key → other ≢ cut → IsBefore history other cut ⊎ IsBefore history cut other
  pub clear : (hit : ℕ) (value : List ℕ) (moment : ℕ) → IsHit history hit key value moment → ¬ IsBefore history hit cut → ¬ IsBefore history cut hit → HasEarly history key value cut hit → ¬ HasLate history key value cut hit

-- the last cut of a key: each other one precedes it
pub record IsLastCut (bound : ℕ) (history : List Call) (key : List ℕ) (cut : ℕ) : Type 0 where
  pub is : IsCut bound history key cut
  pub last : (other : ℕ) → IsCut bound history key other → other ≢ cut → IsBefore history other cut

-- the call at a position is a hit, and some late put has its value
pub record ReadsLate (history : List Call) (key : List ℕ) (cut hit : ℕ) : Type 0 where
  pub value : List ℕ
  pub moment : ℕ
  pub is : IsHit history hit key value moment
  pub late : HasLate history key value cut hit

-- a call stays, if it is no miss, and is the last cut of its key, or follows that cut in time, or is a hit that reads a late put
pub record Stays (bound : ℕ) (history : List Call) (position : ℕ) : Type 0 where
  pub call : Call
  pub at : slice_get history position ≡ Some call
  pub no_miss : is_miss call.act ≡ false
  pub uncut : (cut : ℕ) → IsLastCut bound history call.key cut → (position ≡ cut) ⊎ (IsBefore history cut position ⊎ ReadsLate history call.key cut position)

-- the window of a history: the positions of all calls that stay, in order
abbrev pub IsWindow : ℕ → List Call → List ℕ → Type 0
IsWindow bound history kept = AreAllBelow (Stays bound history) (length history) kept
