-- Keys whose last writes are over and alike, and hits that can exclude nothing any more.
use Rattle.std.specs.Prelude.{◌≡◌, ℕ, ◌<◌, List, length}
use Rattle.trace_file.specs.declared.act.Act.{Act}
use Rattle.trace_file.specs.declared.call.Call.{Call}
use Rattle.certificate_finder.specs.Lists.{AreAllBelow}
use Rattle.certificate_finder.specs.Turns.{IsHit, WritesAt, end_at}
use Rattle.history_window.specs.Windows.{IsBefore}

-- a last write of a key: no write of the key follows it in time
pub record IsLastWrite (history : List Call) (key : List ℕ) (write : ℕ) : Type 0 where
  pub writes : WritesAt history write key
  pub last : (other : ℕ) → WritesAt history other key → ¬ IsBefore history write other

-- a key is settled at a stamp: its writes ended before it, and the last ones all did the same
pub record IsSettled (bound : ℕ) (history : List Call) (key : List ℕ) : Type 0 where
  pub act : Act
  pub ended : (write : ℕ) → WritesAt history write key → end_at history write < bound
  pub alike : (write : ℕ) (last : IsLastWrite history key write) → last.writes.call.act ≡ act

-- the hit at a position is settled: it ended before a stamp at which its key is settled
pub record IsSettledHit (bound : ℕ) (history : List Call) (hit : ℕ) : Type 0 where
  pub key : List ℕ
  pub value : List ℕ
  pub moment : ℕ
  pub is : IsHit history hit key value moment
  pub over : end_at history hit < bound
  pub settled : IsSettled bound history key

-- the positions of all calls but for settled hits, in order
abbrev pub AreUnsettled : ℕ → List Call → List ℕ → Type 0
AreUnsettled bound history kept = AreAllBelow (λ position. ¬ IsSettledHit bound history position) (length history) kept
