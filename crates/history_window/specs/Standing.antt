-- Which calls stand for which, whatever comes later.
use Rattle.std.specs.Prelude.{◌↔◌, ◌⊎◌, ℕ, ◌≤◌, List, ◌++◌, All}
use Rattle.trace_file.specs.declared.call.Call.{Call}
use Rattle.certificate_checker.specs.Acceptance.{IsAccepted}
use Rattle.certificate_checker.specs.Deeds.{deed_of}
use Rattle.certificate_checker.specs.Latest.{Writes}

-- some certificate of a history is accepted
abbrev pub Acceptable : List Call → Type 0
Acceptable history = (certificate : List ℕ) × IsAccepted history certificate

-- calls start at a stamp or later
abbrev pub StartFrom : ℕ → List Call → Type 0
StartFrom bound calls = All (λ call. bound ≤ call.start) calls

-- no write of a key ended before a stamp
abbrev pub IsUnwritten : ℕ → List Call → List ℕ → Type 0
IsUnwritten bound calls key = All (λ call. Writes (deed_of call) key → bound ≤ call.end) calls

-- a call may come after others: it starts at a stamp or later, or none of them is a write of its key that ended before it
abbrev pub MayFollow : ℕ → List Call → Call → Type 0
MayFollow bound calls call = (bound ≤ call.start) ⊎ IsUnwritten bound calls call.key

-- some calls stand for a history, if all that is still to come may follow them at a stamp: whatever comes, both are acceptable or neither is. From that stamp on, a key that has no write that ended has none in the history
pub record StandFor (bound : ℕ) (kept history : List Call) : Type 0 where
  pub alike : (later : List Call) → All (MayFollow bound kept) later → Acceptable (kept ++ later) ↔ Acceptable (history ++ later)
  pub unwritten : (stamp : ℕ) (key : List ℕ) → bound ≤ stamp → IsUnwritten stamp kept key → IsUnwritten stamp history key
