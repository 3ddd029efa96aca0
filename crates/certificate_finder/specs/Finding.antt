-- What is found for a history.
use Rattle.std.specs.Prelude.{◌≡◌, ◌≢◌, ℕ, ◌<◌, ◌≤◌, ◌⊎◌, List, [], All, AllPairs, Contains, IsSomeAnd, slice_get}
use Rattle.trace_file.specs.declared.call.Call.{Call}
use Rattle.certificate_checker.specs.Acceptance.{IsAccepted}
use Rattle.certificate_finder.specs.declared.faults.CrossedWrites.{CrossedWrites}
use Rattle.certificate_finder.specs.declared.found.Found.{Found}
use Rattle.certificate_finder.specs.declared.found.Found.TheVariants.{Accepted, Rejected, Undecided}
use Rattle.certificate_finder.specs.declared.witness.Side.{Side}
use Rattle.certificate_finder.specs.declared.witness.Witness.{Witness}
use Rattle.certificate_finder.specs.declared.witness.Witness.TheVariants as witnesses
use Rattle.certificate_finder.specs.Choosing.{IsEarlierBy}
use Rattle.certificate_finder.specs.Reads.{HasNone, HasSeveral}
use Rattle.certificate_finder.specs.Trying.{HasStuckKey}
use Rattle.certificate_finder.specs.Turns.{end_at}
use Rattle.certificate_finder.specs.Witnesses.{AreCrossed, IsUnread, IsWitness}

-- these are all hits that may have read several puts, in order, and there are such; no reason was passed over: the history has none; there is a key for which no rule gives a certificate
pub record AreUndecided (history : List Call) (hits : List ℕ) : Type 0 where
  pub some : hits ≢ []
  pub each : All (HasSeveral history) hits
  pub all : (hit : ℕ) → HasSeveral history hit → Contains hits hit
  pub rise : AllPairs (λ earlier later. earlier < later) hits
  pub settled : (witness : Witness) → ¬ IsWitness history witness
  pub tried : HasStuckKey history

-- a fact of the certificate, if one was found
abbrev pub IfAccepted : Found → (List ℕ → Type 0) → Type 0
IfAccepted (Accepted certificate) P = P certificate
IfAccepted (Rejected witness) P = Unit {0}
IfAccepted (Undecided hits) P = Unit {0}

-- a fact of the reason, if one was found
abbrev pub IfRejected : Found → (Witness → Type 0) → Type 0
IfRejected (Accepted certificate) P = Unit {0}
IfRejected (Rejected witness) P = P witness
IfRejected (Undecided hits) P = Unit {0}

-- a fact of the hits, if nothing was decided
abbrev pub IfUndecided : Found → (List ℕ → Type 0) → Type 0
IfUndecided (Accepted certificate) P = Unit {0}
IfUndecided (Rejected witness) P = Unit {0}
IfUndecided (Undecided hits) P = P hits.items

-- the call at a position ends before it starts
abbrev pub IsReversed : List Call → ℕ → Type 0
IsReversed history position = IsSomeAnd (slice_get history position) (λ call. call.end < call.start)

-- no call ends before it starts
abbrev pub AreForward : List Call → Type 0
AreForward history = All (λ call. call.start ≤ call.end) history

-- a hit that would cross two writes whichever put it read is told: there is no reason of another kind, and of such hits it is the one that ends first, of those that end at one stamp the first in the history
pub record IsFirstUnread (history : List Call) (hit : ℕ) : Type 0 where
  pub forward : AreForward history
  pub some : (other : ℕ) → ¬ HasNone history other
  pub uncrossed : (one other : Side) → ¬ AreCrossed history one other
  pub first : (other : ℕ) (reads : List CrossedWrites) → IsUnread history other reads → (other ≡ hit) ⊎ IsEarlierBy (end_at history) hit other

-- of the reasons that a history has this kind is told, and this call: the first one in the history that ends before it starts; if there is none, of the hits that can have read no put the one that ends first, of those that end at one stamp the first in the history; crossed writes only if there is neither; a hit that would cross two writes whichever put it read only if there is nothing else
abbrev pub IsToldFirst : List Call → Witness → Type 0
IsToldFirst history (witnesses.Interval position) = (other : ℕ) → IsReversed history other → position ≤ other
IsToldFirst history (witnesses.Hit hit puts) = AreForward history × ((other : ℕ) → HasNone history other → (other ≡ hit) ⊎ IsEarlierBy (end_at history) hit other)
IsToldFirst history (witnesses.Crossed one other) = AreForward history × ((hit : ℕ) → ¬ HasNone history hit)
IsToldFirst history (witnesses.Unread unread) = IsFirstUnread history unread.hit

-- what was found holds of the history
pub record IsFound (history : List Call) (found : Found) : Type 0 where
  pub accepted : IfAccepted found (IsAccepted history)
  pub rejected : IfRejected found (IsWitness history)
  pub first : IfRejected found (IsToldFirst history)
  pub undecided : IfUndecided found (AreUndecided history)
