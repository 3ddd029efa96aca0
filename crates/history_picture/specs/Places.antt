-- What stands before a place of a certificate.
use Rattle.std.specs.Prelude.{◌≡◌, ℕ, ◌+◌, ◌^◌, ◌<◌, ◌≤◌, List, Some, None, unwrap_or, Option, IsSomeAnd, slice_get}
use Rattle.trace_file.specs.declared.act.Act.{Act}
use Rattle.trace_file.specs.declared.act.Act.TheVariants.{Put, Hit}
use Rattle.trace_file.specs.declared.call.Call.{Call}
use Rattle.certificate_checker.specs.Deeds.{deed_of}
use Rattle.certificate_checker.specs.Latest.{Writes}
use Rattle.certificate_checker.specs.Orders.{Precedes}
use Rattle.certificate_checker.specs.declared.fault.Fault.{Fault}
use Rattle.certificate_checker.specs.declared.fault.Fault.TheVariants as faults
use Rattle.history_picture.specs.declared.latest.Latest.{Latest}
use Rattle.history_picture.specs.declared.latest.Latest.TheVariants.{Nothing, Other, Expired}
use Rattle.history_picture.specs.declared.reason.Reason.{Reason}
use Rattle.history_picture.specs.declared.reason.Reason.TheVariants as reasons

-- the call at a position is a write of the key of the call at another
abbrev pub WritesKeyOf : List Call → ℕ → ℕ → Type 0
WritesKeyOf history hit position =
    IsSomeAnd (slice_get history hit) (λ one. IsSomeAnd (slice_get history position) (λ call. Writes (deed_of call) one.key))

-- an act puts what another hits
abbrev pub PutsWhat : Act → Act → Type 0
PutsWhat (Put value expires) (Hit read moment) = value ≡ read
PutsWhat put act = ⊥

-- the call at a position puts what the call at another hits
abbrev pub PutsValueOf : List Call → ℕ → ℕ → Type 0
PutsValueOf history hit position =
    IsSomeAnd (slice_get history hit) (λ one. IsSomeAnd (slice_get history position) (λ call. PutsWhat call.act one.act))

-- the call at a position precedes the call at another
abbrev pub PrecedesAt : List Call → ℕ → ℕ → Type 0
PrecedesAt history one other =
    IsSomeAnd (slice_get history one) (λ call. IsSomeAnd (slice_get history other) (λ next. Precedes call next))

-- none of the places from one on, below another, has a write of the hit's key
abbrev pub NoneWrites : List Call → List ℕ → ℕ → ℕ → ℕ → Type 0
NoneWrites history certificate from below hit =
    (place position : ℕ) → from ≤ place → place < below → slice_get certificate place ≡ Some position → ¬ WritesKeyOf history hit position

-- this is the last write of the hit's key at the places below this one
pub record IsLastWrite (history : List Call) (certificate : List ℕ) (below hit write : ℕ) : Type 0 where
  pub place : ℕ
  pub before : place < below
  pub at : slice_get certificate place ≡ Some write
  pub writes : WritesKeyOf history hit write
  pub after : NoneWrites history certificate (place + 1) below hit

-- the latest write of the hit's key before a place
abbrev pub IsLatestOf : List Call → List ℕ → ℕ → ℕ → Latest → Type 0
IsLatestOf history certificate below hit Nothing = NoneWrites history certificate 0 below hit
IsLatestOf history certificate below hit (Other write) =
    IsLastWrite history certificate below hit write × ¬ PutsValueOf history hit write
IsLatestOf history certificate below hit (Expired put) =
    IsLastWrite history certificate below hit put × PutsValueOf history hit put

-- no call before the place is preceded by that one
abbrev pub NonePreceded : List Call → List ℕ → ℕ → ℕ → Type 0
NonePreceded history certificate below call =
    (place position : ℕ) → place < below → slice_get certificate place ≡ Some position → ¬ PrecedesAt history call position

-- of the calls before the place, this is the first one that the other precedes
pub record IsPreceded (history : List Call) (certificate : List ℕ) (below call earlier : ℕ) : Type 0 where
  pub place : ℕ
  pub before : place < below
  pub at : slice_get certificate place ≡ Some earlier
  pub precedes : PrecedesAt history call earlier
  pub first : NonePreceded history certificate place call

-- the first of the calls before the place that this one precedes, if there is one
abbrev pub IsEarlier : List Call → List ℕ → ℕ → ℕ → Option ℕ → Type 0
IsEarlier history certificate below call None = NonePreceded history certificate below call
IsEarlier history certificate below call (Some earlier) = IsPreceded history certificate below call earlier

-- the call at a place is out of order, with the first of those before it that it precedes, or itself if there is none
pub record IsOutOfOrder (history : List Call) (certificate : List ℕ) (place position : ℕ) (reason : Reason) : Type 0 where
  pub earlier : Option ℕ
  pub is_earlier : IsEarlier history certificate place position earlier
  pub is : reason ≡ reasons.OutOfOrder place position (unwrap_or earlier position)

-- the hit at a place is wrong, with the latest write before it
pub record IsWrongHit (history : List Call) (certificate : List ℕ) (place position : ℕ) (reason : Reason) : Type 0 where
  pub latest : Latest
  pub is_latest : IsLatestOf history certificate place position latest
  pub is : reason ≡ reasons.WrongHit place position latest

-- the reason that a fault is: the calls that it is about, as the certificate has them at the place, if it has the place
abbrev pub IsReasonOf : List Call → List ℕ → Fault → Reason → Type 0
IsReasonOf history certificate (faults.BadInterval call) reason = call < 2 ^ 32 → reason ≡ reasons.Interval call
IsReasonOf history certificate faults.WrongCount reason = reason ≡ reasons.WrongCount
IsReasonOf history certificate (faults.NotAPlace place) reason =
    (position : ℕ) → slice_get certificate place ≡ Some position → reason ≡ reasons.NotAPlace place position
IsReasonOf history certificate (faults.Repeated place) reason =
    (position : ℕ) → slice_get certificate place ≡ Some position → reason ≡ reasons.Repeated place position
IsReasonOf history certificate (faults.OutOfOrder place) reason =
    (position : ℕ) → slice_get certificate place ≡ Some position → IsOutOfOrder history certificate place position reason
IsReasonOf history certificate (faults.WrongHit place) reason =
    (position : ℕ) → slice_get certificate place ≡ Some position → IsWrongHit history certificate place position reason
