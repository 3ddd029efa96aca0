-- What a get tells, and what it leaves.
use Rattle.std.specs.Prelude.{◌≡◌, ℕ, List, length, IsTrue}
use Rattle.record_pages.specs.declared.answer.Answer.{Answer}
use Rattle.record_pages.specs.declared.answer.Answer.TheVariants.{Hit, Miss}
use Rattle.record_pages.specs.declared.tier.Tier.{Tier}
use Rattle.record_pages.specs.declared.tier.Tier.TheVariants.{Memory, Log, Set}
use Rattle.mover.specs.declared.answer_kind.AnswerKind.{AnswerKind}
use Rattle.mover.specs.declared.answer_kind.AnswerKind.TheVariants as seen
use Rattle.mover.specs.Get.{answer_of}
use Rattle.service_lane.specs.Asked.{TellsExpiry}
use Rattle.service_lane.specs.Serving.{Serving, Gets}
use Rattle.service_lane.specs.Leases.{lease_for}
use Rattle.service_lane.specs.declared.lease.Lease.{Lease}
use Rattle.service_lane.specs.Counting.{counts_lease}
use Rattle.c_lane.specs.declared.hit.Hit.{Hit as Told}
use Rattle.c_lane.specs.declared.status.Status.{Status}
use Rattle.c_lane.specs.declared.status.Status.TheVariants as statuses
use Rattle.page_device.specs.Counting.{CountedDevice}
use Rattle.c_lane.specs.Lane.{LaneState, Laws, page_bytes, honest_in, failures_in, held_in}
use Rattle.c_lane.specs.Statuses.{status_of_miss}
use Rattle.c_lane.specs.Copying.{copy_status, copied_into}

-- the number of a tier
abbrev pub number_of_tier : Tier → ℕ
number_of_tier Memory = 1
number_of_tier Log = 2
number_of_tier Set = 3

-- no hit
abbrev pub no_hit : Told
no_hit = record { length = 0; expires = 0; tier = 0; reserved = 0 }

-- a hit of a value in a tier, which expires then
abbrev pub hit_with : List ℕ → Tier → ℕ → Told
hit_with value tier expires = record { length = length value; expires = expires; tier = number_of_tier tier; reserved = 0 }

-- the hit of what was seen of a value
abbrev pub hit_of : AnswerKind → List ℕ → Told
hit_of (seen.Hit tier expires) value = hit_with value tier expires
hit_of (seen.Miss cause) value = no_hit

-- the status of an answer, for a buffer
abbrev pub status_of : Answer → List ℕ → Status
status_of (Hit value tier) buffer = copy_status value buffer
status_of (Miss cause) buffer = status_of_miss cause

-- what a buffer holds after an answer
abbrev pub buffer_after : Answer → List ℕ → List ℕ
buffer_after (Hit value tier) buffer = copied_into value buffer
buffer_after (Miss cause) buffer = buffer

-- an answer was told: by its status, in the buffer, and as a hit
pub record TellsAnswer (kind : AnswerKind) (value buffer : List ℕ) (status : Status) (into : List ℕ) (hit : Told) : Type 0 where
  pub status_is : status ≡ status_of (answer_of kind value) buffer
  pub into_is : into ≡ buffer_after (answer_of kind value) buffer
  pub hit_is : hit ≡ hit_of kind value

-- the lane answered a get so
abbrev pub LaneGets : {D : Type 0} → Laws D → List ℕ → ℕ → Answer → Serving (CountedDevice D) → Serving (CountedDevice D) → Type 0
LaneGets laws key moment answer old new = Gets page_bytes (honest_in laws) (failures_in laws) (held_in laws) key moment answer old new

-- the expiry that is told with a hit is that of the key's latest put
abbrev pub LaneTells : {D : Type 0} → Laws D → List ℕ → List ℕ → AnswerKind → Serving (CountedDevice D) → Type 0
LaneTells laws key value kind old = TellsExpiry (IsTrue (honest_in laws old.store.device)) old.deeds key value kind

-- A get: the lane answered it, and the answer was told.
pub record Answers {D : Type 0} (laws : Laws D) (key : List ℕ) (moment : ℕ) (buffer : List ℕ) (old : LaneState D) (status : Status) (new : LaneState D) (into : List ℕ) (hit : Told) : Type 0 where
  pub kind : AnswerKind
  pub value : List ℕ
  pub gets : LaneGets laws key moment (answer_of kind value) old.serving new.serving
  pub expires : LaneTells laws key value kind old.serving
  pub words : new.words ≡ old.words
  pub tells : TellsAnswer kind value buffer status into hit

-- what comes after an answer: at a miss a lease, which is counted; at a hit nothing
abbrev pub LeasedAfter : {D : Type 0} → Answer → List ℕ → Lease → Serving (CountedDevice D) → Serving (CountedDevice D) → Lease → Type 0
LeasedAfter (Hit value tier) key before between new lease = (new ≡ between) × (lease ≡ before)
LeasedAfter (Miss cause) key before between new lease =
    (new ≡ record between { counts = counts_lease between.counts }) × (lease ≡ lease_for between.slots key)

-- A get that leases its key at a miss.
pub record AnswersOrLeases {D : Type 0} (laws : Laws D) (key : List ℕ) (moment : ℕ) (buffer : List ℕ) (before : Lease) (old : LaneState D) (status : Status) (new : LaneState D) (into : List ℕ) (hit : Told) (lease : Lease) : Type 0 where
  pub kind : AnswerKind
  pub value : List ℕ
  pub between : Serving (CountedDevice D)
  pub gets : LaneGets laws key moment (answer_of kind value) old.serving between
  pub expires : LaneTells laws key value kind old.serving
  pub leased : LeasedAfter (answer_of kind value) key before between new.serving lease
  pub words : new.words ≡ old.words
  pub tells : TellsAnswer kind value buffer status into hit

-- a lease of a key: it is of its slot as it is, of its hash and of the lane, and is counted; nothing else changes
pub record LeasesKey {D : Type 0} (key : List ℕ) (old : LaneState D) (status : Status) (new : LaneState D) (lease : Lease) : Type 0 where
  pub done : status ≡ statuses.Done
  pub leased : lease ≡ lease_for old.serving.slots key
  pub leaves : new ≡ record old { serving = record old.serving { counts = counts_lease old.serving.counts } }

-- a get of what is no key: nothing changes, and no hit is told
pub record RefusesGet {D : Type 0} (buffer : List ℕ) (old : LaneState D) (status : Status) (new : LaneState D) (into : List ℕ) (hit : Told) : Type 0 where
  pub status_is : status ≡ statuses.WrongKey
  pub lane_is : new ≡ old
  pub into_is : into ≡ buffer
  pub hit_is : hit ≡ no_hit
