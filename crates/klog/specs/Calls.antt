-- What each call of a log that is lent a device does: one record a call, over the log and the device before it, what it
-- answers, and both after it.
use Rattle.std.specs.Prelude.{◌≡◌, ℕ, List, Option, Bool, true, Result, IfOk, IsTrue}
use Rattle.std.specs.declared.alloc.AllocError.{AllocError}
use Rattle.page_device.specs.Device.{faults_after}
use Rattle.page_device.specs.Frames.{pages_before}
use Rattle.page_device.specs.Lending.{OnlyReads, OnlyWrites, ReadsOrStops}
use Rattle.record_pages.specs.Recs.{Rec}
use Rattle.record_pages.specs.declared.looked.Looked.{Looked}
use Rattle.set_hash.specs.declared.placed.Placed.{Placed}
use Rattle.klog_index.specs.declared.entry.Entry.{Entry}
use Rattle.klog_index.specs.Entries.{of_tag}
use Rattle.klog.specs.declared.flushed.Flushed.{Flushed}
use Rattle.klog.specs.declared.flushed.Flushed.TheVariants.{Wrote}
use Rattle.klog.specs.declared.readmitted.Readmitted.{Readmitted}
use Rattle.klog.specs.declared.set_taken.SetTaken.{SetTaken}
use Rattle.klog.specs.Log.{LogState}
use Rattle.klog.specs.Names.{flushed_number, device_page}
use Rattle.klog.specs.Shown.{IsSpelledOn, live_on}
use Rattle.klog.specs.Known.{AreHeldBy, AreBuffered}
use Rattle.klog.specs.Look.{is_log_fault, LogLookLeaves, LogLookGives, LooksAt, IsInBuffers, GivesBuffered}
use Rattle.klog.specs.Flush.{is_page_lost, CanFlush, FlushGives, live_flushed, WritesNext}
use Rattle.klog.specs.Moves.{is_readmit_fault, ReadmitLeaves, ReadsBack, ReadmitGives, is_taking_lost, taken_entries, TakeLeaves, TakesAt, TakeGives}

-- A look-up. On any device no page is written, the device has failed exactly if a fault is answered, and the log is left as
-- the answer says; what its buffers tell of the key is answered without a call of the device. Whatever is known of its
-- pages, the answer is by that; and if the device is honest, it is by the live records.
pub record LogLooks {D : Type 0} (size : ℕ) (pages : D → ℕ) (honest : D → Bool) (failures : D → ℕ) (held : D → ℕ → Option (List ℕ)) (placed : Placed) (key : List ℕ) (moment : ℕ) (old : LogState) (device : D) (result : Result Looked AllocError) (new : LogState) (device' : D) : Type 0 where
  pub reads : OnlyReads pages honest failures held device (is_log_fault result) device'
  pub shape : new.shape ≡ old.shape
  pub leaves : LogLookLeaves old placed.set placed.tag result new (device' ≡ device)
  pub buffered : AreBuffered old (of_tag placed.set placed.tag old.entries) → device' ≡ device
  pub in_buffers : (e : Entry) (r : Rec) → IsInBuffers size old placed.set placed.tag key e r →
      IfOk result (GivesBuffered moment old placed.set e r new (device' ≡ device))
  pub looks_at : (known : ℕ → Option (List ℕ)) → AreHeldBy honest held device known →
      LooksAt size known old placed.set placed.tag key moment result new (device' ≡ device)
  pub gives : IsTrue (honest device) → IsSpelledOn size (held device) old →
      IfOk result (λ r. LogLookGives (live_on (held device) old) key moment old r new (live_on (held device') new))
  pub spelled : IsTrue (honest device) → IsSpelledOn size (held device) old → IsSpelledOn size (held device') new

-- A step of flushing. On any device no page is written but the next one, which is lost exactly if the device failed, and the
-- log is left as the answer says; if nothing can be flushed the device is not called. An honest device has the page that was
-- written, and keeps those of the sets; and what is live is so but on a lost page.
pub record LogFlushes {D : Type 0} (size : ℕ) (pages : D → ℕ) (honest : D → Bool) (failures : D → ℕ) (held : D → ℕ → Option (List ℕ)) (old : LogState) (device : D) (answer : Flushed) (new : LogState) (device' : D) : Type 0 where
  pub writes : OnlyWrites pages honest failures held (device_page old (flushed_number old) old.done) device (is_page_lost answer) device'
  pub shape : new.shape ≡ old.shape
  pub gives : FlushGives old answer new
  pub idle : (CanFlush old → ⊥) → device' ≡ device
  pub wrote : IsTrue (honest device) → answer ≡ Wrote → WritesNext size old true (held device) (held device')
  pub apart : IsTrue (honest device) → pages_before old.shape.sets (held device') ≡ pages_before old.shape.sets (held device)
  pub spelled : IsTrue (honest device) → IsSpelledOn size (held device) old → IsSpelledOn size (held device') new
  pub shown : IsTrue (honest device) → IsSpelledOn size (held device) old → live_on (held device') new ≡ live_flushed old answer (live_on (held device) old)

-- A taking of a set's records. On any device no page is written, at most one call of it failed, and only if a page is lost,
-- and the log is left as the answer says. If the device is honest, each record is its entry's, and a page is lost exactly if
-- a call failed.
pub record LogTakes {D : Type 0} (size : ℕ) (pages : D → ℕ) (honest : D → Bool) (failures : D → ℕ) (held : D → ℕ → Option (List ℕ)) (set : ℕ) (old : LogState) (device : D) (result : Result SetTaken AllocError) (new : LogState) (device' : D) : Type 0 where
  pub reads : ReadsOrStops pages honest failures held device (is_taking_lost result) device'
  pub shape : new.shape ≡ old.shape
  pub leaves : TakeLeaves old set result new
  pub buffered : AreBuffered old (taken_entries old set) → device' ≡ device
  pub takes_at : IsTrue (honest device) → TakesAt size (held device) old set (failures device) result new (failures device')
  pub faults : IsTrue (honest device) → IsSpelledOn size (held device) old → failures device' ≡ faults_after (failures device) (is_taking_lost result)
  pub gives : IsTrue (honest device) → IsSpelledOn size (held device) old →
      IfOk result (λ r. TakeGives old set (live_on (held device) old) r new (live_on (held device') new))
  pub spelled : IsTrue (honest device) → IsSpelledOn size (held device) old → IsSpelledOn size (held device') new

-- A readmission of an entry. On any device no page is written, the device has failed exactly if a fault is answered, and the
-- log is left as the answer says. If the device is honest, the record is the one that the entry shows.
pub record LogReadmits {D : Type 0} (size : ℕ) (pages : D → ℕ) (honest : D → Bool) (failures : D → ℕ) (held : D → ℕ → Option (List ℕ)) (entry : Entry) (old : LogState) (device : D) (answer : Readmitted) (new : LogState) (device' : D) : Type 0 where
  pub reads : OnlyReads pages honest failures held device (is_readmit_fault answer) device'
  pub shape : new.shape ≡ old.shape
  pub leaves : ReadmitLeaves size old entry answer new
  pub reads_back : IsTrue (honest device) → ReadsBack size (held device) old entry answer new
  pub gives : IsTrue (honest device) → IsSpelledOn size (held device) old →
      ReadmitGives size old entry (live_on (held device) old) answer new (live_on (held device') new)
  pub spelled : IsTrue (honest device) → IsSpelledOn size (held device) old → IsSpelledOn size (held device') new
