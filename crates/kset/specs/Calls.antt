-- What each call of the sets that is lent a device does: one record a call, over the sets and the device before it, what it
-- answers, and both after it.
use Rattle.std.specs.Prelude.{◌≡◌, ◌≢◌, ℕ, List, [], Option, Some, IsSome, IsTrue, IfOk, OnErr, Bool, Result, Ok}
use Rattle.std.specs.Bool.{OnTrue, OnFalse}
use Rattle.std.specs.FinSet.{empty}
use Rattle.std.specs.declared.alloc.AllocError.{AllocError}
use Rattle.page_device.specs.Frames.{pages_from}
use Rattle.page_device.specs.Lending.{OnlyReads, ReadsOrStops, OnlyWrites}
use Rattle.record_pages.specs.Recs.{Rec}
use Rattle.record_pages.specs.PageText.{set_page_text}
use Rattle.record_pages.specs.declared.looked.Looked.{Looked}
use Rattle.record_pages.specs.declared.looked.Looked.TheVariants as looked
use Rattle.set_hash.specs.declared.placed.Placed.{Placed}
use Rattle.kset.specs.declared.rewritten.Rewritten.{Rewritten}
use Rattle.kset.specs.declared.set_read.SetRead.{SetRead}
use Rattle.kset.specs.declared.set_read.SetRead.TheVariants as read
use Rattle.kset.specs.Notes.{lets_show}
use Rattle.kset.specs.Sets.{SetsState, set_count, notes_of, next_write}
use Rattle.kset.specs.Pages.{AreSpelledOn, page_records}
use Rattle.kset.specs.Shown.{first_visible, visible_in, with_flags}
use Rattle.kset.specs.Look.{is_set_fault, SetLookLeaves, SetLookGives}
use Rattle.kset.specs.ReadSet.{is_set_lost, SetReadLeaves, SetReadGives}
use Rattle.kset.specs.Rewrite.{is_forgotten, after_rewrite}
use Rattle.kset.specs.After.{shown_after_reading, shown_after_rewriting, IsForeign}
use Rattle.kset.specs.Keeps.{KeepsSets}

-- A look-up. On any device no page is written, the device has failed exactly if a fault is answered, and the sets are left as
-- the answer says; a key that the filter denies is absent without a call of the device. If the device is honest, the answer is
-- by the visible records, memory lacks only for one of them, a page that is not the set's is damaged, and all show what they
-- showed.
pub record SetLooks {D : Type 0} (size : ℕ) (pages : D → ℕ) (honest : D → Bool) (failures : D → ℕ) (held : D → ℕ → Option (List ℕ)) (placed : Placed) (key : List ℕ) (moment : ℕ) (old : SetsState) (device : D) (result : Result Looked AllocError) (new : SetsState) (device' : D) : Type 0 where
  pub reads : OnlyReads pages honest failures held device (is_set_fault result) device'
  pub keeps : KeepsSets size (honest device) (held device) old (held device') new
  pub leaves : SetLookLeaves old placed.set result new
  pub denied : OnFalse (lets_show (notes_of old placed.set) placed.hash) ((result ≡ Ok looked.Absent) × (device' ≡ device))
  pub gives : IsTrue (honest device) → AreSpelledOn size (held device) old →
      IfOk result (λ r. SetLookGives (visible_in (held device) old placed.set) key moment old placed.set r new)
  pub foreign : IsTrue (honest device) → IsForeign placed.set (held device placed.set) → OnTrue (lets_show (notes_of old placed.set) placed.hash)
      (OnFalse (is_set_fault result) (result ≡ Ok looked.Damaged))
  pub short : IsTrue (honest device) → AreSpelledOn size (held device) old →
      OnErr result (IsSome (first_visible (visible_in (held device) old placed.set) key))
  pub shown : IsTrue (honest device) → visible_in (held device') new ≡ visible_in (held device) old

-- A reading of a set. On any device no page is written, at most one call of it failed, and only if the page is lost, and the
-- sets are left as the answer says; a set without a filter bit is empty without a call of the device. If the device is honest,
-- the records are the visible ones, memory lacks only for one of them, a page that is not the set's is lost, and all show what
-- they showed, but for a set that is lost.
pub record SetReads {D : Type 0} (size : ℕ) (pages : D → ℕ) (honest : D → Bool) (failures : D → ℕ) (held : D → ℕ → Option (List ℕ)) (set : ℕ) (old : SetsState) (device : D) (result : Result SetRead AllocError) (new : SetsState) (device' : D) : Type 0 where
  pub reads : ReadsOrStops pages honest failures held device (is_set_lost result) device'
  pub keeps : KeepsSets size (honest device) (held device) old (held device') new
  pub leaves : SetReadLeaves old set result new
  pub unread : (notes_of old set).filter ≡ empty → (result ≡ Ok (read.Records [])) × (device' ≡ device)
  pub gives : IsTrue (honest device) → AreSpelledOn size (held device) old →
      IfOk result (λ r. SetReadGives (with_flags (notes_of old set) (visible_in (held device) old set)) r (failures device) (failures device'))
  pub foreign : IsTrue (honest device) → IsForeign set (held device set) → (notes_of old set).filter ≢ empty → result ≡ Ok read.PageLost
  pub short : IsTrue (honest device) → AreSpelledOn size (held device) old → OnErr result (visible_in (held device) old set ≢ [])
  pub shown : IsTrue (honest device) → visible_in (held device') new ≡ shown_after_reading result set (visible_in (held device) old)

-- A rewriting of a set with these records. On any device no other page is written, the device has failed exactly if the set is
-- forgotten, and the sets are left as the answer says. If the device is honest, a page that is written has the records' text
-- under the next write number, the set shows just them or nothing, and the pages after the sets' stay.
pub record SetRewrites {D : Type 0} (size : ℕ) (pages : D → ℕ) (honest : D → Bool) (failures : D → ℕ) (held : D → ℕ → Option (List ℕ)) (set : ℕ) (rs : List Rec) (old : SetsState) (device : D) (answer : Rewritten) (new : SetsState) (device' : D) : Type 0 where
  pub writes : OnlyWrites pages honest failures held set device (is_forgotten answer) device'
  pub keeps : KeepsSets size (honest device) (held device) old (held device') new
  pub leaves : new ≡ after_rewrite old set rs answer
  pub text : IsTrue (honest device) → OnFalse (is_forgotten answer) (held device' set ≡ Some (set_page_text size set (next_write old) rs))
  pub records : IsTrue (honest device) → OnFalse (is_forgotten answer) (page_records (held device') new set ≡ rs)
  pub shown : IsTrue (honest device) → visible_in (held device') new ≡ shown_after_rewriting answer set rs (visible_in (held device) old)
  pub apart : IsTrue (honest device) → pages_from (set_count old) (held device') ≡ pages_from (set_count old) (held device)
