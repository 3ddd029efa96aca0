-- What a reading of a whole set answers.
use Rattle.std.specs.Prelude.{◌≡◌, ◌≤◌, ℕ, List, length, Bool, true, false, Result, Ok, Err}
use Rattle.std.specs.declared.alloc.AllocError.{AllocError}
use Rattle.page_device.specs.Device.{faults_after}
use Rattle.record_pages.specs.Sizes.{max_set_records}
use Rattle.kset.specs.declared.set_record.SetRecord.{SetRecord}
use Rattle.kset.specs.declared.set_read.SetRead.{SetRead}
use Rattle.kset.specs.declared.set_read.SetRead.TheVariants as reads
use Rattle.kset.specs.Sets.{SetsState, forgotten}

-- the page was lost
abbrev pub is_set_lost : Result SetRead AllocError → Bool
is_set_lost (Ok reads.PageLost) = true
is_set_lost _ = false

-- if the page was lost the set is forgotten; otherwise nothing changes, and no more records are read than a page holds
abbrev pub SetReadLeaves : SetsState → ℕ → Result SetRead AllocError → SetsState → Type 0
SetReadLeaves old set (Ok reads.PageLost) new = new ≡ forgotten old set
SetReadLeaves old set (Ok (reads.Records rs)) new = (new ≡ old) × (length rs ≤ max_set_records)
SetReadLeaves old set (Err e) new = new ≡ old

-- the records that are read are these; or the device failed, as its count of failures before and after tells
abbrev pub SetReadGives : List SetRecord → SetRead → ℕ → ℕ → Type 0
SetReadGives visible (reads.Records rs) before after = rs ≡ visible
SetReadGives visible reads.PageLost before after = after ≡ faults_after before true
