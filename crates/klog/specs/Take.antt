-- What a reading of the records of a set gives.
use Rattle.std.specs.Prelude.{◌≡◌, ◌≤◌, ℕ, length, List, Option, Some, None, Contains, Bool, true, false, Result, Ok, Err}
use Rattle.std.specs.declared.alloc.AllocError.{AllocError}
use Rattle.page_device.specs.Device.{faults_after}
use Rattle.record_pages.specs.Recs.{Rec}
use Rattle.klog_index.specs.declared.entry.Entry.{Entry}
use Rattle.klog.specs.declared.taken_record.TakenRecord.{TakenRecord}
use Rattle.klog.specs.declared.gathered.Gathered.{Gathered}
use Rattle.klog.specs.declared.gathered.Gathered.TheVariants as gathered
use Rattle.klog.specs.Log.{LogState}
use Rattle.klog.specs.Shown.{IsLiveOn}
use Rattle.klog.specs.Known.{is_buffered, ShowsIfHad}
use Rattle.klog.specs.Moves.{most_taken, taken_as, taken_of, taken_entries, AreCopies, WantsToTake}

-- no record was had
abbrev pub is_missing : Result (Option TakenRecord) AllocError → Bool
is_missing (Ok None) = true
is_missing _ = false

-- a record that was had is the entry's, as it is taken, if what the entry shows is known; memory is wanted only for one
abbrev pub Copies : ℕ → (ℕ → Option (List ℕ)) → LogState → Entry → Result (Option TakenRecord) AllocError → Type 0
Copies bytes held k e (Ok (Some t)) = ShowsIfHad bytes held k e (λ r. t ≡ taken_as k (e, r))
Copies bytes held k e (Ok None) = Unit {0}
Copies bytes held k e (Err x) = ShowsIfHad bytes held k e (λ r. Unit {0})

-- a page was lost
abbrev pub is_lost_page : Result Gathered AllocError → Bool
is_lost_page (Ok (gathered.Lost e)) = true
is_lost_page _ = false

-- an entry whose page is lost was to be taken; no more records are had than are taken at once
abbrev pub IsToBeTaken : LogState → ℕ → Gathered → Type 0
IsToBeTaken k set (gathered.Lost e) = Contains (taken_entries k set) e
IsToBeTaken k set (gathered.Records rs) = length rs ≤ most_taken

-- the records that are had are those that are taken
abbrev pub Gathers : LogState → ℕ → List (Entry × Rec) → Gathered → Type 0
Gathers k set live (gathered.Records rs) = rs ≡ taken_of k set live
Gathers k set live (gathered.Lost e) = Unit {0}

-- what lies behind each answer, by the device's count of failures before and after
abbrev pub GathersAt : ℕ → (ℕ → Option (List ℕ)) → LogState → ℕ → ℕ → Result Gathered AllocError → ℕ → Type 0
GathersAt bytes held k set before (Ok (gathered.Records rs)) after = AreCopies bytes held k (taken_entries k set) rs
GathersAt bytes held k set before (Ok (gathered.Lost e)) after = IsLiveOn bytes held k e → (after ≡ faults_after before true) × (is_buffered k e ≡ false)
GathersAt bytes held k set before (Err x) after = WantsToTake bytes held k set
