-- What a search for a key in the log finds.
use Rattle.std.specs.Prelude.{◌≡◌, ℕ, List, Option, Some, Contains, Bool, true, false, IsTrue, Ok}
use Rattle.std.specs.Bool.{OnFalse}
use Rattle.page_device.specs.Lending.{OnlyReads}
use Rattle.record_pages.specs.Recs.{Rec}
use Rattle.record_pages.specs.Looking.{has_key}
use Rattle.record_pages.specs.declared.looked.Looked.{Looked}
use Rattle.record_pages.specs.declared.looked.Looked.TheVariants as looked
use Rattle.set_hash.specs.declared.placed.Placed.{Placed}
use Rattle.klog_index.specs.declared.entry.Entry.{Entry}
use Rattle.klog_index.specs.Entries.{of_tag}
use Rattle.klog.specs.declared.located_in_log.LocatedInLog.{LocatedInLog}
use Rattle.klog.specs.declared.located_in_log.LocatedInLog.TheVariants as located
use Rattle.klog.specs.Log.{LogState}
use Rattle.klog.specs.Shown.{newest_with, live_on, IsSpelledOn}
use Rattle.klog.specs.Find.{HasLive}
use Rattle.klog.specs.Known.{AreHeldBy, is_buffered, AreBuffered, ShowsIfHad}
use Rattle.klog.specs.Look.{is_log_fault, lowered_in, LogLookLeaves, LogLookGives, IsReached, LooksAt, IsInBuffers, GivesBuffered}

-- what a look-up answers by what is located: the value of a hit is what the buffer holds
abbrev pub looked_of : LocatedInLog → List ℕ → Looked
looked_of (located.Hit e expires) buffer = looked.Hit buffer
looked_of located.Expired buffer = looked.Expired
looked_of located.Absent buffer = looked.Absent
looked_of located.Fault buffer = looked.Fault
looked_of located.Damaged buffer = looked.Damaged

-- a hit is located
abbrev pub is_hit : LocatedInLog → Bool
is_hit (located.Hit e expires) = true
is_hit _ = false

-- the log once the entry of a hit is touched; any other answer leaves nothing to touch
abbrev pub log_after : LocatedInLog → LogState → LogState
log_after (located.Hit e expires) k = lowered_in k e.set e.place
log_after _ k = k

-- the entry of a hit has this set and tag, and if it lies in a buffer the device was not called
abbrev pub IsOfTag : LogState → ℕ → ℕ → Type 0 → LocatedInLog → Type 0
IsOfTag k set tag not_called (located.Hit e expires) = Contains (of_tag set tag k.entries) e × (IsTrue (is_buffered k e) → not_called)
IsOfTag k set tag not_called located.Expired = Unit {0}
IsOfTag k set tag not_called located.Absent = Unit {0}
IsOfTag k set tag not_called located.Fault = Unit {0}
IsOfTag k set tag not_called located.Damaged = Unit {0}

-- the entry of a hit is the one that the search came to, and what it shows, if that is known, has the key, and the value in the buffer, and expires then
abbrev pub NamesReached : ℕ → (ℕ → Option (List ℕ)) → LogState → ℕ → ℕ → List ℕ → ℕ → List ℕ → LocatedInLog → Type 0
NamesReached bytes held k set tag key moment buffer (located.Hit e expires) =
    IsReached bytes held k set tag key e × ShowsIfHad bytes held k e (λ r. (has_key key r ≡ true) × HasLive moment buffer expires r)
NamesReached bytes held k set tag key moment buffer located.Expired = Unit {0}
NamesReached bytes held k set tag key moment buffer located.Absent = Unit {0}
NamesReached bytes held k set tag key moment buffer located.Fault = Unit {0}
NamesReached bytes held k set tag key moment buffer located.Damaged = Unit {0}

-- the entry of a hit is that of the newest of these live records with the key, whose value is in the buffer, and which expires then
abbrev pub NamesNewest : List (Entry × Rec) → List ℕ → ℕ → List ℕ → LocatedInLog → Type 0
NamesNewest live key moment buffer (located.Hit e expires) = (r : Rec) × (newest_with live key ≡ Some (e, r)) × HasLive moment buffer expires r
NamesNewest live key moment buffer located.Expired = Unit {0}
NamesNewest live key moment buffer located.Absent = Unit {0}
NamesNewest live key moment buffer located.Fault = Unit {0}
NamesNewest live key moment buffer located.Damaged = Unit {0}

-- A search for a key. It changes nothing but the device, of which it only reads, and the buffer, which holds the value of a
-- hit. The answer is what a look-up gives, once the entry of a hit is touched; and it names that entry.
pub record LogLocates {D : Type 0} (size : ℕ) (pages : D → ℕ) (honest : D → Bool) (failures : D → ℕ) (held : D → ℕ → Option (List ℕ)) (placed : Placed) (key : List ℕ) (moment : ℕ) (k : LogState) (device : D) (was : List ℕ) (found : LocatedInLog) (device' : D) (buffer : List ℕ) : Type 0 where
  pub reads : OnlyReads pages honest failures held device (is_log_fault (Ok (looked_of found buffer))) device'
  pub listed : IsOfTag k placed.set placed.tag (device' ≡ device) found
  pub leaves : LogLookLeaves k placed.set placed.tag (Ok (looked_of found buffer)) (log_after found k) (device' ≡ device)
  pub stays : OnFalse (is_hit found) (buffer ≡ was)
  pub buffered : AreBuffered k (of_tag placed.set placed.tag k.entries) → device' ≡ device
  pub in_buffers : (e : Entry) (r : Rec) → IsInBuffers size k placed.set placed.tag key e r →
      GivesBuffered moment k placed.set e r (log_after found k) (device' ≡ device) (looked_of found buffer)
  pub names_at : (known : ℕ → Option (List ℕ)) → AreHeldBy honest held device known → NamesReached size known k placed.set placed.tag key moment buffer found
  pub looks_at : (known : ℕ → Option (List ℕ)) → AreHeldBy honest held device known →
      LooksAt size known k placed.set placed.tag key moment (Ok (looked_of found buffer)) (log_after found k) (device' ≡ device)
  pub names : IsTrue (honest device) → IsSpelledOn size (held device) k → NamesNewest (live_on (held device) k) key moment buffer found
  pub gives : IsTrue (honest device) → IsSpelledOn size (held device) k →
      LogLookGives (live_on (held device) k) key moment k (looked_of found buffer) (log_after found k) (live_on (held device') (log_after found k))
