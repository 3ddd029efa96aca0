-- What a flush step does.
use Rattle.std.specs.Prelude.{◌≡◌, ◌≢◌, ℕ, ◌+◌, ◌<◌, List, [], length, filter, Option, Bool, true, false, not, ◌==◌, if◌then◌else◌}
use Rattle.std.specs.Bool.{OnTrue}
use Rattle.record_pages.specs.Recs.{Rec}
use Rattle.klog_index.specs.declared.entry.Entry.{Entry}
use Rattle.klog_index.specs.Entries.{is_on, without}
use Rattle.klog.specs.declared.flushed.Flushed.{Flushed}
use Rattle.klog.specs.declared.flushed.Flushed.TheVariants as answers
use Rattle.klog.specs.Buffer.{page_of}
use Rattle.klog.specs.Log.{LogState, with_list}
use Rattle.klog.specs.Names.{name_of, flushed_number, device_page}
use Rattle.klog.specs.Shown.{HoldsPage}
use Rattle.klog.specs.Append.{sealed}

-- the page was not written
abbrev pub is_page_lost : Flushed → Bool
is_page_lost answers.PageLost = true
is_page_lost _ = false

-- the entry's record is on this page of the segment with this number
abbrev pub is_on_page : LogState → ℕ → ℕ → Entry → Bool
is_on_page k segment page e = is_on (name_of k segment) page e

-- the entries of a page are dropped
abbrev pub without_page : LogState → ℕ → ℕ → LogState
without_page k segment page = with_list k (without (is_on_page k segment page) k.entries)

-- the entries of the page that is flushed next are dropped
abbrev pub without_next : LogState → LogState
without_next k = without_page k (flushed_number k) k.done

-- one page is done; after the last one the segment is on the device, and its buffer is free
abbrev pub moved_on : LogState → LogState
moved_on k =
    if k.done + 1 == length k.flushing then record k { stored = k.stored + 1; is_flushing = false; done = 0; flushing = [] }
    else record k { done = k.done + 1 }

-- a page can be written now
abbrev pub CanFlush : LogState → Type 0
CanFlush k = (k.is_flushing ≡ true) × (k.done ≡ 0 → k.stored < k.shape.segments)

-- there is nothing to flush: no segment is flushed, and the filled one is empty
pub record HasNothing (old new : LogState) : Type 0 where
  pub idle : old.is_flushing ≡ false
  pub empty : old.filling ≡ []
  pub same : new ≡ old

-- the filled segment is the one that is flushed next
pub record Seals (old new : LogState) : Type 0 where
  pub idle : old.is_flushing ≡ false
  pub some : old.filling ≢ []
  pub left : new ≡ sealed old

-- no segment of the device is free for the one that is flushed
pub record Waits (old new : LogState) : Type 0 where
  pub flushing : old.is_flushing ≡ true
  pub first : old.done ≡ 0
  pub full : old.stored ≡ old.shape.segments
  pub same : new ≡ old

-- when each answer comes, and what it leaves
abbrev pub FlushGives : LogState → Flushed → LogState → Type 0
FlushGives old answers.Nothing new = HasNothing old new
FlushGives old answers.Sealed new = Seals old new
FlushGives old answers.LogFull new = Waits old new
FlushGives old answers.Wrote new = CanFlush old × (new ≡ moved_on old)
FlushGives old answers.PageLost new = CanFlush old × (new ≡ moved_on (without_next old))

-- the live records after that: those of a lost page are gone
abbrev pub live_flushed : LogState → Flushed → List (Entry × Rec) → List (Entry × Rec)
live_flushed old flushed live =
    if is_page_lost flushed then filter (λ x. not (is_on_page old (flushed_number old) old.done x.0)) live else live

-- A write of the page that is flushed next. If the device takes it, the page is known to hold the records of the
-- buffer; all other pages of the device stay.
pub record WritesNext (bytes : ℕ) (k : LogState) (wrote : Bool) (old new : ℕ → Option (List ℕ)) : Type 0 where
  pub written : OnTrue wrote (HoldsPage bytes (flushed_number k) k.done (page_of k.flushing k.done) (new (device_page k (flushed_number k) k.done)))
  pub others : (p : ℕ) → p ≢ device_page k (flushed_number k) k.done → new p ≡ old p
