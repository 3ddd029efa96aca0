-- What a look-up in the log answers.
use Rattle.std.specs.Prelude.{◌≡◌, ℕ, ◌+◌, List, ◌++◌, ◌∷◌, map, filter, take, slice_get, Option, Some, None, IsSomeAnd, Contains, All, Bool, true, false, IsTrue, Result, Ok, Err, if◌then◌else◌}
use Rattle.std.specs.declared.alloc.AllocError.{AllocError}
use Rattle.record_pages.specs.Expiry.{value_at}
use Rattle.record_pages.specs.Recs.{Rec}
use Rattle.record_pages.specs.Looking.{has_key}
use Rattle.record_pages.specs.declared.looked.Looked.{Looked}
use Rattle.record_pages.specs.declared.looked.Looked.TheVariants as looked
use Rattle.klog_index.specs.declared.entry.Entry.{Entry}
use Rattle.klog_index.specs.declared.place.Place.{Place}
use Rattle.klog_index.specs.Entries.{is_in, has_tag, lowered, with_lowered, of_tag}
use Rattle.klog.specs.Log.{LogState, with_list}
use Rattle.klog.specs.Shown.{newest_with, place_in, shown_on, CanStandFor, IsLiveOn}
use Rattle.klog.specs.Known.{no_pages, is_buffered, AreBuffered, ShowsIfHad}

-- the answer is the device's failure
abbrev pub is_log_fault : Result Looked AllocError → Bool
is_log_fault (Ok looked.Fault) = true
is_log_fault _ = false

-- the entry of a set at a place is asked for once more: its prediction is one less, and not below 0
abbrev pub lowered_in : LogState → ℕ → Place → LogState
lowered_in k set place = with_list k (with_lowered (is_in set place) k.entries)

-- the same of live records
abbrev pub live_lowered : ℕ → Place → List (Entry × Rec) → List (Entry × Rec)
live_lowered set place live = map (λ x. (if is_in set place x.0 then lowered x.0 else x.0, x.1)) live

-- one of the entries with this set and tag is lowered, and if that one lies in a buffer the device was not called,
-- whatever older ones there are
pub record LowersEntry (old : LogState) (set tag : ℕ) (new : LogState) (not_called : Type 0) : Type 0 where
  pub entry : Entry
  pub listed : Contains (of_tag set tag old.entries) entry
  pub lowered : new ≡ lowered_in old set entry.place
  pub uncalled : IsTrue (is_buffered old entry) → not_called

-- a hit lowers an entry; otherwise nothing changes
abbrev pub LogLookLeaves : LogState → ℕ → ℕ → Result Looked AllocError → LogState → Type 0 → Type 0
LogLookLeaves old set tag (Ok (looked.Hit value)) new not_called = LowersEntry old set tag new not_called
LogLookLeaves old set tag (Ok looked.Expired) new not_called = new ≡ old
LogLookLeaves old set tag (Ok looked.Absent) new not_called = new ≡ old
LogLookLeaves old set tag (Ok looked.Fault) new not_called = new ≡ old
LogLookLeaves old set tag (Ok looked.Damaged) new not_called = new ≡ old
LogLookLeaves old set tag (Err e) new not_called = new ≡ old

-- A search for a key comes to a page. Of the live records of the key's set and tag, newest first, those before this one,
-- which lies in no buffer, have other keys.
pub record ComesToPage (k : LogState) (key : List ℕ) (live : List (Entry × Rec)) : Type 0 where
  pub newer : List (Entry × Rec)
  pub at : Entry × Rec
  pub older : List (Entry × Rec)
  pub split : filter (λ x. has_tag (place_in k.shape key).set (place_in k.shape key).tag x.0) live ≡ newer ++ at ∷ older
  pub stored : is_buffered k at.0 ≡ false
  pub others : newest_with newer key ≡ None

-- this live record has the value, which is live at the moment, and its entry is lowered
pub record GivesRecord (live : List (Entry × Rec)) (moment : ℕ) (value : List ℕ) (old new : LogState) (after : List (Entry × Rec)) (x : Entry × Rec) : Type 0 where
  pub its : value_at moment x.1.value ≡ Some value
  pub lowered : new ≡ lowered_in old x.0.set x.0.place
  pub left : after ≡ live_lowered x.0.set x.0.place live

-- the log and its live records stay
pub record StaysAlive (live : List (Entry × Rec)) (old new : LogState) (after : List (Entry × Rec)) : Type 0 where
  pub log : new ≡ old
  pub left : after ≡ live

-- A hit is the newest live record of the key, which has not expired at the moment, and its entry is lowered; expired is a key
-- whose newest live record has expired; absent is a key that no live record has; a fault
-- comes only if the search comes to a page; no page is damaged. Before and after the call these records are live.
abbrev pub LogLookGives : List (Entry × Rec) → List ℕ → ℕ → LogState → Looked → LogState → List (Entry × Rec) → Type 0
LogLookGives live key moment old (looked.Hit value) new after = IsSomeAnd (newest_with live key) (GivesRecord live moment value old new after)
LogLookGives live key moment old looked.Expired new after =
    IsSomeAnd (newest_with live key) (λ x. value_at moment x.1.value ≡ None) × StaysAlive live old new after
LogLookGives live key moment old looked.Absent new after = (newest_with live key ≡ None) × StaysAlive live old new after
LogLookGives live key moment old looked.Fault new after = ComesToPage old key live × StaysAlive live old new after
LogLookGives live key moment old looked.Damaged new after = ⊥

-- the entry shows another key, if what it shows is known
abbrev pub ShowsOther : ℕ → (ℕ → Option (List ℕ)) → LogState → List ℕ → Entry → Type 0
ShowsOther bytes held k key e = ShowsIfHad bytes held k e (λ r. has_key key r ≡ false)

-- the search for a key came to this entry of the key's set and tag: those that are newer show other keys
pub record IsReached (bytes : ℕ) (held : ℕ → Option (List ℕ)) (k : LogState) (set tag : ℕ) (key : List ℕ) (e : Entry) : Type 0 where
  pub behind : ℕ
  pub at : slice_get (of_tag set tag k.entries) behind ≡ Some e
  pub newer : All (ShowsOther bytes held k key) (take behind (of_tag set tag k.entries))

-- a hit, whatever else is known: the search came to an entry, which shows the value, and is lowered; the device was not
-- called if it lies in a buffer
pub record HitsAt (bytes : ℕ) (held : ℕ → Option (List ℕ)) (old : LogState) (set tag : ℕ) (key : List ℕ) (moment : ℕ) (value : List ℕ) (new : LogState) (not_called : Type 0) : Type 0 where
  pub entry : Entry
  pub reached : IsReached bytes held old set tag key entry
  pub lowered : new ≡ lowered_in old set entry.place
  pub shows : ShowsIfHad bytes held old entry (λ r. (has_key key r ≡ true) × (value_at moment r.value ≡ Some value))
  pub uncalled : IsTrue (is_buffered old entry) → not_called

-- an expired one, whatever else is known: the search came to an entry, which shows a record with the key that has expired; the
-- log stays, and the device was not called if it lies in a buffer
pub record ExpiredAt (bytes : ℕ) (held : ℕ → Option (List ℕ)) (old : LogState) (set tag : ℕ) (key : List ℕ) (moment : ℕ) (new : LogState) (not_called : Type 0) : Type 0 where
  pub entry : Entry
  pub reached : IsReached bytes held old set tag key entry
  pub stays : new ≡ old
  pub shows : ShowsIfHad bytes held old entry (λ r. (has_key key r ≡ true) × (value_at moment r.value ≡ None))
  pub uncalled : IsTrue (is_buffered old entry) → not_called

-- a fault: the search came to an entry that lies in no buffer
pub record FailsAt (bytes : ℕ) (held : ℕ → Option (List ℕ)) (old : LogState) (set tag : ℕ) (key : List ℕ) : Type 0 where
  pub entry : Entry
  pub reached : IsReached bytes held old set tag key entry
  pub stored : is_buffered old entry ≡ false

-- damage: the search came to an entry for which no record may stand
pub record DamagedAt (bytes : ℕ) (held : ℕ → Option (List ℕ)) (old : LogState) (set tag : ℕ) (key : List ℕ) : Type 0 where
  pub entry : Entry
  pub reached : IsReached bytes held old set tag key entry
  pub dead : IsLiveOn bytes held old entry → ⊥

-- want of memory: the search came to an entry with the key, whose value was to be copied
pub record WantsAt (bytes : ℕ) (held : ℕ → Option (List ℕ)) (old : LogState) (set tag : ℕ) (key : List ℕ) : Type 0 where
  pub entry : Entry
  pub reached : IsReached bytes held old set tag key entry
  pub shows : ShowsIfHad bytes held old entry (λ r. has_key key r ≡ true)

-- what lies behind each answer of a look-up, whatever else is known; absent is a key that no entry of its set and tag shows
abbrev pub LooksAt : ℕ → (ℕ → Option (List ℕ)) → LogState → ℕ → ℕ → List ℕ → ℕ → Result Looked AllocError → LogState → Type 0 → Type 0
LooksAt bytes held old set tag key moment (Ok (looked.Hit value)) new not_called = HitsAt bytes held old set tag key moment value new not_called
LooksAt bytes held old set tag key moment (Ok looked.Expired) new not_called = ExpiredAt bytes held old set tag key moment new not_called
LooksAt bytes held old set tag key moment (Ok looked.Absent) new not_called = All (ShowsOther bytes held old key) (of_tag set tag old.entries)
LooksAt bytes held old set tag key moment (Ok looked.Fault) new not_called = FailsAt bytes held old set tag key
LooksAt bytes held old set tag key moment (Ok looked.Damaged) new not_called = DamagedAt bytes held old set tag key
LooksAt bytes held old set tag key moment (Err x) new not_called = WantsAt bytes held old set tag key

-- The record that the buffers tell of a key. Of the entries of the key's set and tag, newest first, all up to this one lie in
-- buffers, those before it show other keys, and it shows this record, which has the key.
pub record IsInBuffers (bytes : ℕ) (k : LogState) (set tag : ℕ) (key : List ℕ) (e : Entry) (r : Rec) : Type 0 where
  pub reached : IsReached bytes no_pages k set tag key e
  pub buffered : AreBuffered k (take (reached.behind + 1) (of_tag set tag k.entries))
  pub shows : shown_on no_pages k e ≡ Some r
  pub its : CanStandFor bytes k.shape e r
  pub has : has_key key r ≡ true

-- that record is given: its value is answered, its entry is lowered, and the device was not called
pub record GivesIt (value : List ℕ) (old : LogState) (set : ℕ) (e : Entry) (new : LogState) (not_called : Type 0) (answer : Looked) : Type 0 where
  pub hit : answer ≡ looked.Hit value
  pub lowered : new ≡ lowered_in old set e.place
  pub uncalled : not_called

-- that record has expired: this is answered, the log stays, and the device was not called
pub record TellsExpired (old new : LogState) (not_called : Type 0) (answer : Looked) : Type 0 where
  pub expired : answer ≡ looked.Expired
  pub stays : new ≡ old
  pub uncalled : not_called

-- what is answered by what that record gives at the moment
abbrev pub GivesAt : Option (List ℕ) → LogState → ℕ → Entry → LogState → Type 0 → Looked → Type 0
GivesAt (Some value) old set e new not_called answer = GivesIt value old set e new not_called answer
GivesAt None old set e new not_called answer = TellsExpired old new not_called answer

-- what is answered of that record at a moment
abbrev pub GivesBuffered : ℕ → LogState → ℕ → Entry → Rec → LogState → Type 0 → Looked → Type 0
GivesBuffered moment old set e r new not_called answer = GivesAt (value_at moment r.value) old set e new not_called answer
