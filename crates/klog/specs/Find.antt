-- What the record of an entry says of a key.
use Rattle.std.specs.Prelude.{◌≡◌, ℕ, ◌==◌, filter, List, Option, Some, None, Bool, true, false}
use Rattle.record_pages.specs.Expiry.{value_at}
use Rattle.record_pages.specs.Looking.{has_key}
use Rattle.record_pages.specs.Recs.{Rec}
use Rattle.klog_index.specs.declared.entry.Entry.{Entry}
use Rattle.klog.specs.declared.record_answer.RecordAnswer.{RecordAnswer}
use Rattle.klog.specs.declared.record_answer.RecordAnswer.TheVariants as told
use Rattle.klog.specs.Log.{LogState}
use Rattle.klog.specs.Shown.{IsLiveOn}
use Rattle.klog.specs.Known.{ShowsIfHad}
use Rattle.klog.specs.Look.{ShowsOther}

-- those of these entries that have this tag
abbrev pub with_tag : ℕ → List Entry → List Entry
with_tag tag es = filter (λ e. e.tag == tag) es

-- the device failed when a record was asked for
abbrev pub is_told_fault : RecordAnswer → Bool
is_told_fault told.Fault = true
is_told_fault _ = false

-- a live value is reported
abbrev pub is_told_hit : RecordAnswer → Bool
is_told_hit (told.Hit expires) = true
is_told_hit _ = false

-- a record's value is live at the moment, and is this one, and it expires then
abbrev pub HasLive : ℕ → List ℕ → ℕ → Rec → Type 0
HasLive moment value expires r = (value_at moment r.value ≡ Some value) × (r.value.expires ≡ expires)

-- What is said of what an entry shows at a moment, if that is known: it has the key, and the value in the buffer, with when it
-- expires, or has expired; or it has another key. If it is damaged no record lies there that may stand for the entry.
abbrev pub TellsKey : ℕ → (ℕ → Option (List ℕ)) → LogState → Entry → List ℕ → ℕ → List ℕ → RecordAnswer → Type 0
TellsKey bytes held k e key moment buffer (told.Hit expires) = ShowsIfHad bytes held k e (λ r. (has_key key r ≡ true) × HasLive moment buffer expires r)
TellsKey bytes held k e key moment buffer told.Expired = ShowsIfHad bytes held k e (λ r. (has_key key r ≡ true) × (value_at moment r.value ≡ None))
TellsKey bytes held k e key moment buffer told.Other = ShowsOther bytes held k key e
TellsKey bytes held k e key moment buffer told.Fault = Unit {0}
TellsKey bytes held k e key moment buffer told.Damaged = IsLiveOn bytes held k e → ⊥
