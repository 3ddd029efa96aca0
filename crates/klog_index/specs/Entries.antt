-- An index as the list of its entries.
use Rattle.std.specs.Prelude.{◌≢◌, ℕ, ◌-◌, List, Bool, not, ◌==◌, ◌&&◌, filter, map, All, AllPairs, if◌then◌else◌}
use Rattle.std.specs.List.{list_any}
use Rattle.klog_index.specs.declared.place.Place.{Place}
use Rattle.klog_index.specs.declared.entry.Entry.{Entry}

-- an index: the sets that its entries may belong to, the most entries that it may have, and its entries, newest first
pub record Entries : Type 0 where
  pub sets : ℕ
  pub limit : ℕ
  pub entries : List Entry

-- two places are one
abbrev pub is_place : Place → Place → Bool
is_place p q = p.segment == q.segment && p.page == q.page && p.slot == q.slot

-- the entry is of this set
abbrev pub is_of : ℕ → Entry → Bool
is_of set e = e.set == set

-- the entry is of one of these sets
abbrev pub is_of_any : List ℕ → Entry → Bool
is_of_any sets e = list_any (λ n. n == e.set) sets

-- the entry is of the segment with this name
abbrev pub is_of_segment : ℕ → Entry → Bool
is_of_segment segment e = e.place.segment == segment

-- the entry is of this set and has this tag
abbrev pub has_tag : ℕ → ℕ → Entry → Bool
has_tag set tag e = is_of set e && e.tag == tag

-- the entry lies at this place
abbrev pub is_at : Place → Entry → Bool
is_at place e = is_place e.place place

-- the entry is of this set and lies at this place
abbrev pub is_in : ℕ → Place → Entry → Bool
is_in set place e = is_of set e && is_at place e

-- the entry lies on this page of the segment with this name
abbrev pub is_on : ℕ → ℕ → Entry → Bool
is_on segment page e = e.place.segment == segment && e.place.page == page

-- the entry is of this set and passes a test
abbrev pub passes_of : ℕ → (Entry → Bool) → Entry → Bool
passes_of set test e = is_of set e && test e

-- the entries of a set
abbrev pub of_set : ℕ → List Entry → List Entry
of_set set es = filter (is_of set) es

-- the entries of a set with a tag
abbrev pub of_tag : ℕ → ℕ → List Entry → List Entry
of_tag set tag es = filter (has_tag set tag) es

-- the entries without those of a kind
abbrev pub without : (Entry → Bool) → List Entry → List Entry
without is_dropped es = filter (λ e. not (is_dropped e)) es

-- an entry whose prediction is one less, and not below 0
abbrev pub lowered : Entry → Entry
lowered e = record e { prediction = e.prediction - 1 }

-- the entries with those of a kind lowered
abbrev pub with_lowered : (Entry → Bool) → List Entry → List Entry
with_lowered is_asked es = map (λ e. if is_asked e then lowered e else e) es

-- an index with other entries
abbrev pub with_entries : Entries → List Entry → Entries
with_entries index es = record { sets = index.sets; limit = index.limit; entries = es }

-- no two entries lie at one place
abbrev pub AreApart : List Entry → Type 0
AreApart es = AllPairs (λ a b. a.place ≢ b.place) es

-- no entry lies at this place
abbrev pub IsFree : Place → List Entry → Type 0
IsFree place es = All (λ e. e.place ≢ place) es
