-- The first entry of a segment, and the oldest one.
use Rattle.std.specs.Prelude.{◌≡◌, ◌≢◌, ◌⊎◌, ℕ, ◌<◌, not, List, All, Contains, Option, MatchOption, find, reverse, take_while}
use Rattle.klog_index.specs.declared.place.Place.{Place}
use Rattle.klog_index.specs.declared.entry.Entry.{Entry}
use Rattle.klog_index.specs.Entries.{is_of_any, is_of_segment}

-- a place lies on an earlier page than another, or before it on the same page
abbrev pub IsBefore : Place → Place → Type 0
IsBefore p q = (p.page < q.page) ⊎ ((p.page ≡ q.page) × (p.slot < q.slot))

-- no entry is of the segment with this name
abbrev pub NoneOfSegment : ℕ → List Entry → Type 0
NoneOfSegment segment es = All (λ e. e.place.segment ≢ segment) es

-- the entry is the one of least page, then slot, of the segment with this name
pub record IsFirstOf (segment : ℕ) (es : List Entry) (first : Entry) : Type 0 where
  pub listed : Contains es first
  pub of_segment : first.place.segment ≡ segment
  pub least : All (λ e. e.place.segment ≡ segment → ¬ IsBefore e.place first.place) es

-- the first entry of the segment with this name, if it has one
abbrev pub FindsFirst : ℕ → List Entry → Option Entry → Type 0
FindsFirst segment es found = MatchOption found (NoneOfSegment segment es) (IsFirstOf segment es)

-- of entries that stand oldest first: as far as they are of this segment, the first that is of none of these sets
abbrev pub first_but : ℕ → List ℕ → List Entry → Option Entry
first_but segment sets es = find (λ e. not (is_of_any sets e)) (take_while (is_of_segment segment) es)

-- the same of the entries of an index, which stand newest first
abbrev pub oldest_but : ℕ → List ℕ → List Entry → Option Entry
oldest_but segment sets es = first_but segment sets (reverse es)
