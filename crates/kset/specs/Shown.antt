-- The visible records of a set.
use Rattle.std.specs.Prelude.{ℕ, Bool, List, Option, map, filter, find}
use Rattle.std.specs.List.{enumerate_from}
use Rattle.std.specs.FinSet.{contains}
use Rattle.set_hash.specs.Fnv.{fnv1a}
use Rattle.record_pages.specs.Recs.{Rec}
use Rattle.record_pages.specs.Looking.{has_key}
use Rattle.kset.specs.declared.set_record.SetRecord.{SetRecord}
use Rattle.kset.specs.Notes.{Notes, lets_show}
use Rattle.kset.specs.Sets.{SetsState, notes_of}
use Rattle.kset.specs.Pages.{page_records}

-- a record in its slot is visible: the filter admits its key, which is not struck
abbrev pub is_visible : Notes → ℕ × Rec → Bool
is_visible notes x = lets_show notes (fnv1a x.1.key)

-- the visible ones of these records, in order, each with its slot, if the first of all has this slot
abbrev pub visible_from : Notes → ℕ → List Rec → List (ℕ × Rec)
visible_from notes slot rs = filter (is_visible notes) (enumerate_from slot rs)

-- the visible records of a set, in page order, each with its slot
abbrev pub visible_in : (ℕ → Option (List ℕ)) → SetsState → ℕ → List (ℕ × Rec)
visible_in held k set = visible_from (notes_of k set) 0 (page_records held k set)

-- the first of them with this key
abbrev pub first_visible : List (ℕ × Rec) → List ℕ → Option (ℕ × Rec)
first_visible visible key = find (λ x. has_key key x.1) visible

-- a record, with whether its slot was hit
abbrev pub with_flag : Notes → ℕ × Rec → SetRecord
with_flag notes x = record { stored = x.1; hit = contains notes.hits x.0 }

-- these records, each with whether its slot was hit
abbrev pub with_flags : Notes → List (ℕ × Rec) → List SetRecord
with_flags notes visible = map (with_flag notes) visible
