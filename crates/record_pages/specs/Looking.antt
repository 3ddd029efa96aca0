-- The first record of a page with a key.
use Rattle.std.specs.Prelude.{ℕ, List, Option, Bool, find, nat_eq}
use Rattle.std.specs.List.{enumerate_from}
use Rattle.std.specs.Cmp.Lexicographic.{pointwise}
use Rattle.record_pages.specs.Recs.{Rec}
use Rattle.record_pages.specs.Lent.{record_shown}
use Rattle.record_pages.specs.declared.slot_record.SlotRecord.{SlotRecord}

-- whether a record has this key
abbrev pub has_key : List ℕ → Rec → Bool
has_key key r = pointwise nat_eq r.key key

-- the first record that has this key, with its slot, if the first of all has this slot
abbrev pub first_from : ℕ → List ℕ → List Rec → Option (ℕ × Rec)
first_from slot key rs = find (λ x. has_key key x.1) (enumerate_from slot rs)

-- the first record that has this key, with its slot
abbrev pub first_with : List ℕ → List Rec → Option (ℕ × Rec)
first_with key rs = first_from 0 key rs

-- the slot and the record of a find
abbrev pub found_shown : SlotRecord → ℕ × Rec
found_shown f = (f.slot, record_shown f.lent)
