-- Which entries records were taken of, by what a log knows of its segments.
use Rattle.std.specs.Prelude.{ℕ, ◌+◌, ◌-◌, ◌%◌, List, Bool, ◌==◌, ◌&&◌}
use Rattle.std.specs.List.{list_any}
use Rattle.klog_index.specs.declared.entry.Entry.{Entry}
use Rattle.klog_index.specs.Entries.{is_place}
use Rattle.klog.specs.declared.taken_record.TakenRecord.{TakenRecord}

-- taken records, the number of the oldest segment, and how many names there are
pub record SourceTest : Type 0 where
  pub taken : List TakenRecord
  pub first : ℕ
  pub names : ℕ

-- the number of a segment by its name
abbrev pub number_by : SourceTest → ℕ → ℕ
number_by s name = s.first + (name + (s.names - s.first % s.names)) % s.names

-- one of the records was taken of the entry: it lies at the entry's place, in the segment that has that name now
abbrev pub is_source_by : SourceTest → Entry → Bool
is_source_by s e = list_any (λ t. is_place e.place t.place && number_by s e.place.segment == t.segment) s.taken
