-- The least and the greatest number that each field of a configuration may be.
use Rattle.std.specs.Prelude.{ℕ, Bool, ◌&&◌, nat_le}
use Rattle.record_pages.specs.declared.field.Field.{Field}
use Rattle.record_pages.specs.declared.field.Field.TheVariants.{Lanes, Sets, Memory, Segments, SegmentPages, Entries, Threshold, Admit}

-- the numbers from one to another, both of them too
pub record Range : Type 0 where
  pub least : ℕ
  pub greatest : ℕ

abbrev pub range : ℕ → ℕ → Range
range least greatest = record { least = least; greatest = greatest }

-- the range of a field
abbrev pub range_of : Field → Range
range_of Lanes = range 1 16
range_of Sets = range 1 65536
range_of Memory = range 1 1048576
range_of Segments = range 2 256
range_of SegmentPages = range 1 64
range_of Entries = range 1 1048576
range_of Threshold = range 1 32
range_of Admit = range 0 65536

-- a number is in a range
abbrev pub is_in : Range → ℕ → Bool
is_in r number = nat_le r.least number && nat_le number r.greatest
