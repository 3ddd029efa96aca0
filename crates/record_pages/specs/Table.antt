-- The table of a configuration's fields, each with its number.
use Rattle.std.specs.Prelude.{ℕ, List, [], ◌∷◌, Option, option_map, find, Bool, not}
use Rattle.record_pages.specs.declared.config.Config.{Config}
use Rattle.record_pages.specs.declared.field.Field.{Field}
use Rattle.record_pages.specs.declared.field.Field.TheVariants as fields
use Rattle.record_pages.specs.Ranges.{range_of, is_in}

-- a row: a field and its number
pub record Row : Type 0 where
  pub field : Field
  pub number : ℕ

abbrev pub row : Field → ℕ → Row
row field number = record { field = field; number = number }

-- the table, in its order
abbrev pub table : Config → List Row
table c =
    row fields.Lanes c.lanes
    ∷ row fields.Sets c.sets
    ∷ row fields.Memory c.memory
    ∷ row fields.Segments c.segments
    ∷ row fields.SegmentPages c.segment_pages
    ∷ row fields.Entries c.entries
    ∷ row fields.Threshold c.threshold
    ∷ row fields.Admit c.admit
    ∷ []

-- a number out of its field's range
abbrev pub is_faulty : Row → Bool
is_faulty r = not (is_in (range_of r.field) r.number)

-- the first faulty field of the table, if there is one
abbrev pub first_faulty : Config → Option Field
first_faulty c = option_map (λ r. r.field) (find is_faulty (table c))
