-- How messages spell the fields of a configuration.
use Rattle.std.specs.Prelude.{ℕ, List, codes}
use Rattle.record_pages.specs.declared.field.Field.{Field}
use Rattle.record_pages.specs.declared.field.Field.TheVariants.{Lanes, Sets, Memory, Segments, SegmentPages, Entries, Threshold, Admit}

-- the name of a field
abbrev pub name_of : Field → List ℕ
name_of Lanes = codes "lanes"
name_of Sets = codes "sets"
name_of Memory = codes "memory"
name_of Segments = codes "segments"
name_of SegmentPages = codes "segment_pages"
name_of Entries = codes "entries"
name_of Threshold = codes "threshold"
name_of Admit = codes "admit"
